-- The claims of written rosters.
use mathlib.Core.Path.{ap, sym, ◌∙◌}
use mathlib.Core.List.{List}
use Prim.Native.Nat.{ℕ}
use lib.ListN.{length, take, drop}
use lib.Seq.{take-append_seam}
use Rattle.format.specs.Roster.{Roster, roster_of}
use Rattle.format.specs.Form.{form_of}
use Rattle.format.specs.declared.Fault.TheVariants.{BadLength}
use Rattle.encoding.specs.File.{file_of}
use Rattle.encoding.specs.Answers.{write_buffer_of}
use Rattle.encoding.specs.Encoding.{parts_of}
use Rattle.encoding.specs.Claims.{ReadsBack, RefusesAsRead, LengthBeforeRoom, OneEncoding, WritesAgain}
use Rattle.encoding.proofs.AnswerLaws.{sizes-of, sizes, file-long, file-parts, file-passes, done-file, answer-refused}
use Rattle.encoding.proofs.AnswerLaws.{answer-done, buffer-written, part-whole}
use Rattle.encoding.proofs.ReadLaws.{as_read, file-given}
use Rattle.encoding.proofs.EncodingLaws.{encoded, read-sizes}

pub refuses-as-read : RefusesAsRead
refuses-as-read p e f h = as_read p (sizes-of p e f h)

pub reads-back : ReadsBack
reads-back p out e =
    let ok = done-file p (length out) e in
    let file = part-whole p (length out) e in
    let buffer = buffer-written p out e in
    record {
      front =
          ap (λ (l : List ℕ). take (length l) (write_buffer_of p out)) file ∙
          (ap (take (length (file_of p))) buffer ∙ (take-append_seam (file_of p) (drop (length (file_of p)) out) ∙ sym file));
      form = ap form_of file ∙ (as_read p (sizes p ok) ∙ file-parts p ok);
      says = ap roster_of file ∙ file-given p (sizes p ok);
    }

pub length-before-room : LengthBeforeRoom
length-before-room p size e h = answer-refused p size BadLength (file-long p e h)

pub one-encoding : OneEncoding
one-encoding s u sb ub sp up =
    ((λ e. sym (encoded s sb sp) ∙ (ap (λ (r : Roster). file_of (parts_of r)) e ∙ encoded u ub up)), (λ e. ap roster_of e))

pub writes_again : WritesAgain
writes_again s bytes ok =
    let p = parts_of (roster_of s) in
    let file = encoded s bytes ok in
    let known = read-sizes s bytes ok in
    let passes = sym (as_read p known) ∙ (ap form_of file ∙ ok) in
    record {
      answer = λ size h. answer-done p size (file-passes p passes known.small) (rw file h);
      file = file;
    }
