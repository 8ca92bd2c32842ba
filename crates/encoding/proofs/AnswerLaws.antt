-- Laws of the writer's answers: what is known where nothing is refused.
use Rattle.std.specs.Prelude.{Ok, Err}
use mathlib.Core.Path.{◌≡◌, refl, ap, sym, ◌∙◌}
use mathlib.Core.Bool.{true, false, cond, not}
use mathlib.Core.List.{List, []}
use Prim.Native.Nat.{ℕ, ◌*◌, ◌≤◌, ◌<◌}
use borrow.Author.Tests.{eqb-true, lt-ltb, le-ltb, ltb-false, not-false}
use lib.Dec.{eqb, ltb}
use lib.ListN.{length}
use Rattle.rules.specs.Limits.{largest_roster}
use Rattle.rules.specs.Fresh.{setup_counted, setup_in_range}
use Rattle.rules.proofs.Choices.{clash, cond-true, cond-false, and_left, and_right}
use Rattle.rules.proofs.LimitLaws.{counted-by}
use Rattle.words.specs.Words.{over_front}
use Rattle.format.specs.Limits.{step_size}
use Rattle.format.specs.Answers.{passed, Verdict}
use Rattle.format.specs.declared.Fault.{Fault}
use Rattle.format.specs.declared.Fault.TheVariants.{BadLength, BadCounts, BadLayout, BadValues}
use Rattle.format.proofs.TestLaws.{by-test, past, passed_is}
use Rattle.encoding.specs.File.{Parts, tasks_of, steps_before, file_of}
use Rattle.encoding.specs.Answers.{WriteAnswer, refused, wrote, lengths_add_up, lent_scripts_form, parts_form, file_form}
use Rattle.encoding.specs.Answers.{write_answer_of, write_buffer_of}
use Rattle.encoding.specs.Answers.{written_of}
use Rattle.encoding.specs.declared.WriteError.TheVariants.{Refused, ShortBuffer}
use Rattle.encoding.proofs.FileLaws.{Sizes}

module _ (p : Parts) where
  -- 14
  pub lengths-known : lengths_add_up p ≡ true →
      (length p.lengths ≡ tasks_of p) × (step_size * steps_before p.lengths (tasks_of p) ≡ length p.steps)
  unfolding lengths_add_up
  lengths-known e =
      let a = eqb (length p.lengths) (tasks_of p) in
      let b = eqb (step_size * steps_before p.lengths (tasks_of p)) (length p.steps) in
      (eqb-true _ _ (and_left a b e), eqb-true _ _ (and_right a b e))

  -- what passes 13 to 16
  pub record Kept : Type 0 where
    pub counts : setup_counted p.setup ≡ true
    pub lengths : lengths_add_up p ≡ true
    pub values : setup_in_range p.setup ≡ true
    pub scripts : lent_scripts_form p ≡ Ok tt

  pub kept : parts_form p ≡ Ok tt → Kept
  unfolding parts_form
  kept e =
      let a = past (not (setup_counted p.setup)) (Err BadCounts) _ refl e in
      let b = past (not (lengths_add_up p)) (Err BadLayout) _ refl a.1 in
      let d = past (not (setup_in_range p.setup)) (Err BadValues) _ refl b.1 in
      record { counts = not-false _ a.0; lengths = not-false _ b.0; values = not-false _ d.0; scripts = d.1 }

  -- 11
  file-then : parts_form p ≡ Ok tt → file_form p ≡ cond (ltb largest_roster (length (file_of p))) (Err BadLength) (Ok tt)
  unfolding file_form
  file-then e = ap (λ (v : Verdict). cond (passed v) (cond (ltb largest_roster (length (file_of p))) (Err BadLength) (Ok tt)) v) e

  pub file-long : parts_form p ≡ Ok tt → largest_roster < length (file_of p) → file_form p ≡ Err BadLength
  file-long e h = file-then e ∙ cond-true _ (Err BadLength) (Ok tt) (lt-ltb largest_roster _ h)

  pub file-passes : parts_form p ≡ Ok tt → length (file_of p) ≤ largest_roster → file_form p ≡ Ok tt
  file-passes e h = file-then e ∙ cond-false _ (Err BadLength) (Ok tt) (le-ltb largest_roster _ h)

  pub file-parts : file_form p ≡ Ok tt → parts_form p ≡ Ok tt
  unfolding file_form
  file-parts e =
      by-test (passed (parts_form p)) (λ g. passed_is _ g) (λ g. sym (cond-false (passed (parts_form p)) _ (parts_form p) g) ∙ e)

  pub file-fits : file_form p ≡ Ok tt → length (file_of p) ≤ largest_roster
  file-fits e =
      by-test (ltb largest_roster (length (file_of p)))
      (λ g. clash (sym (ap passed e) ∙ ap passed (file-then (file-parts e) ∙ cond-true _ (Err BadLength) (Ok tt) g)))
      (λ g. ltb-false _ _ g)

  -- the sizes of what passes
  pub sizes-of : setup_counted p.setup ≡ true → lengths_add_up p ≡ true → length (file_of p) ≤ largest_roster → Sizes p
  sizes-of e f h =
      record {
        counts = counted-by _ _ e;
        each = (lengths-known f).0;
        whole = (lengths-known f).1;
        small = h;
      }

  pub sizes : file_form p ≡ Ok tt → Sizes p
  sizes e = let k = kept (file-parts e) in sizes-of k.counts k.lengths (file-fits e)

  -- 22
  module _ (size : ℕ) where
    answer-then : file_form p ≡ Ok tt → write_answer_of p size ≡ cond (ltb size (length (file_of p))) (Err ShortBuffer) (Ok tt)
    unfolding write_answer_of
    answer-then e = ap (λ (v : Verdict). cond (passed v) (cond (ltb size (length (file_of p))) (Err ShortBuffer) (Ok tt)) (refused v)) e

    pub answer-refused : (f : Fault) → file_form p ≡ Err f → write_answer_of p size ≡ Err (Refused f)
    unfolding write_answer_of
    answer-refused f e =
        ap (λ (v : Verdict). cond (passed v) (cond (ltb size (length (file_of p))) (Err ShortBuffer) (Ok tt)) (refused v)) e

    pub answer-done : file_form p ≡ Ok tt → length (file_of p) ≤ size → write_answer_of p size ≡ Ok tt
    answer-done e h = answer-then e ∙ cond-false _ (Err ShortBuffer) (Ok tt) (le-ltb size _ h)

    -- what is known of a file that is written
    refused-done : (v : Verdict) → passed v ≡ false → refused v ≡ Ok tt → ⊥
    refused-done (Ok done) g e = clash g
    refused-done (Err f) g e = clash (sym (ap wrote e))

    pub done-file : write_answer_of p size ≡ Ok tt → file_form p ≡ Ok tt
    unfolding write_answer_of
    done-file e =
        by-test (passed (file_form p)) (λ g. passed_is _ g)
        (λ g. absurd (refused-done (file_form p) g (sym (cond-false (passed (file_form p)) _ _ g) ∙ e)))

    pub done-room : write_answer_of p size ≡ Ok tt → length (file_of p) ≤ size
    done-room e =
        by-test (ltb size (length (file_of p)))
        (λ g. clash (sym (ap wrote e) ∙ ap wrote (answer-then (done-file e) ∙ cond-true _ (Err ShortBuffer) (Ok tt) g)))
        (λ g. ltb-false _ _ g)

    -- the part that is handed back
    pub part-whole : write_answer_of p size ≡ Ok tt → written_of p size ≡ file_of p
    unfolding written_of
    part-whole e = ap (λ (x : WriteAnswer). cond (wrote x) (file_of p) []) e

  -- the buffer
  pub buffer-written : (out : List ℕ) → write_answer_of p (length out) ≡ Ok tt → write_buffer_of p out ≡ over_front (file_of p) out
  unfolding write_buffer_of
  buffer-written out e = ap (λ (x : WriteAnswer). cond (wrote x) (over_front (file_of p) out) out) e
