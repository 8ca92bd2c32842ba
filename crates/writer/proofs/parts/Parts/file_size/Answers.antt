-- `writer::parts::Parts::file_size` meets its contract.
use mathlib.Core.Path.{sym, ◌∙◌}
use native.Mathlib.Omega.{arith}
use Rattle.rules.proofs.LimitLaws.{counted-by}
use Rattle.encoding.proofs.AnswerLaws.{kept, file-long}
use Rattle.encoding.proofs.FileLaws.{file-length}
use Rattle.writer.specs.Lent.{lent}
use Rattle.writer.proofs.parts.Parts.file_size.Goals as goal

pub returns-then-self-gt-LARGEST : goal.returns-then-self-gt-LARGEST
returns-then-self-gt-LARGEST c =
    let p = lent c.args.self.now in
    file-long p (sym c.parts_form.ensures ∙ c.in_ok-parts_form.was) (omega (arith, file-length p))

pub size-size-requires : goal.size-size-requires
size-size-requires c =
    let k = counted-by _ _ (kept (lent c.args.self.now) (sym c.parts_form.ensures ∙ c.in_ok-parts_form.was)).counts in
    record { tasks = k.tasks; objects = k.objects; steps = omega arith }
