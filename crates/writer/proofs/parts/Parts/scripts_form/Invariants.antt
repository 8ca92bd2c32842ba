-- What the loop of `writer::parts::Parts::scripts_form` keeps.
use Rattle.writer.specs.Lent.{lent}
use Rattle.writer.proofs.PartLaws.{JudgedTo}
use Rattle.writer.proofs.parts.Parts.scripts_form.Given as goal

abbrev pub invariant-loop-t : goal.invariant-loop-t
invariant-loop-t l = JudgedTo (lent l.self) l.t l.start
