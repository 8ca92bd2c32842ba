-- What the loop of `writer::parts::total` keeps.
use Rattle.writer.proofs.PartLaws.{Summed}
use Rattle.writer.proofs.parts.total.Given as goal

abbrev pub invariant-loop-n : goal.invariant-loop-n
invariant-loop-n l = Summed l.lengths l.n-index l.sum
