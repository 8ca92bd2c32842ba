-- What the loop of `soundness::distinct` keeps.
use Rattle.soundness.proofs.DistinctLaws.{Seen}
use Rattle.soundness.proofs.distinct.Given as goal

abbrev pub invariant-loop-o : goal.invariant-loop-o
invariant-loop-o l = Seen l.held l.seen l.o-index
