-- What the loop of `fresh::join_all` keeps.
use Rattle.std.proofs.Common.{◌≡◌}
use Rattle.rules.specs.Fresh.{join_from}
use Rattle.fresh.proofs.join_all.Given as goal

abbrev pub invariant-loop-t : goal.invariant-loop-t
invariant-loop-t l = l.memory ≡ join_from 0 l.t l.fn.memory
