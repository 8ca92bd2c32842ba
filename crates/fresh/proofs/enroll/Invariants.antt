-- What the loops of `fresh::enroll` keep.
use Rattle.std.proofs.Common.{◌≡◌, [], take}
use Rattle.rules.specs.Fresh.{unstarted}
use Rattle.fresh.proofs.enroll.Given as goal

abbrev pub invariant-loop-ceiling : goal.invariant-loop-ceiling
invariant-loop-ceiling l = l.memory ≡ unstarted (record { bases = []; ceilings = take l.ceiling-index l.ceilings })

abbrev pub invariant-loop-base : goal.invariant-loop-base
invariant-loop-base l = l.memory ≡ unstarted (record { bases = take l.base-index l.bases; ceilings = l.fn.ceilings })
