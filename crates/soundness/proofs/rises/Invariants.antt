-- What the loop of `soundness::rises` keeps.
use Rattle.std.proofs.Common.{◌≡◌, map, drop}
use Rattle.rules.specs.Priorities.{level}
use Rattle.rules.specs.Sound.{rising}
use Rattle.soundness.proofs.rises.Given as goal

abbrev pub invariant-loop-o : goal.invariant-loop-o
invariant-loop-o l =
    rising (map level l.ceilings) l.fn.p.0 l.held ≡ rising (map level l.ceilings) l.low.0 (drop l.o-index l.held)
