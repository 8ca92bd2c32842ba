-- What the loops of `inputs::each_good` keep.
use mathlib.Core.Path.{◌≡◌}
use Prim.Native.Nat.{◌/◌, ◌%◌}
use mathlib.Core.Bool.{◌&&◌}
use lib.Dec.{eqb}
use Rattle.rules.specs.Lists.{below}
use Rattle.trace.specs.Inputs.{event_good}
use Rattle.inputs.proofs.each_good.Given as goal

abbrev pub invariant-loop-event : goal.invariant-loop-event
invariant-loop-event l = (eqb l.faults 0 && eqb (l.joined / 8 % 32) 0) ≡ below l.event-index (event_good l.s)
