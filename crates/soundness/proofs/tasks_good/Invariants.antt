-- What the loop of `soundness::tasks_good` keeps.
use Rattle.std.proofs.Common.{◌≡◌, true}
use Rattle.rules.specs.Lists.{below}
use Rattle.soundness.specs.Tested.{task_sound}
use Rattle.soundness.proofs.tasks_good.Given as goal

abbrev pub invariant-loop-t : goal.invariant-loop-t
invariant-loop-t l = below l.t (task_sound l.memory) ≡ true
