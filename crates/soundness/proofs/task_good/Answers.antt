-- `soundness::task_good` meets its contract.
use Rattle.std.proofs.Common.{arith}
use Rattle.std.proofs.lemmas.Grind.{common_steps}
use Rattle.soundness.specs.Tested.{task_sound}
use Rattle.soundness.proofs.task_good.Goals as goal

pub returns-then-held_good : goal.returns-then-held_good
unfolding task_sound
returns-then-held_good c = grind (arith, common_steps)

pub returns-else-held_good : goal.returns-else-held_good
unfolding task_sound
returns-else-held_good c = grind (arith, common_steps)
