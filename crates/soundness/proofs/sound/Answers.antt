-- `soundness::sound` meets its contract.
use Rattle.std.proofs.Common.{arith}
use Rattle.std.proofs.lemmas.Grind.{common_steps}
use Rattle.soundness.proofs.CountLaws.{counted_none}
use Rattle.soundness.proofs.TestedLaws.{tested, tested-is}
use Rattle.soundness.proofs.sound.Goals as goal

pub queues_good-requires-clause-counted : goal.queues_good-requires-clause-counted
queues_good-requires-clause-counted c = counted_none _

pub returns-then-queues_good : goal.returns-then-queues_good
unfolding tested
returns-then-queues_good c = rw (← tested-is c.args.memory.now) (grind (arith, common_steps))

pub returns-else-queues_good : goal.returns-else-queues_good
unfolding tested
returns-else-queues_good c = rw (← tested-is c.args.memory.now) (grind (arith, common_steps))
