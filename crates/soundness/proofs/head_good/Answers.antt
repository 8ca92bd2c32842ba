-- `soundness::head_good` meets its contract.
use Rattle.std.proofs.Common.{◌≡◌, arith, eqb, length, true}
use borrow.Author.Tests.{eq-eqb}
use Rattle.std.proofs.lemmas.Grind.{common_steps}
use Rattle.rules.specs.Limits.{last_priority}
use Rattle.soundness.proofs.head_good.Goals as goal

pub returns-then-ceilings_good : goal.returns-then-ceilings_good
returns-then-ceilings_good c =
    let lines : eqb (length c.args.memory.now.ready) last_priority ≡ true = eq-eqb _ _ c.requires in
    rw (lines, ← c.object_count.ensures.value, ← c.task_count.ensures.value) (grind (arith, common_steps))

pub returns-else-ceilings_good : goal.returns-else-ceilings_good
returns-else-ceilings_good c =
    let lines : eqb (length c.args.memory.now.ready) last_priority ≡ true = eq-eqb _ _ c.requires in
    rw (lines, ← c.object_count.ensures.value, ← c.task_count.ensures.value) (grind (arith, common_steps))
