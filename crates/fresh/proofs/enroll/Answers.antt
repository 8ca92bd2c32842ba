-- `fresh::enroll` meets its contract.
use Rattle.std.proofs.Common.{◌∙◌, ap, take, length, length-take, arith}
use Rattle.memory.specs.Memory.{waiting_in}
use Rattle.rules.specs.Model.{Model}
use Rattle.fresh.proofs.FreshLaws.{new-count, newcomer-more}
use Rattle.fresh.proofs.enroll.Goals as goal

pub add_task-requires : goal.add_task-requires
add_task-requires c =
    let l = c.loop-base in
    let count = ap (λ (m : Model). length m.tasks) l.invariant ∙ new-count (take l.base-index c.args.bases.now) in
    omega (arith, count, length-take l.base-index c.args.bases.now, c.requires.startable.count, c.loop-base-test.true)

pub loop-base-preserved : goal.loop-base-preserved
unfolding waiting_in
loop-base-preserved c =
    newcomer-more c.args.bases.now c.args.ceilings.now _ _ _ c.loop-base-test.true c.loop-base.invariant
    (c.add_task.ensures ∙ rw c.new.ensures)
