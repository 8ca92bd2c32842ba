-- `soundness::tasks_good` meets its contract.
use Rattle.std.proofs.Common.{refl, ◌∙◌, sym, arith}
use Rattle.rules.specs.Lists.{below}
use Rattle.rules.proofs.SoundLaws.{below_more, below_fails}
use Rattle.soundness.proofs.tasks_good.Goals as goal

pub loop-t-init : goal.loop-t-init
unfolding below
loop-t-init c = refl

pub returns-then-not-task_good : goal.returns-then-not-task_good
returns-then-not-task_good c =
    sym (below_fails _ c.loop-t.t _ (omega (arith, c.task_count-t-end.ensures.value)) (sym c.task_good.ensures ∙ c.if-not-task_good.true))

pub loop-t-preserved : goal.loop-t-preserved
loop-t-preserved c = below_more c.loop-t.t _ c.loop-t.invariant (sym c.task_good.ensures ∙ c.if-not-task_good.false)
