-- `roster::forms::scripts_laid` meets its contract.
use native.Mathlib.Omega.{arith}
use Rattle.format.proofs.FormLaws.{laid-starts, laid-stops, laid-goes, laid-ends}
use Rattle.roster.proofs.forms.scripts_laid.Goals as goal

pub loop-t-init : goal.loop-t-init
loop-t-init c = laid-starts c.args.s.now

pub returns-then-not-laid_from : goal.returns-then-not-laid_from
returns-then-not-laid_from c =
    laid-stops c.args.s.now _ c.loop-t.t c.loop-t.end _ c.loop-t.invariant c.loop-t-test.true c.task_count-t-end.ensures
    c.laid_from.ensures c.if-not-laid_from.true

pub overflow_add-end : goal.overflow_add-end
overflow_add-end c = omega (arith, c.loop-t.invariant.low)

pub loop-t-preserved : goal.loop-t-preserved
loop-t-preserved c =
    laid-goes c.args.s.now c.loop-t.t c.loop-t.end _ _ c.loop-t.invariant c.laid_from.ensures c.if-not-laid_from.false
    c.length_at.ensures (omega arith)

pub returns : goal.returns
returns c =
    laid-ends c.args.s.now _ c.loop-t.t c.loop-t.end _ c.loop-t.invariant c.task_count-t-end.ensures (omega arith) c.task_table.ensures
