-- `roster::forms::scripts_form` meets its contract.
use mathlib.Core.Path.{◌≡◌, sym, ◌∙◌}
use native.Mathlib.Omega.{arith}
use borrow.Author.Rules.{rules}
use Rattle.std.specs.Prelude.{Err}
use Rattle.format.proofs.FormLaws.{script-inside, task-row-inside}
use Rattle.roster.proofs.TopLaws.{forms-start, forms-stop, forms-go, forms-end}
use Rattle.roster.proofs.forms.scripts_form.Goals as goal

pub loop-t-init : goal.loop-t-init
loop-t-init c = forms-start c.args.s.now _ (search rules)

pub script_part-requires : goal.script_part-requires
script_part-requires c =
    let low = c.loop-t-test.true in
    record {
      task_row_size_in_bounds = task-row-inside c.args.s.now c.requires.s_value c.loop-t.t (omega arith);
      t_in_bounds = script-inside c.args.s.now c.requires.s_value c.loop-t.t (omega arith);
    }

pub returns-in_err-tops-clause-value : goal.returns-in_err-tops-clause-value
returns-in_err-tops-clause-value c =
    let e : c.from_residual.result ≡ Err c.in_err-tops.field-0.0 = search rules in
    rw e (sym (forms-stop c.args.s.now c.loop-t.t _ _ _ _ c.loop-t.tops c.loop-t.invariant (omega arith)
    (c.new-limits.ensures.tasks_value ∙ c.task_count.ensures) (c.new-limits.ensures.objects_value ∙ c.object_count.ensures)
    c.script_part.ensures c.base_at.ensures _ _ (sym c.in_err-tops.was ∙ c.steps_form.ensures)))

pub loop-t-preserved : goal.loop-t-preserved
loop-t-preserved c =
    forms-go c.args.s.now c.loop-t.t _ _ _ _ c.loop-t.tops c.loop-t.invariant (omega arith)
    (c.new-limits.ensures.tasks_value ∙ c.task_count.ensures) (c.new-limits.ensures.objects_value ∙ c.object_count.ensures)
    c.script_part.ensures c.base_at.ensures _ c.requires.s_in_bounds (sym c.in_ok-tops.was ∙ c.steps_form.ensures)

pub returns-clause-value : goal.returns-clause-value
returns-clause-value c =
    sym (forms-end c.args.s.now c.loop-t.t _ c.loop-t.tops c.loop-t.invariant c.task_count-t-end.ensures (omega arith)).0

pub returns-clause-topped : goal.returns-clause-topped
returns-clause-topped c =
    λ e. (forms-end c.args.s.now c.loop-t.t _ c.loop-t.tops c.loop-t.invariant c.task_count-t-end.ensures (omega arith)).1
