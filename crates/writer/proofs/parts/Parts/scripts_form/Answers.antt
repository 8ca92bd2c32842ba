-- `writer::parts::Parts::scripts_form` meets its contract.
use mathlib.Core.Path.{◌≡◌, refl, sym, ◌∙◌}
use native.Mathlib.Omega.{arith}
use borrow.Author.Rules.{rules}
use Rattle.std.specs.Prelude.{Err}
use Rattle.encoding.proofs.FileLaws.{script-inside}
use Rattle.encoding.proofs.AnswerLaws.{lengths-known}
use Rattle.writer.specs.Lent.{lent}
use Rattle.writer.proofs.PartLaws.{judge-starts, judge-stops, judge-goes, judge-ends}
use Rattle.writer.proofs.parts.Parts.scripts_form.Goals as goal

pub loop-t-init : goal.loop-t-init
loop-t-init c = judge-starts (lent c.args.self.now)

pub bounds-self-t : goal.bounds-self-t
bounds-self-t c = omega (arith, (lengths-known (lent c.args.self.now) c.requires.lengths).0)

pub overflow_add-end : goal.overflow_add-end
overflow_add-end c =
    let p = lent c.args.self.now in
    omega (arith, c.loop-t.invariant.begins, script-inside p (lengths-known p c.requires.lengths).1 c.loop-t.t c.loop-t-test.true)

pub slice_bounds-steps_form-end : goal.slice_bounds-steps_form-end
slice_bounds-steps_form-end c =
    let p = lent c.args.self.now in
    omega (arith, c.loop-t.invariant.begins, script-inside p (lengths-known p c.requires.lengths).1 c.loop-t.t c.loop-t-test.true)

pub returns-in_err-steps_form : goal.returns-in_err-steps_form
returns-in_err-steps_form c =
    let e : c.from_residual.result ≡ Err c.in_err-steps_form.field-0.0 = search rules in
    e ∙ judge-stops (lent c.args.self.now) _ _ c.loop-t.t c.loop-t.start _ c.loop-t.invariant
    c.new-limits.ensures.tasks_value c.new-limits.ensures.objects_value refl _ _ c.loop-t-test.true
    (sym c.in_err-steps_form.was ∙ c.steps_form.ensures)

pub loop-t-preserved : goal.loop-t-preserved
loop-t-preserved c =
    judge-goes (lent c.args.self.now) _ _ c.loop-t.t c.loop-t.start _ c.loop-t.invariant
    c.new-limits.ensures.tasks_value c.new-limits.ensures.objects_value refl _ _
    (sym c.in_ok-steps_form.was ∙ c.steps_form.ensures)

pub returns : goal.returns
returns c = judge-ends (lent c.args.self.now) c.loop-t.t c.loop-t.start c.loop-t.invariant (omega arith)
