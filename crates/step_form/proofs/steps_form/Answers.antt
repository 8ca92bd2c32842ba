-- `step_form::steps_form` meets its contract.
use mathlib.Core.Path.{◌≡◌, ap, sym, ◌∙◌}
use Prim.Native.Nat.{max}
use native.Mathlib.Omega.{arith}
use borrow.Author.Rules.{rules}
use Rattle.format.specs.Form.{steps_form}
use Rattle.format.specs.Check.{own_set}
use Rattle.format.proofs.StepLaws.{steps-length}
use Rattle.format.proofs.FormLaws.{form-good, form-broken}
use Rattle.step_form.proofs.LimitLaws.{within-passes}
use Rattle.step_form.proofs.OwnLaws.{loop-starts, loop-stops, loop-goes, loop-ends}
use Rattle.step_form.proofs.steps_form.Goals as goal

pub loop-k-init : goal.loop-k-init
loop-k-init c = loop-starts _ _ _ _

pub loop-k-preserved-then-within : goal.loop-k-preserved-then-within
loop-k-preserved-then-within c =
    let a = c.args in
    let part = a.part.now in
    let here = within-passes a.limits.now.tasks a.limits.now.objects a.t part c.loop-k.k c.loop-k-test.true a.limits.now.table
    a.limits.now.limited (sym c.within.ensures ∙ c.if-within.true) in
    let unset = here.1 in
    loop-goes _ _ _ _ _ c.loop-k.top.0 _ c.loop-k.invariant (omega (arith, steps-length part)) here.0 (omega arith)

pub returns-then-not-good_at : goal.returns-then-not-good_at
unfolding steps_form
returns-then-not-good_at c =
    let a = c.args in
    let wrong = form-broken a.limits.now.tasks a.limits.now.objects a.t a.part.now c.loop-k.k c.step_at-x.result c.loop-k-test.true
    c.step_at-x.ensures (sym c.good_at.ensures ∙ c.if-not-good_at.true) in
    loop-stops _ _ _ _ _ c.loop-k.k c.loop-k.top.0 _ _ c.loop-k.invariant c.loop-k-test.true wrong

pub loop-k-preserved : goal.loop-k-preserved
loop-k-preserved c =
    let good = form-good c.args.limits.now.tasks c.args.limits.now.objects c.args.t c.args.part.now c.loop-k.k c.step_at-x.result
    c.loop-k-test.true c.step_at-x.ensures (sym c.good_at.ensures ∙ c.if-not-good_at.false) in
    let value = c.own_set.ensures ∙ ap (own_set c.args.t) c.step_at-x.ensures in
    let high : c.max-top.result.0 ≡ max c.loop-k.top.0 c.own_set.result.0 = search rules in
    loop-goes _ _ _ _ _ c.loop-k.top.0 _ c.loop-k.invariant (omega (arith, steps-length c.args.part.now)) good
    (high ∙ ap (max c.loop-k.top.0) value)

pub returns : goal.returns
unfolding steps_form
returns c = loop-ends _ _ _ _ _ _ c.loop-k.top c.loop-k.invariant (steps-length c.args.part.now) (omega arith)
