-- `inputs::input_at` meets its contract.
use mathlib.Core.Path.{ap, sym, ◌∙◌}
use native.Mathlib.Omega.{arith}
use Rattle.trace.specs.Inputs.{decoded_at, input_at}
use Rattle.trace.specs.declared.Input.TheVariants.{Clock}
use Rattle.trace.proofs.InputLaws.{input-of-step, input-clock, bad-clock, input-release, bad-release, input-set, input-step}
use Rattle.inputs.proofs.RecordLaws.{fields-at}
use Rattle.inputs.proofs.input_at.Goals as goal

pub returns-then-kind-eq-STEP : goal.returns-then-kind-eq-STEP
unfolding input_at decoded_at
returns-then-kind-eq-STEP c = input-of-step _ _ _ c.if-kind-eq-STEP.true

pub returns-in-1 : goal.returns-in-1
unfolding input_at decoded_at
returns-in-1 c =
    let e = fields-at c.args.s.now c.args.i _ c.type_inv.s c.number_in-value.ensures in
    ap Clock e.value ∙ input-clock _ _ _ c.in-1.is c.if-a-eq0.true

pub returns-in-2 : goal.returns-in-2
unfolding input_at decoded_at
returns-in-2 c =
    let e = fields-at c.args.s.now c.args.i _ c.type_inv.s c.number_in-value.ensures in
    input-release _ _ _ c.in-2.is (sym e.value ∙ c.if-value-eq0.true)

pub returns-in-4 : goal.returns-in-4
unfolding input_at decoded_at
returns-in-4 c =
    let e = fields-at c.args.s.now c.args.i _ c.type_inv.s c.number_in-value.ensures in
    input-set _ _ _ _ c.in-4.is e.value

pub returns-in_default : goal.returns-in_default
unfolding input_at decoded_at
returns-in_default c = bad-clock _ _ _ c.in-1.is c.if-a-eq0.false

pub returns-in_default-2 : goal.returns-in_default-2
unfolding input_at decoded_at
returns-in_default-2 c =
    let e = fields-at c.args.s.now c.args.i _ c.type_inv.s c.number_in-value.ensures in
    bad-release _ _ _ c.in-2.is (λ z. c.if-value-eq0.false (e.value ∙ z))

pub returns-in_default-3 : goal.returns-in_default-3
unfolding input_at decoded_at
returns-in_default-3 c = input-step _ _ _ (λ e. omega arith) (λ e. omega arith) (λ e. omega arith)
