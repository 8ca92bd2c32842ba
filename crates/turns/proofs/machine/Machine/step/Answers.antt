-- `turns::machine::Machine::step` meets its contract.
use Rattle.std.proofs.Common.{rules, arith, ◌∙◌, sym}
use Rattle.format.proofs.FormedLaws.{part-inside}
use Rattle.turns.proofs.ScriptLaws.{next-fits}
use Rattle.turns.proofs.RunLaws.{runner_listed, runner_counted, step-refused, step-accepted, going_laws}
use Rattle.turns.proofs.machine.Machine.step.Goals as goal

pub invariant_of-self : goal.invariant_of-self
invariant_of-self c = search (rules, going_laws)

pub invariant_of-self-else-number-ne0 : goal.invariant_of-self-else-number-ne0
invariant_of-self-else-number-ne0 c = search (rules, going_laws)

pub step-x-requires-clause-within : goal.step-x-requires-clause-within
step-x-requires-clause-within c =
    part-inside _ c.self.invariant.form _ (runner_counted _ _ _ _ _ c.self.invariant c.running.ensures c.in-Some.is)

pub position_after-requires : goal.position_after-requires
position_after-requires c =
    next-fits _ _ _ _ c.self.invariant.form (runner_counted _ _ _ _ _ c.self.invariant c.running.ensures c.in-Some.is) (omega arith)
    c.step-x.ensures

pub returns-then-number-ne0 : goal.returns-then-number-ne0
returns-then-number-ne0 c =
    let e = c.step-x.ensures in
    let runs = sym c.running.ensures ∙ c.in-Some.is in
    let low = runner_listed _ _ _ _ _ c.self.invariant c.running.ensures c.in-Some.is in
    rw (← c.self.view_is)
    (step-refused _ _ _ _ runs low _ _ _ _ c.number.ensures c.if-number-ne0.true (rw e at c.perform-ruling.ensures.did))

pub returns-else-number-ne0 : goal.returns-else-number-ne0
returns-else-number-ne0 c =
    let e = c.step-x.ensures in
    let runs = sym c.running.ensures ∙ c.in-Some.is in
    let low = runner_listed _ _ _ _ _ c.self.invariant c.running.ensures c.in-Some.is in
    rw (← c.self.view_is)
    (step-accepted _ _ _ _ runs low _ _ _ _ c.number.ensures c.if-number-ne0.false (rw e at c.position_after.ensures)
    (rw e at c.perform-ruling.ensures.did))
