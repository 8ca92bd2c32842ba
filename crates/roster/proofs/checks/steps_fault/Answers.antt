-- `roster::checks::steps_fault` meets its contract.
use mathlib.Core.Path.{refl, ◌≡◌, sym, ◌∙◌, subst}
use native.Mathlib.Omega.{arith}
use borrow.Author.Rules.{rules}
use Rattle.std.specs.Prelude.{Err}
use Rattle.format.specs.Steps.{step_count, steps_of}
use Rattle.format.specs.Form.{names_listed}
use Rattle.format.proofs.StepLaws.{steps-length, steps-past}
use Rattle.roster.proofs.LoopLaws.{listed_at, WalkedTo, walk-starts, walk-rises, walk-stops, walk-goes, walk-room, walk-ends, walk-works}
use Rattle.roster.proofs.checks.steps_fault.Goals as goal

pub loop-k-init : goal.loop-k-init
loop-k-init c =
    let a = c.args in
    subst (WalkedTo a.ceilings.now a.top.0 a.t (steps_of a.part.now) 0) (sym c.new-held.ensures)
    (walk-starts a.ceilings.now a.top.0 a.t (steps_of a.part.now))

pub loop-k-preserved-then-part-k-eq-WORK : goal.loop-k-preserved-then-part-k-eq-WORK
loop-k-preserved-then-part-k-eq-WORK c =
    walk-works c.args.part.now c.loop-k.k c.loop-k-test.true c.if-part-k-eq-WORK.true _ _ _ _ c.loop-k.invariant

pub step_fault-requires : goal.step_fault-requires
step_fault-requires c =
    record {
      held_value = walk-rises _ _ _ _ _ _ c.loop-k.invariant;
      listed = listed_at _ _ _ _ c.requires.all_listed c.step_at-x.ensures;
    }

pub returns-in_err-step_fault : goal.returns-in_err-step_fault
returns-in_err-step_fault c =
    let e : c.from_residual.result ≡ Err c.in_err-step_fault.field-0.0 = search rules in
    let size = steps-length c.args.part.now in
    e ∙ walk-stops _ _ _ _ _ _ c.step_at-x.result c.loop-k.invariant c.step_at-x.ensures _ (omega arith)
    (sym c.in_err-step_fault.was ∙ c.step_fault.ensures)

pub after-requires : goal.after-requires
after-requires c =
    walk-room _ _ _ _ _ _ c.step_at-x.result c.loop-k.invariant c.step_at-x.ensures c.requires.all_listed c.requires.ceilings_len_bound
    (sym c.in_ok-step_fault.was ∙ c.step_fault.ensures)

pub loop-k-preserved : goal.loop-k-preserved
loop-k-preserved c =
    let a = c.args in
    subst (WalkedTo a.ceilings.now a.top.0 a.t (steps_of a.part.now) _) (sym c.after.ensures)
    (walk-goes _ _ _ _ _ _ c.step_at-x.result c.loop-k.invariant c.step_at-x.ensures
    (sym c.in_ok-step_fault.was ∙ c.step_fault.ensures))

pub step_fault-requires-2 : goal.step_fault-requires-2
unfolding names_listed
step_fault-requires-2 c = record { held_value = walk-rises _ _ _ _ _ _ c.loop-k.invariant; listed = (0, refl) }

pub returns : goal.returns
returns c =
    let part = c.args.part.now in
    let k = c.loop-k.k in
    let end : k ≡ step_count part = omega arith in
    walk-ends _ _ _ _ k _ _ c.loop-k.invariant (sym (steps-past part k (omega arith))) _ _ end (sym (steps-length part))
    c.step_fault-2.ensures
