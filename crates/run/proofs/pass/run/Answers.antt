-- `run::pass::run` meets its contract.
use Rattle.std.proofs.Common.{arith, sym}
use Rattle.std.proofs.lemmas.Result.{err_from_is_err_and}
use Rattle.trace.proofs.RunLaws.{run-roster, run-events, run_short, run-done}
use Rattle.run.proofs.pass.run.Goals as goal

pub returns-in_err-check : goal.returns-in_err-check
returns-in_err-check c =
    let p = err_from_is_err_and c.from_residual.result c.from_residual.ensures.1 in
    let whole = run-roster c.args.roster.now c.args.events.now c.args.buffer.now _ (sym c.in_err-check.ensures) in
    rw (p.1, p.2) (record { value = whole.0; buffer_after = whole.1 })

pub returns-then-not-events_good : goal.returns-then-not-events_good
returns-then-not-events_good c =
    let a = c.args in
    let passes = sym c.in_ok-check.ensures in
    let whole = run-events a.roster.now a.events.now a.buffer.now passes (sym c.if-not-events_good.ensures) in
    record { value = whole.0; buffer_after = whole.1 }

pub returns-then-buffer-events : goal.returns-then-buffer-events
returns-then-buffer-events c =
    let a = c.args in
    let passes = sym c.in_ok-check.ensures in
    let whole = run_short a.roster.now a.events.now a.buffer.now passes (sym c.if-not-events_good.ensures)
    (omega (arith, c.if-buffer-events.true)) in
    record { value = whole.0; buffer_after = whole.1 }

pub run_through-requires : goal.run_through-requires
run_through-requires c = record { passes = sym c.in_ok-check.ensures; room = omega (arith, c.if-buffer-events.false) }

pub returns : goal.returns
returns c =
    let a = c.args in
    let passes = sym c.in_ok-check.ensures in
    let whole = run-done a.roster.now a.events.now a.buffer.now passes _ (sym c.if-not-events_good.ensures)
    (omega (arith, c.if-buffer-events.false)) c.run_through.ensures in
    record { value = whole.0; buffer_after = whole.1 }
