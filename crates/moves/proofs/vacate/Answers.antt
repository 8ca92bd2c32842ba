-- `moves::vacate` meets its contract.
use Rattle.std.proofs.Common.{sym, ◌∙◌}
use Rattle.moves.proofs.MoveLaws.{busy-level, vacated-idle, vacated-busy}
use Rattle.moves.proofs.vacate.Goals as goal

pub preempt-requires : goal.preempt-requires
preempt-requires c =
    let e = sym c.running.ensures ∙ c.in-Some.is in
    record { joins = c.requires.dispatches.runner _ e; level = busy-level _ _ _ e c.requires.level }

pub returns-in-Some : goal.returns-in-Some
returns-in-Some c = c.preempt.ensures ∙ vacated-busy _ _ (sym c.running.ensures ∙ c.in-Some.is)

pub returns-in_default : goal.returns-in_default
returns-in_default c = vacated-idle _ (sym c.running.ensures ∙ c.in_default.is)
