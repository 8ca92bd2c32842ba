-- `dispatch::State::fresh` meets its contract.
use Rattle.std.proofs.Common.{◌∙◌, sym}
use Rattle.rules.specs.Fresh.{Setup}
use Rattle.dispatch.specs.Methods.{fresh_of}
use Rattle.dispatch.proofs.FreshLaws.{begun-0, begun_refused}
use Rattle.dispatch.proofs.State.fresh.Goals as goal

pub started-state-requires : goal.started-state-requires
started-state-requires c =
    let s : Setup = record { bases = c.args.bases.now; ceilings = c.args.ceilings.now } in
    (begun-0 s (sym c.in-Ok.is ∙ c.tested-answer.ensures)).0

pub returns-in-Ok : goal.returns-in-Ok
unfolding fresh_of
returns-in-Ok c =
    let s : Setup = record { bases = c.args.bases.now; ceilings = c.args.ceilings.now } in
    rw (c.tested-answer.ensures, c.started-state.ensures, (begun-0 s (sym c.in-Ok.is ∙ c.tested-answer.ensures)).1)

pub returns-in-Err : goal.returns-in-Err
unfolding fresh_of
returns-in-Err c =
    let s : Setup = record { bases = c.args.bases.now; ceilings = c.args.ceilings.now } in
    rw (c.tested-answer.ensures, c.single-state.ensures, begun_refused s _ (sym c.in-Err.is ∙ c.tested-answer.ensures))
