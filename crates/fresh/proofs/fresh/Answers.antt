-- `fresh::fresh` meets its contract.
use Rattle.std.proofs.Common.{◌∙◌, refl}
use Rattle.rules.specs.Fresh.{Setup, fresh_model}
use Rattle.fresh.proofs.FreshLaws.{new-count, fresh-joins, fresh-dispatches}
use Rattle.fresh.proofs.fresh.Goals as goal

pub join_all-requires : goal.join_all-requires
join_all-requires c =
    let x : Setup = record { bases = c.args.bases.now; ceilings = c.args.ceilings.now } in
    rw c.enroll.ensures (fresh-joins x c.requires.startable)

pub dispatch-requires : goal.dispatch-requires
dispatch-requires c =
    let x : Setup = record { bases = c.args.bases.now; ceilings = c.args.ceilings.now } in
    rw (c.join_all.ensures, c.enroll.ensures, new-count x.bases) (fresh-dispatches x c.requires.startable)

pub returns : goal.returns
unfolding fresh_model
returns c =
    let x : Setup = record { bases = c.args.bases.now; ceilings = c.args.ceilings.now } in
    c.dispatch.ensures ∙ rw (c.join_all.ensures, c.enroll.ensures, new-count x.bases) refl
