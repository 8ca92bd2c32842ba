-- `events::finish` meets its contract.
use Rattle.std.proofs.Common.{◌≡◌, refl, sym, ◌∙◌, subst}
use Rattle.rules.specs.Moves.{stopped}
use Rattle.rules.specs.Events.{apply, end}
use Rattle.rules.specs.Histories.{delay_fits}
use Rattle.rules.specs.declared.Event.TheVariants.{Finish}
use Rattle.rules.proofs.EventLaws.{finish-0}
use Rattle.rules.proofs.Pending.{pending-end}
use Rattle.rules.proofs.Soundness.{sound-good}
use Rattle.moves.specs.Room.{Dispatches}
use Rattle.events.proofs.SoundLaws.{runner-there, dispatchable, did-by, kept-by}
use Rattle.events.proofs.finish.Goals as goal
use Rattle.events.proofs.finish.Goals.{After-set_place}

pub inside-requires : goal.inside-requires
inside-requires c = runner-there _ c.requires _ (sym c.in-Some.ensures)

pub set_place-requires : goal.set_place-requires
set_place-requires c = rw c.set_running.ensures (runner-there _ c.requires _ (sym c.in-Some.ensures))

ended : (c : After-set_place) → c.set_place.new.self ≡ end c.args.memory.now c.in-Some.t
unfolding stopped
ended c = rw c.set_running.ensures at c.set_place.ensures

pub conclude-requires : goal.conclude-requires
conclude-requires c =
    let m = c.args.memory.now in
    subst Dispatches (sym (ended (goal.at.conclude-requires c).After-set_place))
    (dispatchable _ (pending-end m _ (sound-good m c.requires) (sym c.in-Some.ensures) (sym c.inside.ensures ∙ c.if-inside.false)))

pub returns : goal.returns
unfolding apply delay_fits
returns c =
    let m = c.args.memory.now in
    let e = finish-0 m _ (sym c.in-Some.ensures) (sym c.inside.ensures ∙ c.if-inside.false) in
    let d = did-by c.conclude.ensures c.in-Some.ensures (ended (goal.at.returns c).After-set_place) e in
    record { did = d; kept = kept-by m Finish c.requires refl d }
