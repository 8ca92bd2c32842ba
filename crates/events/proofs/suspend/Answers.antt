-- `events::suspend` meets its contract.
use Rattle.std.proofs.Common.{refl, sym, ◌∙◌, subst}
use Rattle.rules.specs.Events.{apply}
use Rattle.rules.specs.Histories.{delay_fits}
use Rattle.rules.specs.declared.Event.TheVariants.{Suspend}
use Rattle.rules.proofs.EventLaws.{suspend-0}
use Rattle.rules.proofs.Pending.{pending-rest}
use Rattle.rules.proofs.Soundness.{sound-good}
use Rattle.moves.specs.Room.{Dispatches}
use Rattle.moves.proofs.EventLaws.{quiet-rest}
use Rattle.events.proofs.SoundLaws.{runner-there, dispatchable, did-by, did-still, kept-by}
use Rattle.events.proofs.suspend.Goals as goal

pub inside-requires : goal.inside-requires
inside-requires c = runner-there _ c.requires _ (sym c.in-Some.ensures)

pub rest-requires : goal.rest-requires
rest-requires c = runner-there _ c.requires _ (sym c.in-Some.ensures)

pub returns-then-rest : goal.returns-then-rest
unfolding apply delay_fits
returns-then-rest c =
    let m = c.args.memory.now in
    let e = suspend-0 m _ (sym c.in-Some.ensures) (sym c.inside.ensures ∙ c.if-inside.false) in
    let q = quiet-rest m _ (sound-good m c.requires) (sym c.rest.ensures.value ∙ c.if-rest.true) in
    let d = did-still q c.rest.ensures.rests e in
    record { did = d; kept = kept-by m Suspend c.requires refl d }

pub conclude-requires : goal.conclude-requires
conclude-requires c =
    let m = c.args.memory.now in
    subst Dispatches (sym c.rest.ensures.rests)
    (dispatchable _ (pending-rest m _ (sound-good m c.requires) (sym c.in-Some.ensures) (sym c.inside.ensures ∙ c.if-inside.false)))

pub returns : goal.returns
unfolding apply delay_fits
returns c =
    let m = c.args.memory.now in
    let e = suspend-0 m _ (sym c.in-Some.ensures) (sym c.inside.ensures ∙ c.if-inside.false) in
    let d = did-by c.conclude.ensures c.in-Some.ensures c.rest.ensures.rests e in
    record { did = d; kept = kept-by m Suspend c.requires refl d }
