-- `events::leave` meets its contract.
use Rattle.std.proofs.Common.{◌≡◌, false, length, refl, sym, ◌∙◌, subst, arith}
use borrow.Author.Tests.{lt-leb}
use Rattle.rules.specs.Events.{apply, give_up, settle, no_object}
use Rattle.rules.specs.Histories.{delay_fits}
use Rattle.rules.specs.declared.Event.TheVariants.{Leave}
use Rattle.rules.proofs.EventLaws.{leave-0}
use Rattle.rules.proofs.Pending.{pending-leave}
use Rattle.rules.proofs.Soundness.{sound-good}
use Rattle.moves.specs.Room.{Dispatches}
use Rattle.moves.proofs.RoomLaws.{leave-settles}
use Rattle.events.proofs.SoundLaws.{runner-there, dispatchable, did-by, kept-by}
use Rattle.events.proofs.leave.Goals as goal
use Rattle.events.proofs.leave.Goals.{After-settle}

pub innermost-requires : goal.innermost-requires
innermost-requires c = runner-there _ c.requires _ (sym c.in-Some.ensures)

pub give_up-requires : goal.give_up-requires
give_up-requires c = runner-there _ c.requires _ (sym c.in-Some.ensures)

pub settle-requires : goal.settle-requires
settle-requires c =
    let m = c.args.memory.now in
    rw c.give_up.ensures (leave-settles m _ (sound-good m c.requires) (sym c.in-Some.ensures))

left : (c : After-settle) → c.settle.new.memory ≡ settle (give_up c.args.memory.now c.in-Some.t) c.in-Some.t
left c = rw c.give_up.ensures at c.settle.ensures

pub conclude-requires : goal.conclude-requires
conclude-requires c =
    let m = c.args.memory.now in
    subst Dispatches (sym (left (goal.at.conclude-requires c).After-settle))
    (dispatchable _ (pending-leave m _ (sound-good m c.requires) (sym c.in-Some.ensures)))

pub returns : goal.returns
unfolding apply delay_fits
returns c =
    let m = c.args.memory.now in
    let known : no_object m c.args.o ≡ false = lt-leb (length m.ceilings) c.args.o (omega arith) in
    let e = leave-0 m c.args.o _ known (sym c.in-Some.ensures) (sym c.innermost.ensures ∙ c.if-not-innermost.false) in
    let d = did-by c.conclude.ensures c.in-Some.ensures (left (goal.at.returns c).After-settle) e in
    record { did = d; kept = kept-by m (Leave c.args.o) c.requires refl d }
