-- `events::delay` meets its contract.
use Rattle.std.proofs.Common.{◌≡◌, sym, ◌∙◌, subst, arith}
use borrow.Author.Tests.{le-leb}
use Rattle.rules.specs.Limits.{last_delay}
use Rattle.rules.specs.Moves.{stopped}
use Rattle.rules.specs.Events.{apply, put_off}
use Rattle.rules.specs.Histories.{delay_fits}
use Rattle.rules.specs.declared.Event.TheVariants.{Delay}
use Rattle.rules.proofs.EventLaws.{delay-0}
use Rattle.rules.proofs.Pending.{pending-delay}
use Rattle.rules.proofs.Soundness.{sound-good}
use Rattle.moves.specs.Room.{Dispatches}
use Rattle.moves.proofs.RoomLaws.{delay-joins}
use Rattle.events.proofs.SoundLaws.{runner-there, dispatchable, did-by, kept-by}
use Rattle.events.proofs.delay.Goals as goal
use Rattle.events.proofs.delay.Goals.{After-put_off}

pub inside-requires : goal.inside-requires
inside-requires c = runner-there _ c.requires _ (sym c.in-Some.ensures)

pub put_off-requires : goal.put_off-requires
unfolding stopped
put_off-requires c =
    let m = c.args.memory.now in
    let g = sound-good m c.requires in
    rw c.set_running.ensures
    (record {
      arrives = delay-joins m _ g (sym c.in-Some.ensures) (sym c.inside.ensures ∙ c.if-inside.false);
      reading = g.pending.sizes.reading;
    })

was : (c : After-put_off) → c.put_off.new.memory ≡ put_off (stopped c.args.memory.now) c.in-Some.t c.args.d
unfolding stopped
was c = rw c.set_running.ensures at c.put_off.ensures

pub conclude-requires : goal.conclude-requires
conclude-requires c =
    let m = c.args.memory.now in
    subst Dispatches (sym (was (goal.at.conclude-requires c).After-put_off))
    (dispatchable _
    (pending-delay m c.args.d _ (omega arith) (sound-good m c.requires) (sym c.in-Some.ensures) (sym c.inside.ensures ∙ c.if-inside.false)))

pub returns : goal.returns
unfolding apply delay_fits
returns c =
    let m = c.args.memory.now in
    let e = delay-0 m c.args.d _ (sym c.in-Some.ensures) (sym c.inside.ensures ∙ c.if-inside.false) in
    let d = did-by c.conclude.ensures c.in-Some.ensures (was (goal.at.returns c).After-put_off) e in
    record { did = d; kept = kept-by m (Delay c.args.d) c.requires (le-leb c.args.d last_delay (omega arith)) d }
