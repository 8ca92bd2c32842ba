-- `events::clock` meets its contract.
use Rattle.std.proofs.Common.{◌≡◌, ℕ, false, length, refl, ap, sym, ◌∙◌, subst, arith}
use Rattle.rules.specs.Events.{apply, bad_reading, take_reading}
use Rattle.rules.specs.Model.{Model, with_now}
use Rattle.rules.specs.Histories.{delay_fits}
use Rattle.rules.specs.declared.Event.TheVariants.{Clock}
use Rattle.rules.proofs.EventLaws.{clock-0}
use Rattle.rules.proofs.Readings.{reading-early, reading-low}
use Rattle.rules.proofs.Pending.{pending-clock}
use Rattle.rules.proofs.Soundness.{sound-good}
use Rattle.moves.specs.Room.{Dispatches}
use Rattle.moves.proofs.WakingList.{none_moves}
use Rattle.moves.proofs.RoomLaws.{clock-wakes}
use Rattle.moves.proofs.EventLaws.{nobody-due, quiet-clock}
use Rattle.events.proofs.SoundLaws.{dispatchable, did-by, did-still, kept-by}
use Rattle.events.proofs.clock.Goals as goal
use Rattle.events.proofs.clock.Goals.{After-set_now, After-wake_up}

fine : (c : After-set_now) → bad_reading c.args.memory.now.now c.args.r ≡ false
fine c = ap (λ (n : ℕ). bad_reading n c.args.r) (sym c.now.ensures) ∙ sym c.bad_reading.ensures ∙ c.if-bad_reading.false

pub returns-then-r-bound : goal.returns-then-r-bound
unfolding apply delay_fits
returns-then-r-bound c =
    let m = c.args.memory.now in
    let r = c.args.r in
    let none = nobody-due r _ (with_now m r) (rw c.set_now.ensures at c.bound.ensures) (omega arith) in
    let same = c.set_now.ensures ∙ sym (none_moves r (length m.tasks) (with_now m r) none) in
    let e = clock-0 m r (fine (goal.at.returns-then-r-bound c).After-set_now) in
    let d = did-still (quiet-clock m r (sound-good m c.requires) none) same e in
    record { did = d; kept = kept-by m (Clock r) c.requires refl d }

pub wake_up-requires : goal.wake_up-requires
wake_up-requires c =
    let m = c.args.memory.now in
    record {
      wakes = rw c.set_now.ensures (clock-wakes m c.args.r (sound-good m c.requires).pending.core);
      reading = reading-low m.now c.args.r (fine (goal.at.wake_up-requires c).After-set_now);
    }

taken : (c : After-wake_up) → c.wake_up.new.memory ≡ take_reading c.args.memory.now c.args.r
taken c = rw c.set_now.ensures at c.wake_up.ensures

pub conclude-requires : goal.conclude-requires
conclude-requires c =
    let m = c.args.memory.now in
    let good = fine (goal.at.conclude-requires c).After-set_now in
    subst Dispatches (sym (taken (goal.at.conclude-requires c).After-wake_up))
    (dispatchable _
    (pending-clock m c.args.r (sound-good m c.requires).pending (reading-early m.now c.args.r good) (reading-low m.now c.args.r good)))

pub returns : goal.returns
unfolding apply delay_fits
returns c =
    let m = c.args.memory.now in
    let ran = c.running-before.ensures ∙ ap (λ (n : Model). n.running) c.set_now.ensures in
    let e = clock-0 m c.args.r (fine (goal.at.returns c).After-set_now) in
    let d = did-by c.conclude.ensures ran (taken (goal.at.returns c).After-wake_up) e in
    record { did = d; kept = kept-by m (Clock c.args.r) c.requires refl d }
