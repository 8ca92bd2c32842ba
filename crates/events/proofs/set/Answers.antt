-- `events::set` meets its contract.
use Rattle.std.proofs.Common.{refl, sym, ◌∙◌, subst, arith, rules}
use Rattle.rules.specs.Moved.{accepted}
use Rattle.rules.specs.Events.{apply, set_base, is_ended}
use Rattle.rules.specs.Histories.{delay_fits}
use Rattle.rules.specs.declared.Event.TheVariants.{Set}
use Rattle.rules.proofs.Pending.{pending-rebase}
use Rattle.rules.proofs.Soundness.{sound-good}
use Rattle.memory.specs.Memory.{Did}
use Rattle.moves.specs.Room.{Dispatches}
use Rattle.moves.proofs.RoomLaws.{rebase-needs}
use Rattle.events.proofs.SoundLaws.{dispatchable, kept-by}
use Rattle.events.proofs.set.Goals as goal

pub rebase-requires : goal.rebase-requires
rebase-requires c =
    let m = c.args.memory.now in
    rebase-needs m _ _ (sound-good m c.requires).pending.core (omega arith) (sym c.in_range.ensures ∙ c.if-not-in_range.false)

pub conclude-requires : goal.conclude-requires
conclude-requires c =
    let m = c.args.memory.now in
    subst Dispatches (sym c.rebase.ensures)
    (dispatchable _
    (pending-rebase m _ _ (sound-good m c.requires).pending (omega arith) (sym c.in_range.ensures ∙ c.if-not-in_range.false)))

pub returns : goal.returns
unfolding apply delay_fits set_base is_ended accepted
returns c =
    let m = c.args.memory.now in
    let d : Did c.conclude.new.memory c.conclude.result (set_base m c.args.t c.args.p.0) = search rules in
    record { did = d; kept = kept-by m (Set c.args.t c.args.p) c.requires refl d }
