-- `events::release` meets its contract.
use Rattle.std.proofs.Common.{◌≡◌, false, length, refl, sym, ◌∙◌, subst, arith}
use borrow.Author.Tests.{lt-leb}
use Rattle.rules.specs.Events.{apply, no_task}
use Rattle.rules.specs.Histories.{delay_fits}
use Rattle.rules.specs.declared.Event.TheVariants.{Release}
use Rattle.rules.proofs.EventLaws.{release-0}
use Rattle.rules.proofs.Pending.{pending-release}
use Rattle.rules.proofs.Soundness.{sound-good}
use Rattle.moves.specs.Room.{Dispatches}
use Rattle.moves.proofs.RoomLaws.{release-needs}
use Rattle.moves.proofs.EventLaws.{quiet-release}
use Rattle.events.proofs.SoundLaws.{dispatchable, did-by, did-still, kept-by}
use Rattle.events.proofs.release.Goals as goal

pub release_from-requires : goal.release_from-requires
release_from-requires c =
    let m = c.args.memory.now in
    release-needs m _ (sound-good m c.requires).pending.core (omega arith)

pub returns-then-not-release_from : goal.returns-then-not-release_from
unfolding apply delay_fits
returns-then-not-release_from c =
    let m = c.args.memory.now in
    let known : no_task m c.args.t ≡ false = lt-leb (length m.tasks) c.args.t (omega arith) in
    let q = quiet-release m _ _ (sound-good m c.requires) (sym c.release_from.ensures.value ∙ c.if-not-release_from.true) in
    let d = did-still q c.release_from.ensures.released (release-0 m c.args.t known) in
    record { did = d; kept = kept-by m (Release c.args.t) c.requires refl d }

pub conclude-requires : goal.conclude-requires
conclude-requires c =
    let m = c.args.memory.now in
    subst Dispatches (sym c.release_from.ensures.released)
    (dispatchable _ (pending-release m _ (sound-good m c.requires).pending (omega arith)))

pub returns : goal.returns
unfolding apply delay_fits
returns c =
    let m = c.args.memory.now in
    let known : no_task m c.args.t ≡ false = lt-leb (length m.tasks) c.args.t (omega arith) in
    let d = did-by c.conclude.ensures c.running-before.ensures c.release_from.ensures.released (release-0 m c.args.t known) in
    record { did = d; kept = kept-by m (Release c.args.t) c.requires refl d }
