-- `events::enter` meets its contract.
use Rattle.std.proofs.Common.{◌≡◌, ◌≤◌, false, length, refl, sym, ◌∙◌, arith}
use Rattle.std.proofs.lemmas.Bool.Decides.{nat_tests}
use borrow.Author.Tests.{lt-leb, le-ltb}
use Rattle.rules.specs.Events.{apply, no_object, over_ceiling}
use Rattle.rules.specs.Histories.{delay_fits}
use Rattle.rules.specs.declared.Event.TheVariants.{Enter}
use Rattle.rules.proofs.EventLaws.{enter-0}
use Rattle.rules.proofs.Soundness.{sound-good}
use Rattle.moves.proofs.RoomLaws.{enter-room}
use Rattle.moves.proofs.EventLaws.{quiet-enter}
use Rattle.events.proofs.SoundLaws.{runner-there, runner-rises, did-still, kept-by}
use Rattle.events.proofs.enter.Goals as goal

pub holds-requires : goal.holds-requires
holds-requires c = runner-there _ c.requires _ (sym c.in-Some.ensures)

pub active_inside-requires : goal.active_inside-requires
active_inside-requires c =
    let e = sym c.in-Some.ensures in
    record { there = runner-there _ c.requires _ e; rises = runner-rises _ c.requires _ e }

pub hold-requires : goal.hold-requires
hold-requires c =
    let m = c.args.memory.now in
    let e = sym c.in-Some.ensures in
    record {
      there = runner-there m c.requires _ e;
      room = enter-room m _ (sound-good m c.requires) e c.args.o (omega arith) (sym c.holds.ensures ∙ c.if-holds.false);
    }

pub returns : goal.returns
unfolding apply delay_fits
returns c =
    let m = c.args.memory.now in
    let e = sym c.in-Some.ensures in
    let known : no_object m c.args.o ≡ false = lt-leb (length m.ceilings) c.args.o (omega arith) in
    let free = sym c.holds.ensures ∙ c.if-holds.false in
    let low : c.active_inside.result.0 ≤ c.ceiling.result.0 = grind (arith, nat_tests) in
    let within : over_ceiling m c.args.o c.in-Some.t ≡ false = le-ltb _ _ (omega (arith, low)) in
    let d = did-still (quiet-enter m c.args.o _ (sound-good m c.requires) e) c.hold.ensures (enter-0 m c.args.o _ known e free within) in
    record { did = d; kept = kept-by m (Enter c.args.o) c.requires refl d }
