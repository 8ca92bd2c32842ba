-- Histories from a fresh start keep soundness and the ceiling order, so that an object has one holder.
use mathlib.Core.Path.{◌≡◌}
use mathlib.Core.Bool.{Bool, true}
use mathlib.Core.List.{List, [], ◌∷◌}
use Rattle.rules.specs.Model.{Model}
use Rattle.rules.specs.Fresh.{fresh}
use Rattle.rules.specs.Events.{apply}
use Rattle.rules.specs.declared.Event.{Event}
use Rattle.rules.specs.Histories.{delay_fits, delays_fit, after_all, HistoriesClaim}
use Rattle.rules.proofs.Choices.{and_left, and_right}
use Rattle.rules.proofs.Pending.{Good}
use Rattle.rules.proofs.Kept.{keep, one-holder}
use Rattle.rules.proofs.Soundness.{good-sound}
use Rattle.rules.proofs.FreshLaws.{start-good}

pub keep_all : {ord : Bool} (es : List Event) (m : Model) → delays_fit es ≡ true → Good ord m → Good ord (after_all m es)
unfolding after_all delays_fit
keep_all [] m f h = h
keep_all (e ∷ es) m f h =
    keep_all es (apply m e).model (and_right (delay_fits e) (delays_fit es) f) (keep m e (and_left (delay_fits e) (delays_fit es) f) h)

-- from a fresh start, refused or not
pub histories : HistoriesClaim
histories s es fits =
    let m : Model = after_all (fresh s).model es in
    let g : Good true m = keep_all es (fresh s).model fits (start-good s) in
    (good-sound m g, one-holder m g)
