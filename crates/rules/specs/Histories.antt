-- What is promised of every event and of every history: soundness is kept, now makes no leap, and from a fresh start an object has one
-- holder.
use Rattle.std.specs.Prelude.{◌≡◌, Bool, true, ◌&&◌, List, [], ◌∷◌, ℕ, ◌+◌, ◌≤◌, ◌<◌, leb}
use Rattle.rules.specs.Limits.{last_delay, longest_advance}
use Rattle.rules.specs.Lists.{times_in}
use Rattle.rules.specs.Model.{Model, task_at}
use Rattle.rules.specs.Fresh.{Setup, fresh}
use Rattle.rules.specs.Events.{apply}
use Rattle.rules.specs.Sound.{sound}
use Rattle.rules.specs.declared.Event.{Event}
use Rattle.rules.specs.declared.Event.TheVariants.{Enter, Leave, Delay, Suspend, Release, Clock, Set, Work, Finish}

-- "Delay d (16 bits, 0 to 65,535)": what other events carry is not bounded
unfoldable pub delay_fits : Event → Bool
delay_fits (Enter o) = true
delay_fits (Leave o) = true
delay_fits (Delay d) = leb d last_delay
delay_fits Suspend = true
delay_fits (Release t) = true
delay_fits (Clock r) = true
delay_fits (Set t p) = true
delay_fits Work = true
delay_fits Finish = true

-- every event, accepted or refused, keeps a sound Model sound
abbrev pub KeptClaim : Type 0
KeptClaim = (m : Model) (e : Event) → delay_fits e ≡ true → sound m ≡ true → sound (apply m e).model ≡ true

-- no event, accepted or refused, of any Model sets now back, or on by more than the longest advance
abbrev pub NoLeapClaim : Type 0
NoLeapClaim =
    (m : Model) (e : Event) → (m.now ≤ (apply m e).model.now) × ((apply m e).model.now ≤ m.now + longest_advance)

-- each event gets the Model that the last one returned
unfoldable pub after_all : Model → List Event → Model
after_all m [] = m
after_all m (e ∷ es) = after_all (apply m e).model es

-- every Delay of a list has 16 bits
unfoldable pub delays_fit : List Event → Bool
delays_fit [] = true
delays_fit (e ∷ es) = delay_fits e && delays_fit es

-- "one object has one holder": who holds the same object is the same task
abbrev pub OneHolder : Model → Type 0
OneHolder m = (t u o : ℕ) → 0 < times_in o (task_at m t).held → 0 < times_in o (task_at m u).held → t ≡ u

-- "That one object has one holder is promised of fresh histories only": any fresh start, refused or not, and any events, a Set from
-- outside among them
abbrev pub HistoriesClaim : Type 0
HistoriesClaim =
    (s : Setup) (es : List Event) → delays_fit es ≡ true →
    (sound (after_all (fresh s).model es) ≡ true) × OneHolder (after_all (fresh s).model es)
