-- The claim for runs that do not even get the same events: what is not seen from above the level may come in one of them alone.
use Rattle.std.specs.Prelude.{List, [], ◌∷◌, ℕ}
use Rattle.format.specs.Roster.{Roster, roster_of}
use Rattle.trace.specs.Config.{Config, start_of, happen}
use Rattle.safety.specs.History.{Event, clock, release, step, input_of, after}
use Rattle.isolation.specs.Sharing.{Above, Agreeing}
use Rattle.isolation.specs.Isolated.{NoneRuns, Isolated, answer}

-- steps taken while none of the tasks above p runs, and releases of others
unfoldable pub Unseen : ℕ → Roster → Config → Event → Type 0
Unseen p r c (clock x) = ⊥
Unseen p r c (release t) = Above p r t → ⊥
Unseen p r c step = NoneRuns p r c

-- an event of both runs, of the first alone, of the second alone; and the events that each gets
pub data Turn : Type 0 where
  both : Event → Turn
  first : Event → Turn
  second : Event → Turn

unfoldable pub firsts : List Turn → List Event
firsts [] = []
firsts (both e ∷ ts) = e ∷ firsts ts
firsts (first e ∷ ts) = e ∷ firsts ts
firsts (second e ∷ ts) = firsts ts

unfoldable pub seconds : List Turn → List Event
seconds [] = []
seconds (both e ∷ ts) = e ∷ seconds ts
seconds (first e ∷ ts) = seconds ts
seconds (second e ∷ ts) = e ∷ seconds ts

abbrev pub next : Roster → Config → Event → Config
next r c e = (happen r c (input_of e)).config

-- an event that one run gets alone is not seen there
unfoldable pub Unnoticed : ℕ → Roster → Roster → Config → Config → List Turn → Type 0
Unnoticed p r s c d [] = Unit
Unnoticed p r s c d (both e ∷ ts) = Unnoticed p r s (next r c e) (next s d e) ts
Unnoticed p r s c d (first e ∷ ts) = Unseen p r c e × Unnoticed p r s (next r c e) d ts
Unnoticed p r s c d (second e ∷ ts) = Unseen p s d e × Unnoticed p r s c (next s d e) ts

-- however many steps the others take in one run and in the other, and whoever releases them
abbrev pub UnseenClaim : Type 0
UnseenClaim =
    (p : ℕ) (a b : List ℕ) → Agreeing p a b → (ts : List Turn) →
    Unnoticed p (roster_of a) (roster_of b) (start_of (roster_of a)) (start_of (roster_of b)) ts →
    Isolated p (roster_of a) (roster_of b) (after (roster_of a) (firsts ts)) (after (roster_of b) (seconds ts))
    (answer (roster_of a) (firsts ts)) (answer (roster_of b) (seconds ts))
