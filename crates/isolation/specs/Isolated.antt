-- The claim: after every list of events, what the tasks above a level share in the runs of two rosters that agree above it.
use Rattle.std.specs.Prelude.{◌≡◌, ◌↔◌, ◌⊎◌, List, ℕ, ◌≤◌, ◌<◌, Some}
use Rattle.rules.specs.Limits.{first_priority}
use Rattle.rules.specs.Lists.{times_in}
use Rattle.rules.specs.Model.{Model, task_at, queue, active}
use Rattle.rules.specs.declared.Place.TheVariants.{Ready}
use Rattle.rules.specs.Answers.{Answer}
use Rattle.format.specs.Roster.{Roster, roster_of}
use Rattle.trace.specs.Config.{Config, position_at, happen}
use Rattle.safety.specs.History.{Event, clock, release, step, input_of, after}
use Rattle.isolation.specs.Sharing.{Listed, Above, Agreeing}

-- "the tasks above P stand at the same script steps, queues, due times and permits, and run at the same moments": each has the same
-- script position, the same record (place with its due time, base, waiting base, permit, held objects) and active priority; the ready
-- queues above p are the same, in order; and one of those tasks runs here exactly if it runs there, now being the same
pub record Same (p : ℕ) (r : Roster) (c d : Config) : Type 0 where
  pub now : c.model.now ≡ d.model.now
  pub position : (t : ℕ) → Above p r t → position_at c t ≡ position_at d t
  pub task : (t : ℕ) → Above p r t → task_at c.model t ≡ task_at d.model t
  pub priority : (t : ℕ) → Above p r t → active c.model t ≡ active d.model t
  pub queues : (q : ℕ) → p < q → queue c.model q ≡ queue d.model q
  pub runs : (t : ℕ) → Above p r t → (c.model.running ≡ Some t) ↔ (d.model.running ≡ Some t)

-- those queues are theirs: only tasks above p stand in a queue above p; one that is ready stands in that for its active priority, once;
-- and none stands in a queue at p or lower
pub record Apart (p : ℕ) (r : Roster) (m : Model) : Type 0 where
  pub only : (t q : ℕ) → p < q → 0 < times_in t (queue m q) → Above p r t
  pub ready : (t : ℕ) → Above p r t → (task_at m t).place ≡ Ready → (p < active m t) × (times_in t (queue m (active m t)) ≡ 1)
  pub below : (t q : ℕ) → Above p r t → first_priority ≤ q → q ≤ p → times_in t (queue m q) ≡ 0

-- "none of them runs"
abbrev pub NoneRuns : ℕ → Roster → Config → Type 0
NoneRuns p r c = (t : ℕ) → Above p r t → c.model.running ≡ Some t → ⊥

-- "Answers to steps taken while none of them runs, and to releases of a task that only one roster has, may differ"
unfoldable pub Excepted : ℕ → Roster → Roster → Config → Event → Type 0
Excepted p r s c (clock x) = ⊥
Excepted p r s c (release t) = (Listed r t × (Listed s t → ⊥)) ⊎ (Listed s t × (Listed r t → ⊥))
Excepted p r s c step = NoneRuns p r c

-- of two configurations, and of what the next event answers in each
pub record Isolated (p : ℕ) (r s : Roster) (c d : Config) (one two : Event → Answer) : Type 0 where
  pub same : Same p r c d
  pub apart : Apart p r c.model × Apart p s d.model
  pub answers : (e : Event) → (Excepted p r s c e → ⊥) → one e ≡ two e

-- what the next event answers after the events es
abbrev pub answer : Roster → List Event → Event → Answer
answer r es e = (happen r (after r es) (input_of e)).answer

-- "Give both the same events, with no Set from outside. Then after each event ..": every list of Clock, Release and Step with any
-- numbers, so also each part of one from its start, and the empty one
abbrev pub IsolationClaim : Type 0
IsolationClaim =
    (p : ℕ) (a b : List ℕ) → Agreeing p a b → (es : List Event) →
    Isolated p (roster_of a) (roster_of b) (after (roster_of a) es) (after (roster_of b) es) (answer (roster_of a) es)
    (answer (roster_of b) es)
