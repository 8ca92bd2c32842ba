-- What the reports mean (2026-10), of every Model and every event; and reports of some histories.
use Rattle.std.specs.Prelude.{◌≡◌, ◌↔◌, true, List, [], ◌∷◌, map, ℕ, Some, Ok}
use Rattle.rules.specs.Answers.{report_number}
use Rattle.rules.specs.Model.{Model, queue, active}
use Rattle.rules.specs.Moves.{preempt, start, highest}
use Rattle.rules.specs.Fresh.{Setup, fresh_model}
use Rattle.rules.specs.Events.{apply}
use Rattle.rules.specs.Effect.{effect}
use Rattle.rules.specs.Sound.{sound}
use Rattle.rules.specs.Histories.{delay_fits}
use Rattle.rules.specs.Cases.{to}
use Rattle.rules.specs.declared.Event.{Event}
use Rattle.rules.specs.declared.Event.TheVariants.{Enter, Leave, Delay, Suspend, Release, Clock, Set, Work, Finish}
use Rattle.rules.specs.declared.Report.TheVariants.{Unchanged, Preempted, Changed}

-- a task ran before the event and still runs when its dispatch begins; the dispatch preempts it and starts the head of the highest queue;
-- another runs then
pub record Preempts (m : Model) (e : Event) : Type 0 where
  pub task : ℕ
  pub ran : m.running ≡ Some task
  pub still : (effect m e).running ≡ Some task
  pub sent : (apply m e).model ≡ start (preempt (effect m e) task) (highest (effect m e))
  pub other : (apply m e).model.running ≡ Some task → ⊥

pub record ReportsClaim (m : Model) (e : Event) : Type 0 where
  -- "0 no change": the same task runs before and after, or nobody does
  pub same : ((apply m e).report ≡ Unchanged) ↔ ((apply m e).model.running ≡ m.running)
  -- "1 another runs and the dispatch sent the old task to the head of its queue"
  pub preempted : ((apply m e).report ≡ Preempted) ↔ Preempts m e
  -- in a sound Model that is the queue for its active priority, before those who stood there
  pub head : sound m ≡ true → delay_fits e ≡ true → (p : Preempts m e) →
      queue (apply m e).model (active (apply m e).model p.task) ≡ p.task ∷ queue (effect m e) (active (apply m e).model p.task)
  -- "2 any other change"
  pub changed : ((apply m e).report ≡ Changed) ↔ (((apply m e).model.running ≡ m.running → ⊥) × (Preempts m e → ⊥))
  -- "A refused event reports 0."
  pub refused : ((apply m e).answer ≡ Ok tt → ⊥) → (apply m e).report ≡ Unchanged

-- what a start is made from, the events, and the number that each reports
pub record ReportCase : Type 0 where
  pub setup : Setup
  pub events : List Event
  pub reports : List ℕ

unfoldable pub reports_from : Model → List Event → List ℕ
reports_from m [] = []
reports_from m (e ∷ es) = report_number (apply m e).report ∷ reports_from (apply m e).model es

unfoldable pub reports_in : ReportCase → List ℕ
reports_in c = reports_from (fresh_model c.setup) c.events

unfoldable pub reported : List ℕ → List ℕ → List Event → List ℕ → ReportCase
reported bs cs es ns = record { setup = record { bases = bs; ceilings = cs }; events = es; reports = ns }

-- bases, ceilings, events, reports
unfoldable pub report_cases : List ReportCase
report_cases =
    -- to the tail, and an equal one runs; alone, the same one is picked again
    reported (10 ∷ 10 ∷ []) [] (Delay 0 ∷ Delay 0 ∷ Work ∷ []) (2 ∷ 2 ∷ 0 ∷ []) ∷
    reported (10 ∷ []) [] (Delay 0 ∷ []) (0 ∷ []) ∷
    -- away, which hands over to a lower one; back, before it
    reported (10 ∷ 20 ∷ []) [] (Suspend ∷ Release 1 ∷ []) (2 ∷ 1 ∷ []) ∷
    -- a Set on the running task sends it to a tail, though the one that replaces it is higher; picked again it is no change
    reported (10 ∷ 20 ∷ []) [] (Set 1 (to 5) ∷ []) (2 ∷ []) ∷
    reported (10 ∷ 20 ∷ []) [] (Set 1 (to 11) ∷ []) (0 ∷ []) ∷
    -- a Set on another task that then preempts; one that stays below
    reported (10 ∷ 5 ∷ []) [] (Set 1 (to 20) ∷ []) (1 ∷ []) ∷
    reported (10 ∷ 5 ∷ []) [] (Set 1 (to 9) ∷ []) (0 ∷ []) ∷
    -- to nobody, nobody still, a refused reading, to somebody, to nobody, and a refused Work
    reported (10 ∷ []) [] (Delay 5 ∷ Clock 4 ∷ Clock 3 ∷ Clock 5 ∷ Finish ∷ Work ∷ []) (2 ∷ 0 ∷ 0 ∷ 2 ∷ 2 ∷ 0 ∷ []) ∷
    -- a reading wakes a higher one; an equal one
    reported (10 ∷ 20 ∷ []) [] (Delay 5 ∷ Clock 5 ∷ []) (2 ∷ 1 ∷ []) ∷
    reported (10 ∷ 10 ∷ []) [] (Delay 5 ∷ Clock 5 ∷ []) (2 ∷ 0 ∷ []) ∷
    -- a waiting base sends the task to a tail: picked again; replaced by an equal one; by a higher one
    reported (10 ∷ 10 ∷ []) (20 ∷ []) (Enter 0 ∷ Set 0 (to 30) ∷ Leave 0 ∷ []) (0 ∷ 0 ∷ 0 ∷ []) ∷
    reported (10 ∷ 10 ∷ []) (20 ∷ []) (Enter 0 ∷ Set 0 (to 10) ∷ Leave 0 ∷ []) (0 ∷ 0 ∷ 2 ∷ []) ∷
    reported (10 ∷ 10 ∷ []) (20 ∷ []) (Enter 0 ∷ Set 0 (to 5) ∷ Leave 0 ∷ []) (0 ∷ 0 ∷ 2 ∷ []) ∷
    -- a Leave without one lets in a higher task that became ready inside; a refused Leave does not
    reported (10 ∷ 15 ∷ []) (20 ∷ []) (Suspend ∷ Enter 0 ∷ Release 1 ∷ Leave 1 ∷ Leave 0 ∷ []) (2 ∷ 0 ∷ 0 ∷ 0 ∷ 1 ∷ []) ∷
    []

abbrev pub ReportCasesClaim : Type 0
ReportCasesClaim = map reports_in report_cases ≡ map (λ (c : ReportCase). c.reports) report_cases
