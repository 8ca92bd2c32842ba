-- The table of refusals, as document 01 prints it: which rows apply to an event, and that the lowest number wins.
use Rattle.std.specs.Prelude.{◌≡◌, ◌↔◌, Bool, true, false, cond, not, List, [], ◌∷◌, ℕ, zero, suc, ◌<◌, None, Option, Some, Ok, Err}
use Rattle.rules.specs.Priorities.{in_range}
use Rattle.rules.specs.Answers.{number_of}
use Rattle.rules.specs.Model.{Model, task_at}
use Rattle.rules.specs.Moved.{is_nobody}
use Rattle.rules.specs.Events.{no_task, no_object, holds, inside, over_ceiling, innermost, bad_reading, is_ended, apply}
use Rattle.rules.specs.declared.Event.{Event}
use Rattle.rules.specs.declared.Event.TheVariants.{Enter, Leave, Delay, Suspend, Release, Clock, Set, Work, Finish}
use Rattle.rules.specs.Answers.{Answer}
use Rattle.rules.specs.declared.Refusal.{Refusal}
use Rattle.rules.specs.declared.Refusal.TheVariants.{NoSuchTask, NoSuchObject, BadPriority, BadReading, NobodyRuns, EndedTask}
use Rattle.rules.specs.declared.Refusal.TheVariants.{InsideAction, AboveCeiling, NotInnermost}

-- a test of the running task; it does not hold where nobody runs
unfoldable pub of_runner : Option ℕ → (ℕ → Bool) → Bool
of_runner None f = false
of_runner (Some t) f = f t

-- 1 "no such task"
unfoldable pub no_such_task : Model → Event → Bool
no_such_task m (Enter o) = false
no_such_task m (Leave o) = false
no_such_task m (Delay d) = false
no_such_task m Suspend = false
no_such_task m (Release t) = no_task m t
no_such_task m (Clock r) = false
no_such_task m (Set t p) = no_task m t
no_such_task m Work = false
no_such_task m Finish = false

-- 2 "no such object"
unfoldable pub no_such_object : Model → Event → Bool
no_such_object m (Enter o) = no_object m o
no_such_object m (Leave o) = no_object m o
no_such_object m (Delay d) = false
no_such_object m Suspend = false
no_such_object m (Release t) = false
no_such_object m (Clock r) = false
no_such_object m (Set t p) = false
no_such_object m Work = false
no_such_object m Finish = false

-- 3 "priority outside 1 to 32"
unfoldable pub bad_priority : Model → Event → Bool
bad_priority m (Enter o) = false
bad_priority m (Leave o) = false
bad_priority m (Delay d) = false
bad_priority m Suspend = false
bad_priority m (Release t) = false
bad_priority m (Clock r) = false
bad_priority m (Set t p) = not (in_range p.0)
bad_priority m Work = false
bad_priority m Finish = false

-- 4 a Clock of a "reading below now or above the largest", or "more than 86,400,000 ticks past now"
unfoldable pub bad_clock : Model → Event → Bool
bad_clock m (Enter o) = false
bad_clock m (Leave o) = false
bad_clock m (Delay d) = false
bad_clock m Suspend = false
bad_clock m (Release t) = false
bad_clock m (Clock r) = bad_reading m.now r
bad_clock m (Set t p) = false
bad_clock m Work = false
bad_clock m Finish = false

-- 5 "Enter, Leave, Delay, Suspend, Work, Finish .. and nobody runs"
unfoldable pub nobody_runs : Model → Event → Bool
nobody_runs m (Enter o) = is_nobody m.running
nobody_runs m (Leave o) = is_nobody m.running
nobody_runs m (Delay d) = is_nobody m.running
nobody_runs m Suspend = is_nobody m.running
nobody_runs m (Release t) = false
nobody_runs m (Clock r) = false
nobody_runs m (Set t p) = false
nobody_runs m Work = is_nobody m.running
nobody_runs m Finish = is_nobody m.running

-- 6 "Set on an ended task"
unfoldable pub ended_task : Model → Event → Bool
ended_task m (Enter o) = false
ended_task m (Leave o) = false
ended_task m (Delay d) = false
ended_task m Suspend = false
ended_task m (Release t) = false
ended_task m (Clock r) = false
ended_task m (Set t p) = is_ended (task_at m t).place
ended_task m Work = false
ended_task m Finish = false

-- 7 "Delay (also 0), Suspend or Finish inside a protected action, or Enter of an object that the task holds"
unfoldable pub inside_action : Model → Event → Bool
inside_action m (Enter o) = of_runner m.running (λ t. holds (task_at m t) o)
inside_action m (Leave o) = false
inside_action m (Delay d) = of_runner m.running (λ t. inside (task_at m t))
inside_action m Suspend = of_runner m.running (λ t. inside (task_at m t))
inside_action m (Release t) = false
inside_action m (Clock r) = false
inside_action m (Set t p) = false
inside_action m Work = false
inside_action m Finish = of_runner m.running (λ t. inside (task_at m t))

-- 8 "Enter with active priority above the ceiling"
unfoldable pub above_ceiling : Model → Event → Bool
above_ceiling m (Enter o) = of_runner m.running (λ t. over_ceiling m o t)
above_ceiling m (Leave o) = false
above_ceiling m (Delay d) = false
above_ceiling m Suspend = false
above_ceiling m (Release t) = false
above_ceiling m (Clock r) = false
above_ceiling m (Set t p) = false
above_ceiling m Work = false
above_ceiling m Finish = false

-- 9 "Leave of an object that isn't the innermost held"
unfoldable pub not_innermost : Model → Event → Bool
not_innermost m (Enter o) = false
not_innermost m (Leave o) = of_runner m.running (λ t. not (innermost (task_at m t) o))
not_innermost m (Delay d) = false
not_innermost m Suspend = false
not_innermost m (Release t) = false
not_innermost m (Clock r) = false
not_innermost m (Set t p) = false
not_innermost m Work = false
not_innermost m Finish = false

-- a row of the table: its refusal, and when it applies
pub record Row : Type 0 where
  pub refusal : Refusal
  pub applies : Bool

-- the rows from 1 to 9, lowest first
unfoldable pub table : Model → Event → List Row
table m e =
    record { refusal = NoSuchTask; applies = no_such_task m e } ∷
    record { refusal = NoSuchObject; applies = no_such_object m e } ∷
    record { refusal = BadPriority; applies = bad_priority m e } ∷
    record { refusal = BadReading; applies = bad_clock m e } ∷
    record { refusal = NobodyRuns; applies = nobody_runs m e } ∷
    record { refusal = EndedTask; applies = ended_task m e } ∷
    record { refusal = InsideAction; applies = inside_action m e } ∷
    record { refusal = AboveCeiling; applies = above_ceiling m e } ∷
    record { refusal = NotInnermost; applies = not_innermost m e } ∷ []

-- "the lowest number wins"; 0 where no row applies
unfoldable pub lowest : List Row → Answer
lowest [] = Ok tt
lowest (r ∷ rs) = cond r.applies (Err r.refusal) (lowest rs)

-- whether the row with the number suc j applies; past the last none does
unfoldable pub applies_at : List Row → ℕ → Bool
applies_at [] j = false
applies_at (r ∷ rs) zero = r.applies
applies_at (r ∷ rs) (suc j) = applies_at rs j

-- the row applies, and no lower one does
pub record First (rs : List Row) (j : ℕ) : Type 0 where
  pub applies : applies_at rs j ≡ true
  pub none : (k : ℕ) → k < j → applies_at rs k ≡ false

-- "Given exactly when": the answer of an event, and the Model beside a refusal
pub record Answered (m : Model) (e : Event) : Type 0 where
  -- "the lowest number wins"
  pub wins : (apply m e).answer ≡ lowest (table m e)
  -- number suc j exactly when that row applies and no lower one does; 0 exactly when none does
  pub exactly : (j : ℕ) → (number_of (apply m e).answer ≡ suc j) ↔ First (table m e) j
  pub done : ((apply m e).answer ≡ Ok tt) ↔ ((j : ℕ) → applies_at (table m e) j ≡ false)
  -- "Any refusal returns the state unchanged."
  pub unchanged : ((apply m e).answer ≡ Ok tt → ⊥) → (apply m e).model ≡ m

-- of every Model and every event
abbrev pub RefusalsClaim : Type 0
RefusalsClaim = (m : Model) (e : Event) → Answered m e
