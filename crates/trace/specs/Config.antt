-- A run's configuration, the Model and the script positions, moved by Clock, Release, Step and Set.
use Rattle.std.specs.Prelude.{Bool, cond, List, ℕ, suc, eqb, length, get_or, set, replicate, None, Option, Some, Ok, Err}
use Rattle.rules.specs.Answers.{Answer, number_of}
use Rattle.rules.specs.Model.{Model}
use Rattle.rules.specs.Moved.{Moved}
use Rattle.rules.specs.Fresh.{fresh_model}
use Rattle.rules.specs.Events.{release, clock, set_base, apply}
use Rattle.rules.specs.declared.Event.{Event}
use Rattle.rules.specs.declared.Event.TheVariants as E
use Rattle.rules.specs.declared.Report.{Report}
use Rattle.rules.specs.declared.Report.TheVariants.{Unchanged}
use Rattle.rules.specs.declared.Refusal.TheVariants.{NobodyRuns}
use Rattle.format.specs.Steps.{step_in}
use Rattle.format.specs.Roster.{Roster, setup_of, script_of}
use Rattle.format.specs.declared.Step.{Step}
use Rattle.format.specs.declared.Step.TheVariants.{Enter, Leave, Delay, Work, Suspend, Release, Set, Again, Finish}
use Rattle.trace.specs.declared.Input.{Input}
use Rattle.trace.specs.declared.Input.TheVariants.{Clock, Release as Released, Step as Stepped, Set as SetFrom}

-- the state, and each task's position in its script
pub record Config : Type 0 where
  pub model : Model
  pub positions : List ℕ

-- what an event of a run gives back
pub record Outcome : Type 0 where
  pub answer : Answer
  pub report : Report
  pub config : Config

-- "with every script at its start", from the fresh state
unfoldable pub start_of : Roster → Config
start_of r = record { model = fresh_model (setup_of r); positions = replicate (length r.bases) 0 }

-- what a step of a script asks of the rules
pub data Asked : Type 0 where
  event : Event → Asked
  nothing : Asked

-- the event of its name; Again asks for none
unfoldable pub event_of : Step → Asked
event_of (Enter o) = event (E.Enter o)
event_of (Leave o) = event (E.Leave o)
event_of (Delay d) = event (E.Delay d)
event_of Work = event E.Work
event_of Suspend = event E.Suspend
event_of (Release t) = event (E.Release t)
event_of (Set t p) = event (E.Set t p)
event_of Again = nothing
event_of Finish = event E.Finish

-- Again: "the state stays", and the answer and the report are 0
abbrev pub stays : Model → Moved
stays m = record { answer = Ok tt; report = Unchanged; model = m }

-- an event by its rule
unfoldable pub answer_to : Model → Asked → Moved
answer_to m (event e) = apply m e
answer_to m nothing = stays m

-- what one step of a script does; "A step asked at the script's end is Finish."
unfoldable pub perform : Model → Step → Moved
perform m x = answer_to m (event_of x)

-- "One step moves its task's place on"; Again: "the place goes back to the first step"; Finish leaves it at the end
unfoldable pub position_after : ℕ → Step → ℕ
position_after k (Enter o) = suc k
position_after k (Leave o) = suc k
position_after k (Delay d) = suc k
position_after k Work = suc k
position_after k Suspend = suc k
position_after k (Release t) = suc k
position_after k (Set t p) = suc k
position_after k Again = 0
position_after k Finish = k

abbrev pub is_done : Answer → Bool
is_done a = eqb (number_of a) 0

-- ".. if accepted": the position of task t becomes k with the Model after its step
unfoldable pub advance : Config → ℕ → ℕ → Moved → Outcome
advance c t k r =
    record {
      answer = r.answer;
      report = r.report;
      config = record { model = r.model; positions = cond (is_done r.answer) (set c.positions t k) c.positions };
    }

-- the next step of a task at position k of its script
abbrev pub next_step : Roster → ℕ → ℕ → Step
next_step r t k = step_in (script_of r t) k

abbrev pub position_at : Config → ℕ → ℕ
position_at c t = get_or c.positions t 0

-- a Step is taken by the running task; answer 5 where nobody runs
unfoldable pub step_by : Roster → Config → Option ℕ → Outcome
step_by r c None = record { answer = Err NobodyRuns; report = Unchanged; config = c }
step_by r c (Some t) =
    advance c t (position_after (position_at c t) (next_step r t (position_at c t))) (perform c.model (next_step r t (position_at c t)))

-- Clock, Release and Set are the rules' own, and move no position
unfoldable pub outside : Config → Moved → Outcome
outside c r = record { answer = r.answer; report = r.report; config = record { model = r.model; positions = c.positions } }

-- "1 Clock value; 2 Release a; 3 Step; 4 Set a, value"
unfoldable pub happen : Roster → Config → Input → Outcome
happen r c (Clock v) = outside c (clock c.model v)
happen r c (Released t) = outside c (release c.model t)
happen r c Stepped = step_by r c c.model.running
happen r c (SetFrom t v) = outside c (set_base c.model t v)
