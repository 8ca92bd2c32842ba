-- What a state of the dispatcher means: a Model, in which every list has its true length. One setter for each field.
-- Task numbers, object numbers and priorities are numbers here; what has no entry reads as a blank.
use Rattle.std.specs.Prelude.{Bool, false, List, [], ◌∷◌, ℕ, ◌-◌, max, get_or, set, Option, None}
use Rattle.rules.specs.declared.Place.{Place}
use Rattle.rules.specs.declared.Place.TheVariants.{Ended}

-- what is known of one task: waiting is the base that waits for its outermost Leave ("Inside an action p waits"), if there is one;
-- held objects stand outermost first
pub record TaskRecord : Type 0 where
  pub place : Place
  pub base : ℕ
  pub waiting : Option ℕ
  pub permit : Bool
  pub held : List ℕ

-- the ready queue for priority p stands at p - 1, its head first
pub record Model : Type 0 where
  pub now : ℕ
  pub running : Option ℕ
  pub tasks : List TaskRecord
  pub ceilings : List ℕ
  pub ready : List (List ℕ)

-- what a task number past the last reads as
abbrev pub blank : TaskRecord
blank = record { place = Ended; base = 0; waiting = None; permit = false; held = [] }

-- the task with another place, base, waiting base, permit, held list
abbrev pub with_place : TaskRecord → Place → TaskRecord
with_place k x = record { place = x; base = k.base; waiting = k.waiting; permit = k.permit; held = k.held }

abbrev pub with_base : TaskRecord → ℕ → TaskRecord
with_base k p = record { place = k.place; base = p; waiting = k.waiting; permit = k.permit; held = k.held }

abbrev pub with_waiting : TaskRecord → Option ℕ → TaskRecord
with_waiting k w = record { place = k.place; base = k.base; waiting = w; permit = k.permit; held = k.held }

abbrev pub with_permit : TaskRecord → Bool → TaskRecord
with_permit k b = record { place = k.place; base = k.base; waiting = k.waiting; permit = b; held = k.held }

abbrev pub with_held : TaskRecord → List ℕ → TaskRecord
with_held k l = record { place = k.place; base = k.base; waiting = k.waiting; permit = k.permit; held = l }

-- the Model with another reading, running task, task list, ceilings, ready queues
abbrev pub with_now : Model → ℕ → Model
with_now m r = record { now = r; running = m.running; tasks = m.tasks; ceilings = m.ceilings; ready = m.ready }

abbrev pub with_running : Model → Option ℕ → Model
with_running m w = record { now = m.now; running = w; tasks = m.tasks; ceilings = m.ceilings; ready = m.ready }

abbrev pub with_tasks : Model → List TaskRecord → Model
with_tasks m ks = record { now = m.now; running = m.running; tasks = ks; ceilings = m.ceilings; ready = m.ready }

abbrev pub with_ceilings : Model → List ℕ → Model
with_ceilings m cs = record { now = m.now; running = m.running; tasks = m.tasks; ceilings = cs; ready = m.ready }

abbrev pub with_ready : Model → List (List ℕ) → Model
with_ready m qs = record { now = m.now; running = m.running; tasks = m.tasks; ceilings = m.ceilings; ready = qs }

-- one task, one ready queue: read and replaced. There is no queue for 0, which is no priority of a sound Model
abbrev pub task_at : Model → ℕ → TaskRecord
task_at m t = get_or m.tasks t blank

abbrev pub with_task : Model → ℕ → TaskRecord → Model
with_task m t k = with_tasks m (set m.tasks t k)

abbrev pub queue : Model → ℕ → List ℕ
queue m p = get_or m.ready (p - 1) []

abbrev pub with_queue : Model → ℕ → List ℕ → Model
with_queue m p l = with_ready m (set m.ready (p - 1) l)

-- the ceiling of an object
abbrev pub ceiling_of : List ℕ → ℕ → ℕ
ceiling_of cs o = get_or cs o 0

-- the highest of a priority and the ceilings of a list of objects
unfoldable pub highest_of : List ℕ → ℕ → List ℕ → ℕ
highest_of cs p [] = p
highest_of cs p (o ∷ os) = highest_of cs (max p (ceiling_of cs o)) os

-- "Its active priority is the highest of its base and the ceilings of objects it holds." (D.1, 003; D.3, 000)
abbrev pub active_of : List ℕ → TaskRecord → ℕ
active_of cs k = highest_of cs k.base k.held

abbrev pub active : Model → ℕ → ℕ
active m t = active_of m.ceilings (task_at m t)
