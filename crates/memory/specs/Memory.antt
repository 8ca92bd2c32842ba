-- What the records of a memory mean, and what is known of its ready queues and delayed tasks.
use Rattle.std.specs.Prelude.{◌≡◌, true, false, List, [], ◌∷◌, ℕ, ◌≤◌, ◌<◌, length, None, Option, Some}
use Rattle.rules.specs.Limits.{first_priority, last_priority}
use Rattle.rules.specs.Priorities.{priority}
use Rattle.rules.specs.Model.{Model, TaskRecord, task_at}
use Rattle.rules.specs.Moved.{Moved}
use Rattle.rules.specs.Sound.{rising}
use Rattle.rules.specs.declared.Priority.{Priority}
use Rattle.rules.specs.declared.Place.TheVariants.{Delayed, Ended}
use Rattle.rules.specs.declared.Task.{Task}
use Rattle.marks.specs.Marks.{bit_at}
use Rattle.memory.specs.Rulings.{answer_in, report_in}
use Rattle.memory.specs.declared.rulings.Ruling.{Ruling}

-- the record of no task
abbrev pub blank_task : Task
blank_task = record { place = Ended; base = record { 0 = 0 }; waiting = None; permit = false }

-- a task's record, with the list of what it holds, as the Model has it
unfoldable pub waiting_in : Option Priority → Option ℕ
waiting_in None = None
waiting_in (Some p) = Some p.0

abbrev pub record_of : Task → List ℕ → TaskRecord
record_of k l = record { place = k.place; base = k.base.0; waiting = waiting_in k.waiting; permit = k.permit; held = l }

-- .. and back
unfoldable pub waiting_for : Option ℕ → Option Priority
waiting_for None = None
waiting_for (Some p) = Some (priority p)

abbrev pub task_for : TaskRecord → Task
task_for k = record { place = k.place; base = priority k.base; waiting = waiting_for k.waiting; permit = k.permit }

unfoldable pub together : List Task → List (List ℕ) → List TaskRecord
together [] ls = []
together (k ∷ ks) [] = []
together (k ∷ ks) (l ∷ ls) = record_of k l ∷ together ks ls

-- a priority in range: it has a ready queue
pub record HasQueue (p : ℕ) : Type 0 where
  pub low : first_priority ≤ p
  pub high : p ≤ last_priority

-- no delayed task is due before the bound v; every delayed task has its bit on in the word w, and other tasks' bits may be on
pub record Bounds (v : ℕ) (m : Model) : Type 0 where
  pub each : (t d : ℕ) → (task_at m t).place ≡ Delayed d → v ≤ d

pub record Notes (w : ℕ) (m : Model) : Type 0 where
  pub each : (t d : ℕ) → (task_at m t).place ≡ Delayed d → bit_at w t ≡ 1
  pub tasks : (t : ℕ) → bit_at w t ≡ 1 → t < length m.tasks

-- the ceilings of what the task t holds do not fall
abbrev pub Rises : Model → ℕ → Type 0
Rises m t = rising m.ceilings (task_at m t).base (task_at m t).held ≡ true

-- what an event comes to: the Model after it, and its ruling
pub record Did (m : Model) (x : Ruling) (r : Moved) : Type 0 where
  pub same : m ≡ r.model
  pub answer : answer_in x ≡ r.answer
  pub report : report_in x ≡ r.report
