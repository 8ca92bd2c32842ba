-- What the readers give back, of any state: what its Model has there, or nothing.
use Rattle.std.specs.Prelude.{cond, List, [], ℕ, ltb, length, get_or, None, Option, Some}
use Rattle.rules.specs.Priorities.{in_range, priority}
use Rattle.rules.specs.Model.{task_at, queue, active}
use Rattle.rules.specs.declared.Priority.{Priority}
use Rattle.rules.specs.declared.Task.{Task}
use Rattle.dispatch.specs.declared.State.{State}
use Rattle.memory.specs.Memory.{task_for}
use Rattle.dispatch.specs.State.{view}

-- the entry of a list at i
unfoldable pub entry_of : List ℕ → ℕ → Option ℕ
entry_of l i = cond (ltb i (length l)) (Some (get_or l i 0)) None

-- the ready queue for a priority, its head first; there is none for a priority out of range
unfoldable pub queue_of : State → Priority → List ℕ
queue_of s p = cond (in_range p.0) (queue (view s) p.0) []

-- the record of task t, and the objects that it holds, outermost first; past the last task it is blank
unfoldable pub task_record_of : State → ℕ → Task
task_record_of s t = task_for (task_at (view s) t)

unfoldable pub held_of : State → ℕ → List ℕ
held_of s t = (task_at (view s) t).held

-- "Its active priority is the highest of its base and the ceilings of objects it holds."
unfoldable pub active_priority_of : State → ℕ → Priority
active_priority_of s t = priority (active (view s) t)
