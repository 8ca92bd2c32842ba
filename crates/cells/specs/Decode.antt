-- The state that bytes stand for. Any bytes stand for one; what lies past the last byte reads as 0.
use Rattle.std.specs.Prelude.{cond, not, List, ℕ, ◌+◌, ◌*◌, eqb, None, Option, Some}
use Rattle.words.specs.Words.{byte_at, long_at, number_at, tabulate}
use Rattle.rules.specs.Limits.{task_limit, object_limit, last_priority}
use Rattle.rules.specs.declared.Place.{Place}
use Rattle.rules.specs.declared.Priority.{Priority}
use Rattle.rules.specs.declared.Task.{Task}
use Rattle.rules.specs.Kinds.{kind_from, place_of}
use Rattle.rules.specs.Priorities.{priority}
use Rattle.memory.specs.Rows.{held_width, queue_width}
use Rattle.dispatch.specs.declared.State.{State}
use Rattle.cells.specs.declared.head.Head.{Head}
use Rattle.cells.specs.Sizes.{running_at, task_count_at, object_count_at, marks_at, nobody_code, task_size}
use Rattle.cells.specs.Sizes.{kind_offset, base_offset, waits_offset, waiting_offset, permit_offset}
use Rattle.cells.specs.Sizes.{tasks_start, ceilings_start, held_start, queues_start}

-- who runs; 255 is nobody
abbrev pub runner_from : ℕ → Option ℕ
runner_from b = cond (eqb b nobody_code) None (Some b)

-- a kind that is none of the five reads as running; InRange.antt makes such bytes unsound, as it does other flags than 0 and 1
abbrev pub place_from : ℕ → ℕ → Place
place_from kind due = place_of (kind_from kind) due

-- a base waits unless the byte before it is 0
abbrev pub waiting_from : ℕ → ℕ → Option Priority
waiting_from waits p = cond (eqb waits 0) None (Some (priority p))

-- the task row that starts at i; a permit is off if its byte is 0
unfoldable pub task_from : List ℕ → ℕ → Task
task_from s i =
    record {
      place = place_from (byte_at s (i + kind_offset)) (number_at s i);
      base = priority (byte_at s (i + base_offset));
      waiting = waiting_from (byte_at s (i + waits_offset)) (byte_at s (i + waiting_offset));
      permit = not (eqb (byte_at s (i + permit_offset)) 0);
    }

unfoldable pub tasks_from : List ℕ → List Task
tasks_from s = tabulate task_limit (λ t. task_from s (tasks_start + task_size * t))

-- n bytes from i on
unfoldable pub cells_from : List ℕ → ℕ → ℕ → List ℕ
cells_from s i n = tabulate n (λ k. byte_at s (i + k))

-- the head
unfoldable pub head_from : List ℕ → Head
head_from s =
    record {
      now = number_at s 0;
      running = runner_from (byte_at s running_at);
      task_count = byte_at s task_count_at;
      object_count = byte_at s object_count_at;
      marks = long_at s marks_at;
    }

-- the whole
unfoldable pub state_of_bytes : List ℕ → State
state_of_bytes s =
    record {
      now = number_at s 0;
      running = runner_from (byte_at s running_at);
      task_count = byte_at s task_count_at;
      object_count = byte_at s object_count_at;
      marks = long_at s marks_at;
      tasks = tasks_from s;
      held = cells_from s held_start (task_limit * held_width);
      ceilings = tabulate object_limit (λ o. priority (byte_at s (ceilings_start + o)));
      queues = cells_from s queues_start (last_priority * queue_width);
    }
