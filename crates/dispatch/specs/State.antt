-- What a State means, and which State a Model has. Cells past a count or past the length of a row are no part of a state.
use Rattle.std.specs.Prelude.{map, length, take}
use mathlib.Core.List.{flat_map}
use Rattle.rules.specs.Limits.{task_limit, object_limit}
use Rattle.rules.specs.Model.{Model}
use Rattle.rules.specs.Priorities.{level, priority}
use Rattle.marks.specs.Marks.{marks_of}
use Rattle.memory.specs.Rows.{row_for, held_width, held_in, queue_width, queues_in}
use Rattle.memory.specs.Memory.{together, task_for, blank_task}
use Rattle.loading.specs.Loading.{padded, held_lists}
use Rattle.dispatch.specs.declared.State.{State}

-- the Model that a state means: what its counts reach, with the lists in their rows
unfoldable pub view : State → Model
view s =
    record {
      now = s.now;
      running = s.running;
      tasks = take s.task_count (together s.tasks (held_in s.held));
      ceilings = take s.object_count (map level s.ceilings);
      ready = queues_in s.queues;
    }

-- the state for a Model: the marks of its queues, and blank records, empty rows and zeros behind the last
unfoldable pub encode : Model → State
encode m =
    record {
      now = m.now;
      running = m.running;
      task_count = length m.tasks;
      object_count = length m.ceilings;
      marks = marks_of m.ready;
      tasks = padded task_limit (map task_for m.tasks) blank_task;
      held = flat_map (row_for held_width) (held_lists m);
      ceilings = padded object_limit (map priority m.ceilings) (priority 0);
      queues = flat_map (row_for queue_width) m.ready;
    }
