-- What the engine's memory means: a Model of the rules. Three fields are no part of the meaning: the word of marks, a reading before which
-- no delayed task is due, and a word in which the bit of every delayed task is on.
use Rattle.std.specs.Prelude.{◌≡◌, map, ◌≤◌, length, take}
use Rattle.rules.specs.Limits.{task_limit, object_limit, last_priority}
use Rattle.rules.specs.Priorities.{level}
use Rattle.rules.specs.Model.{Model, TaskRecord}
use Rattle.marks.specs.Marks.{marks_of}
use Rattle.memory.specs.Memory.{record_of, Bounds, Notes}
use Rattle.memory.specs.declared.Slot.{Slot}
use Rattle.memory.specs.declared.Memory.TheInside.{Inside}

abbrev pub record_in : Slot → TaskRecord
record_in s = record_of s.task s.held

-- what stands behind the counts may be anything
abbrev pub view_of : Inside → Model
view_of a =
    record {
      now = a.now;
      running = a.running;
      tasks = map record_in (take a.task_count a.slots);
      ceilings = map level (take a.object_count a.ceilings);
      ready = a.queues;
    }

-- the counts are within the arrays, the marks are those of the queues, and the delayed tasks are expected
pub record Kept (a : Inside) : Type 0 where
  pub slots : length a.slots ≡ task_limit
  pub cells : length a.ceilings ≡ object_limit
  pub levels : length a.queues ≡ last_priority
  pub tasks : a.task_count ≤ task_limit
  pub objects : a.object_count ≤ object_limit
  pub marks : a.marks ≡ marks_of a.queues
  pub next : Bounds a.next (view_of a)
  pub delayed : Notes a.delayed (view_of a)
