-- What a function knows of a state that it is handed: its arrays have their lengths.
-- `known s _ c.well_formed.0` where the state is the first parameter.
use mathlib.Core.Path.{◌≡◌}
use mathlib.Core.List.{List}
use Prim.Native.Nat.{◌*◌}
use lib.ListN.{length}
use mir.Val.{Val}
use denote.Laws.{Is}
use denote.Struct.Declared.{row}
use Rattle.rules.specs.Limits.{task_limit, object_limit, last_priority}
use Rattle.memory.specs.Rows.{held_width, queue_width}
use Rattle.dispatch.specs.declared.State.{State}
use Rattle.dispatch.specs.contracts.State.{the_type}

-- the lengths of a state's arrays
pub record Shaped (s : State) : Type 0 where
  pub tasks : length s.tasks ≡ task_limit
  pub held : length s.held ≡ task_limit * held_width
  pub ceilings : length s.ceilings ≡ object_limit
  pub queues : length s.queues ≡ last_priority * queue_width

pub known : (s : State) (vs : List Val) → Is (row the_type) s vs → Shaped s
known s vs w = record {
  tasks = w.1.1.1.1.1.1.1.0.1.0.1;
  held = w.1.1.1.1.1.1.1.1.0.1.0.1;
  ceilings = w.1.1.1.1.1.1.1.1.1.0.1.0.1;
  queues = w.1.1.1.1.1.1.1.1.1.1.0.1.0.1;
}
