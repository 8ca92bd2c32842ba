-- The bytes of a roster file, from bases, ceilings, lengths in steps and the steps' bytes.
use Rattle.std.specs.Prelude.{List, [], ◌∷◌, ◌++◌, ℕ, zero, suc, ◌+◌, ◌*◌, length, get_or, take, drop}
use Rattle.rules.specs.Fresh.{Setup}
use Rattle.words.specs.Words.{word, tabulate}
use Rattle.format.specs.Limits.{task_row_size, step_size, first_mark, second_mark}
use Rattle.format.specs.Steps.{steps_of}
use Rattle.format.specs.Roster.{Roster}

-- 2026-03: "from bases, ceilings and step lists": what a fresh start is made from, how many steps each task has, and all the steps,
-- 4 bytes each, task after task
pub record Parts : Type 0 where
  pub setup : Setup
  pub lengths : List ℕ
  pub steps : List ℕ

abbrev pub parts : List ℕ → List ℕ → List ℕ → List ℕ → Parts
parts bases ceilings lengths steps =
    record { setup = record { bases = bases; ceilings = ceilings }; lengths = lengths; steps = steps }

abbrev pub tasks_of : Parts → ℕ
tasks_of p = length p.setup.bases

abbrev pub objects_of : Parts → ℕ
objects_of p = length p.setup.ceilings

-- f 0, f 1, .. up to f (n - 1), one after the other
unfoldable pub pieces : ℕ → (ℕ → List ℕ) → List ℕ
pieces zero f = []
pieces (suc n) f = pieces n f ++ f n

-- how many steps stand before task t's
unfoldable pub steps_before : List ℕ → ℕ → ℕ
steps_before lengths zero = 0
steps_before lengths (suc t) = steps_before lengths t + get_or lengths t 0

-- where task t's script starts and how long it is, in bytes
abbrev pub bytes_before : List ℕ → ℕ → ℕ
bytes_before lengths t = step_size * steps_before lengths t

abbrev pub script_size : List ℕ → ℕ → ℕ
script_size lengths t = step_size * get_or lengths t 0

-- "scripts in task order from byte 0": the bytes of task t's
unfoldable pub script_at : Parts → ℕ → List ℕ
script_at p t = take (script_size p.lengths t) (drop (bytes_before p.lengths t) p.steps)

-- "Task row, 6 bytes: base, 0, script start (2), script length in bytes (2, a multiple of 4)."
unfoldable pub task_row_bytes : List ℕ → List ℕ → ℕ → List ℕ
task_row_bytes bases lengths t = get_or bases t 0 ∷ 0 ∷ (word (bytes_before lengths t) ++ word (script_size lengths t))

-- "Object row, 2 bytes: ceiling, 0."
unfoldable pub object_row_bytes : List ℕ → ℕ → List ℕ
object_row_bytes ceilings o = get_or ceilings o 0 ∷ 0 ∷ []

-- "Trailer: 52 35, task count, object count, start of object table (2 bytes), start of task table (2)."
unfoldable pub trailer_bytes : ℕ → ℕ → ℕ → ℕ → List ℕ
trailer_bytes tasks objects objects_at tasks_at = first_mark ∷ second_mark ∷ tasks ∷ objects ∷ (word objects_at ++ word tasks_at)

-- the tables and the trailer of what is given: the task table starts where the scripts end, the object table where the task table does
abbrev pub task_rows : Parts → List ℕ
task_rows p = pieces (tasks_of p) (task_row_bytes p.setup.bases p.lengths)

abbrev pub object_rows : Parts → List ℕ
object_rows p = pieces (objects_of p) (object_row_bytes p.setup.ceilings)

abbrev pub task_start : Parts → ℕ
task_start p = length p.steps

abbrev pub object_start : Parts → ℕ
object_start p = task_start p + task_row_size * tasks_of p

abbrev pub trailer_of : Parts → List ℕ
trailer_of p = trailer_bytes (tasks_of p) (objects_of p) (object_start p) (task_start p)

-- "with no gaps: scripts in task order from byte 0, task table, object table, then an 8-byte trailer"
unfoldable pub file_of : Parts → List ℕ
file_of p = p.steps ++ (task_rows p ++ (object_rows p ++ trailer_of p))

-- what was given, as a reader tells it
unfoldable pub given : Parts → Roster
given p =
    record {
      bases = p.setup.bases;
      ceilings = p.setup.ceilings;
      scripts = tabulate (tasks_of p) (λ t. steps_of (script_at p t));
    }
