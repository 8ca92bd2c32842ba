-- The bytes that stand for a state.
use Rattle.std.specs.Prelude.{◌≡◌, Bool, true, false, cond, ℕ, zero, suc, ◌/◌, ◌%◌, ◌<◌, ltb, length, drop, get_or}
use Rattle.std.specs.Prelude.{None, Option, Some, unwrap_or}
use mathlib.Core.List.{List, [], ◌∷◌, ◌++◌, map, flat_map}
use Rattle.rules.specs.declared.Place.{Place}
use Rattle.rules.specs.declared.Place.TheVariants.{Running, Ready, Delayed, Suspended, Ended}
use Rattle.rules.specs.declared.Priority.{Priority}
use Rattle.rules.specs.declared.Task.{Task}
use Rattle.rules.specs.Kinds.{kind_of, kind_number}
use Rattle.rules.specs.Priorities.{level}
use Rattle.memory.specs.Memory.{blank_task}
use Rattle.dispatch.specs.declared.State.{State}
use Rattle.cells.specs.declared.head.Head.{Head}
use Rattle.cells.specs.Sizes.{number_size, marks_size, nobody_code, state_size}

-- the k lowest bytes of a number, the lowest first
unfoldable pub low_bytes : ℕ → ℕ → List ℕ
low_bytes zero n = []
low_bytes (suc k) n = n % 256 ∷ low_bytes k (n / 256)

abbrev pub runner_code : Option ℕ → ℕ
runner_code w = unwrap_or w nobody_code

-- the due time of a task that is not delayed is 0
abbrev pub due_of : Place → ℕ
due_of Running = 0
due_of Ready = 0
due_of (Delayed d) = d
due_of Suspended = 0
due_of Ended = 0

-- whether a base waits, and which
abbrev pub waits_byte : Option Priority → ℕ
waits_byte None = 0
waits_byte (Some p) = 1

abbrev pub waiting_byte : Option Priority → ℕ
waiting_byte None = 0
waiting_byte (Some p) = p.0

-- a permit is 1 where it is on
abbrev pub bit : Bool → ℕ
bit true = 1
bit false = 0

-- a task row
unfoldable pub task_tail : Task → List ℕ
task_tail k =
    kind_number (kind_of k.place) ∷ (k.base.0 ∷ (waits_byte k.waiting ∷ (waiting_byte k.waiting ∷ (bit k.permit ∷ (0 ∷ (0 ∷ (0 ∷ [])))))))

unfoldable pub task_bytes : Task → List ℕ
task_bytes k = low_bytes number_size (due_of k.place) ++ task_tail k

-- the head
unfoldable pub head_row : Head → List ℕ
head_row h =
    low_bytes number_size h.now ++
    (runner_code h.running ∷ (h.task_count ∷ (h.object_count ∷ (0 ∷ low_bytes marks_size h.marks))))

abbrev pub head_in : State → Head
head_in s =
    record { now = s.now; running = s.running; task_count = s.task_count; object_count = s.object_count; marks = s.marks }

abbrev pub head_bytes : State → List ℕ
head_bytes s = head_row (head_in s)

-- the whole
unfoldable pub bytes_of_state : State → List ℕ
bytes_of_state s = head_bytes s ++ (flat_map task_bytes s.tasks ++ (map level s.ceilings ++ (s.held ++ s.queues)))

-- bytes with a state written over the first of them; untouched, where they are too few
unfoldable pub with_state : State → List ℕ → List ℕ
with_state s b = cond (ltb (length b) state_size) b (bytes_of_state s ++ drop state_size b)

-- a state whose numbers fit their bytes: those of code do, but that a running task 255 would read as nobody
abbrev pub number_values : ℕ
number_values = 18446744073709551616

abbrev pub marks_values : ℕ
marks_values = 4294967296

pub record Fits (s : State) : Type 0 where
  pub now : s.now < number_values
  pub running : (t : ℕ) → s.running ≡ Some t → t < nobody_code
  pub marks : s.marks < marks_values
  pub due : (t : ℕ) → due_of (get_or s.tasks t blank_task).place < number_values
