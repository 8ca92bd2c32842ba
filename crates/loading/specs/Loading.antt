-- What stands between a state in rows of its own and the engine's memory: the test of its sizes, and the lists of its rows.
use Rattle.std.specs.Prelude.{◌≡◌, Bool, ◌&&◌, List, [], ◌++◌, map, ℕ, ◌-◌, ◌*◌, ◌<◌, ltb, length, get_or, replicate, Option}
use Rattle.rules.specs.Limits.{task_limit, last_priority, counts_good}
use Rattle.rules.specs.Lists.{below}
use Rattle.rules.specs.Model.{TaskRecord, Model}
use Rattle.rules.specs.declared.Priority.{Priority}
use Rattle.rules.specs.declared.Task.{Task}
use Rattle.memory.specs.Rows.{held_width, queue_width, held_in}
use Rattle.memory.specs.Memory.{record_of}

-- the lengths in the first n rows of width w leave room for themselves
abbrev pub lengths_good : ℕ → ℕ → List ℕ → Bool
lengths_good w n l = below n (λ i. ltb (get_or l (i * w) 0) w)

-- the counts of tasks and objects, and the lengths of the held lists and of the ready queues
abbrev pub parts_fit : ℕ → ℕ → List ℕ → List ℕ → Bool
parts_fit n m held queues = counts_good n m && lengths_good held_width n held && lengths_good queue_width last_priority queues

-- a list of n entries: x stands behind the last
unfoldable pub padded : {A : Type 0} → ℕ → List A → A → List A
padded n l x = l ++ replicate (n - length l) x

-- what a task holds; what each task of a Model holds, and nothing behind the last
abbrev pub holding : TaskRecord → List ℕ
holding k = k.held

abbrev pub held_lists : Model → List (List ℕ)
held_lists m = padded task_limit (map holding m.tasks) []

-- a Model with this reading, running task and ready queues
abbrev pub with_numbers : Model → ℕ → Option ℕ → List (List ℕ) → Model
with_numbers m now running ready = record { now = now; running = running; tasks = m.tasks; ceilings = m.ceilings; ready = ready }

-- a list of n elements, each of which is as P says of its index
pub record Each {A : Type 0} (P : ℕ → A → Type 0) (d : A) (n : ℕ) (l : List A) : Type 0 where
  pub count : length l ≡ n
  pub each : (i : ℕ) → i < n → P i (get_or l i d)

-- a task whose record a closure gives, and which holds what its row says; a ceiling that a closure gives
abbrev pub TaskFrom : (ℕ → Task → Type 0) → List ℕ → ℕ → TaskRecord → Type 0
TaskFrom post held t x = (k : Task) × post t k × (x ≡ record_of k (get_or (held_in held) t []))

abbrev pub CeilingFrom : (ℕ → Priority → Type 0) → ℕ → ℕ → Type 0
CeilingFrom post o x = (p : Priority) × post o p × (x ≡ p.0)
