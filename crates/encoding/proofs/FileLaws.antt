-- Laws of the file: how long its parts are, where each starts, and the steps that stand before a script.
use mathlib.Core.Path.{◌≡◌, refl, ap, ◌∙◌}
use mathlib.Core.List.{List, ◌++◌, append_assoc}
use Prim.Native.Nat.{ℕ, zero, suc, ◌+◌, ◌*◌, ◌≤◌, ◌<◌}
use native.Mathlib.Numerals.{add-one}
use native.Mathlib.Omega.{arith}
use lib.ListN.{length, get_or, length-append}
use Rattle.rules.specs.Limits.{largest_roster}
use Rattle.rules.proofs.Choices.{split}
use Rattle.rules.proofs.LimitLaws.{Counted}
use Rattle.format.specs.Limits.{trailer_size, task_row_size, object_row_size}
use Rattle.encoding.specs.File.{Parts, tasks_of, objects_of, pieces, steps_before, bytes_before, script_size, task_row_bytes}
use Rattle.encoding.specs.File.{object_row_bytes}
use Rattle.encoding.specs.File.{trailer_bytes, task_rows, object_rows, object_start, trailer_of, file_of}
use Rattle.encoding.proofs.PieceLaws.{pieces-length}

-- the steps before a script
pub before-none : (lengths : List ℕ) → steps_before lengths 0 ≡ 0
unfolding steps_before
before-none lengths = refl

pub before-suc : (lengths : List ℕ) (t : ℕ) → steps_before lengths (suc t) ≡ steps_before lengths t + get_or lengths t 0
unfolding steps_before
before-suc lengths t = refl

pub before_more : (lengths : List ℕ) (t sum size : ℕ) → sum ≡ steps_before lengths t → size ≡ get_or lengths t 0 →
    sum + size ≡ steps_before lengths (t + 1)
before_more lengths t sum size e f = omega (arith, before-suc lengths t, ap (steps_before lengths) (add-one t))

pub before-rise : (lengths : List ℕ) (t n : ℕ) → t ≤ n → steps_before lengths t ≤ steps_before lengths n
before-rise lengths t zero h = omega (arith, ap (steps_before lengths) (let z : t ≡ 0 = omega arith in z))
before-rise lengths t (suc n) h =
    split t (suc n)
    (λ e. omega (arith, ap (steps_before lengths) e))
    (λ d. omega (arith, before-rise lengths t n (omega arith), before-suc lengths n))

-- a task row has 6 bytes, an object row 2
pub task-rows : (bases lengths : List ℕ) (n : ℕ) → length (pieces n (task_row_bytes bases lengths)) ≡ task_row_size * n
unfolding task_row_bytes
task-rows bases lengths n = omega (arith, pieces-length (task_row_bytes bases lengths) task_row_size n (λ t. refl))

pub object-rows : (ceilings : List ℕ) (n : ℕ) → length (pieces n (object_row_bytes ceilings)) ≡ object_row_size * n
unfolding object_row_bytes
object-rows ceilings n = omega (arith, pieces-length (object_row_bytes ceilings) object_row_size n (λ o. refl))

module _ (p : Parts) where
  abbrev pub trailer_start : ℕ
  trailer_start = object_start p + object_row_size * objects_of p

  pub trailer-length : length (trailer_of p) ≡ trailer_size
  unfolding trailer_bytes
  trailer-length = refl

  -- what stands before each part
  pub front_length : length (p.steps ++ task_rows p) ≡ object_start p
  front_length = omega (arith, length-append p.steps (task_rows p), task-rows p.setup.bases p.lengths (tasks_of p))

  pub tables-length : length ((p.steps ++ task_rows p) ++ object_rows p) ≡ trailer_start
  tables-length =
      omega (
        arith,
        front_length,
        object-rows p.setup.ceilings (objects_of p),
        length-append (p.steps ++ task_rows p) (object_rows p),
      )

  pub file-whole : ((p.steps ++ task_rows p) ++ object_rows p) ++ trailer_of p ≡ file_of p
  unfolding file_of
  file-whole =
      append_assoc (p.steps ++ task_rows p) (object_rows p) (trailer_of p) ∙
      append_assoc p.steps (task_rows p) (object_rows p ++ trailer_of p)

  pub file-length : length (file_of p) ≡ trailer_start + trailer_size
  file-length =
      let tables = (p.steps ++ task_rows p) ++ object_rows p in
      omega (arith, ap length file-whole, length-append tables (trailer_of p), tables-length, trailer-length)

  -- the sizes of what is given, where 13, 14 and 11 are kept
  pub record Sizes : Type 0 where
    pub counts : Counted (tasks_of p) (objects_of p)
    pub each : length p.lengths ≡ tasks_of p
    pub whole : bytes_before p.lengths (tasks_of p) ≡ length p.steps
    pub small : length (file_of p) ≤ largest_roster

  -- every script lies within the steps
  pub script-inside : bytes_before p.lengths (tasks_of p) ≡ length p.steps → (t : ℕ) → t < tasks_of p →
      bytes_before p.lengths t + script_size p.lengths t ≤ length p.steps
  script-inside e t h = omega (arith, before-suc p.lengths t, before-rise p.lengths (suc t) (tasks_of p) h)
