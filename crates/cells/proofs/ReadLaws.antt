-- Laws of sixteen bytes that are taken out of a state: what they say is what the state says there.
use mathlib.Core.Path.{◌≡◌, sym}
use mathlib.Core.List.{List}
use Prim.Native.Nat.{ℕ, ◌+◌}
use native.Mathlib.Omega.{arith}
use lib.ListN.{length}
use Rattle.words.specs.Words.{byte_at, word_at, long_at, number_at, BytesAt}
use Rattle.words.proofs.TableLaws.{tabulate-of, length-tabulate}
use Rattle.dispatch.proofs.Known.{Shaped}
use Rattle.cells.specs.Sizes.{kind_offset, base_offset, waits_offset, waiting_offset, permit_offset}
use Rattle.cells.specs.Sizes.{running_at, task_count_at, object_count_at, marks_at}
use Rattle.cells.specs.Decode.{task_from, tasks_from, cells_from, head_from, state_of_bytes}
use Rattle.cells.specs.InRange.{row_in_range}

module _ (s row : List ℕ) (i : ℕ) (h : BytesAt s i 16 row) where
  number-there : number_at row 0 ≡ number_at s i
  unfolding number_at word_at
  number-there = grind (arith, h 0, h 1, h 2, h 3, h 4, h 5, h 6, h 7)

  pub task-there : task_from row 0 ≡ task_from s i
  unfolding task_from
  task-there =
      rw (
        number-there,
        h kind_offset (omega arith),
        h base_offset (omega arith),
        h waits_offset (omega arith),
        h waiting_offset (omega arith),
        h permit_offset (omega arith),
      )

  pub range-there : row_in_range row 0 ≡ row_in_range s i
  unfolding row_in_range
  range-there = rw (h kind_offset (omega arith), h waits_offset (omega arith), h permit_offset (omega arith))

long-there : (s row : List ℕ) → BytesAt s 0 16 row → long_at row marks_at ≡ long_at s marks_at
unfolding long_at word_at
long-there s row h = grind (arith, h 12, h 13, h 14, h 15)

pub head-there : (s row : List ℕ) → BytesAt s 0 16 row → head_from row ≡ head_from s
unfolding head_from
head-there s row h =
    let marks : long_at row marks_at ≡ long_at s marks_at = long-there s row h in
    rw (number-there s row 0 h, h running_at (omega arith), h task_count_at (omega arith), h object_count_at (omega arith), marks)

-- any number of bytes
pub cells-there : (s bytes : List ℕ) (i n : ℕ) → length bytes ≡ n → BytesAt s i n bytes → bytes ≡ cells_from s i n
unfolding cells_from
cells-there s bytes i n e h = sym (tabulate-of bytes n (λ k. byte_at s (i + k)) 0 e (λ k l. sym (h k l)))

-- a state that was read has arrays of the right lengths
pub decoded-shaped : (b : List ℕ) → Shaped (state_of_bytes b)
unfolding state_of_bytes tasks_from cells_from
decoded-shaped b =
    record { tasks = length-tabulate _ _; held = length-tabulate _ _; ceilings = length-tabulate _ _; queues = length-tabulate _ _ }
