-- A board as bytes, three for each row: place kind, active priority, position. Bytes behind the last whole row are no part of it.
use Rattle.std.specs.Prelude.{cond, ℕ, ◌+◌, ◌*◌, ◌/◌, eqb, ltb, length, drop, Option, unwrap_or}
use mathlib.Core.List.{List, [], ◌∷◌, ◌++◌, flat_map}
use Rattle.rules.specs.Kinds.{kind_from, kind_number}
use Rattle.rules.specs.Priorities.{priority}
use Rattle.dispatch.specs.State.{view}
use Rattle.board.specs.Rows.{row_limit, Told, fill_number}
use Rattle.board.specs.Scan.{next_of}
use Rattle.board.specs.Fill.{rows_of, fill_answer_of}
use Rattle.board.specs.declared.Row.{Row}
use Rattle.cells.specs.Sizes.{nobody_code}
use Rattle.words.specs.Words.{tabulate, byte_at}
use Rattle.cells.specs.Decode.{state_of_bytes}
use Rattle.cells.specs.InRange.{unless_unreadable}

abbrev pub row_size : ℕ
row_size = 3

-- the row that starts at i, all rows, and the bytes for one; a kind that is none of the five reads as running, as in a state
unfoldable pub row_from : List ℕ → ℕ → Row
row_from b i = record { kind = kind_from (byte_at b i); priority = priority (byte_at b (i + 1)); position = byte_at b (i + 2) }

unfoldable pub rows_from : List ℕ → ℕ → List Row
rows_from b n = tabulate n (λ i. row_from b (row_size * i))

abbrev pub row_count : List ℕ → ℕ
row_count b = length b / row_size

unfoldable pub row_bytes : Row → List ℕ
row_bytes r = kind_number r.kind ∷ (r.priority.0 ∷ (r.position ∷ []))

-- how many of n rows can be written: no more than there can be tasks
abbrev pub lent_of : ℕ → ℕ
lent_of n = cond (ltb row_limit n) row_limit n

-- "with an unsound state it answers 10, else with too few rows 13"; so do too few bytes for a state, and a number out of range
unfoldable pub fill_answer : List ℕ → List ℕ → ℕ
fill_answer b board = unless_unreadable b (fill_number (fill_answer_of (state_of_bytes b) (row_count board)))

-- "Filling it writes the first rows, one per task, and no others"
unfoldable pub filled_bytes : List ℕ → List ℕ → List ℕ
filled_bytes b board =
    cond (eqb (fill_answer b board) 0)
    (flat_map row_bytes (rows_of (view (state_of_bytes b))) ++ drop (row_size * length (view (state_of_bytes b)).tasks) board)
    board

-- the next row and the answer's number, in one: the number, and 256 times the row, 255 being nobody
abbrev pub row_byte : Option ℕ → ℕ
row_byte o = unwrap_or o nobody_code

unfoldable pub packed_told : Told → ℕ
packed_told t = t.number + 256 * row_byte t.next

unfoldable pub next_number : List ℕ → ℕ
next_number board = packed_told (next_of (rows_from board (row_count board)))
