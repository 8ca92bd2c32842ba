-- The scan of a board, row by row, as the code does it; proofs/NextLaws shows that it finds what Next says.
use Rattle.std.specs.Prelude.{Bool, cond, ◌&&◌, ◌||◌, List, ℕ, zero, suc, eqb, ltb, length, take, None, Option, Some, Ok, Err}
use Rattle.std.specs.Prelude.{option_map}
use Rattle.rules.specs.Lists.{below}
use Rattle.rules.specs.Priorities.{in_range}
use Rattle.board.specs.declared.Row.{Row}
use Rattle.board.specs.declared.NextError.TheVariants.{TooManyRows, BadPriority}
use Rattle.board.specs.Rows.{row_limit, is_ready_kind, row_at, NextAnswer, Told, told_of}

-- a ready row a comes before an earlier one, b: where its priority is higher, or the same and its position lower
abbrev pub precedes_of : Row → Row → Bool
precedes_of a b = ltb b.priority.0 a.priority.0 || (eqb a.priority.0 b.priority.0 && ltb a.position b.position)

-- a row that is ready leads where none leads so far, and where it comes before the one that does
abbrev pub leads_of : Row → Option (ℕ × Row) → Bool
leads_of r None = is_ready_kind r.kind
leads_of r (Some b) = is_ready_kind r.kind && precedes_of r b.1

-- the best of the first n rows, with its number, if one is ready
abbrev pub best_of : List Row → ℕ → Option (ℕ × Row)
best_of rows zero = None
best_of rows (suc n) = cond (leads_of (row_at rows n) (best_of rows n)) (Some (n, row_at rows n)) (best_of rows n)

-- "a priority outside 1 to 32 in any row", and none in the first n rows
abbrev pub ranged : List Row → ℕ → Bool
ranged rows n = below n (λ i. in_range (row_at rows i).priority.0)

-- 13; 3; a row, or nobody
unfoldable pub scan_of : List Row → NextAnswer
scan_of rows =
    cond (ltb row_limit (length rows)) (Err TooManyRows)
    (cond (ranged rows (length rows)) (Ok (option_map (λ b. b.0) (best_of rows (length rows)))) (Err BadPriority))

-- what a board is promised to answer
abbrev pub next_of : List Row → Told
next_of rows = told_of (scan_of rows)

-- the same of the first rows of an array; more of them than it may have is 13 too
abbrev pub next_first_of : List Row → ℕ → Told
next_first_of rows count = cond (ltb row_limit count) (told_of (Err TooManyRows)) (next_of (take count rows))
