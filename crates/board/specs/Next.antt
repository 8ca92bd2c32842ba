-- What the next row of a board is, in document 01's words.
use Rattle.std.specs.Prelude.{◌≡◌, true, false, List, ℕ, ◌≤◌, ◌<◌, length, None, Some, Ok, Err}
use Rattle.rules.specs.Priorities.{in_range}
use Rattle.board.specs.declared.Row.{Row}
use Rattle.board.specs.declared.NextError.TheVariants.{TooManyRows, BadPriority}
use Rattle.board.specs.Rows.{row_limit, is_ready_kind, row_at, Told, told_of}

-- a row's columns
abbrev pub priority_at : List Row → ℕ → ℕ
priority_at rows i = (row_at rows i).priority.0

abbrev pub position_at : List Row → ℕ → ℕ
position_at rows i = (row_at rows i).position

-- a row of the board that is ready
pub record ReadyRow (rows : List Row) (i : ℕ) : Type 0 where
  pub there : i < length rows
  pub ready : is_ready_kind (row_at rows i).kind ≡ true

-- row i comes before row j: "the highest priority, then lowest position, then lowest row"
pub data Before (rows : List Row) (i j : ℕ) : Type 0 where
  higher : priority_at rows j < priority_at rows i → Before rows i j
  earlier : priority_at rows i ≡ priority_at rows j → position_at rows i < position_at rows j → Before rows i j
  lower : priority_at rows i ≡ priority_at rows j → position_at rows i ≡ position_at rows j → i < j → Before rows i j

-- "its next: among ready rows": no other ready row comes before it
pub record NextRow (rows : List Row) (i : ℕ) : Type 0 where
  pub ready : ReadyRow rows i
  pub first : (j : ℕ) → ReadyRow rows j → Before rows j i → ⊥

-- "a priority outside 1 to 32 in any row", and none
pub record BadRow (rows : List Row) : Type 0 where
  pub at : ℕ
  pub there : at < length rows
  pub bad : in_range (priority_at rows at) ≡ false

abbrev pub NoBadRow : List Row → Type 0
NoBadRow rows = (i : ℕ) → i < length rows → in_range (priority_at rows i) ≡ true

-- the answer: "More than" row_limit "rows is 13; else a priority outside 1 to 32 in any row is 3"; else the next row, "or nobody"
pub data Answers (rows : List Row) : Told → Type 0 where
  too_many : row_limit < length rows → Answers rows (told_of (Err TooManyRows))
  bad : length rows ≤ row_limit → BadRow rows → Answers rows (told_of (Err BadPriority))
  named : length rows ≤ row_limit → NoBadRow rows → (i : ℕ) → NextRow rows i → Answers rows (told_of (Ok (Some i)))
  none : length rows ≤ row_limit → NoBadRow rows → ((i : ℕ) → ReadyRow rows i → ⊥) → Answers rows (told_of (Ok None))
