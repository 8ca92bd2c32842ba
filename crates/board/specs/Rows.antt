-- The rows of a board, and what it answers when it is asked or filled: document 01's number and values for each case.
use Rattle.std.specs.Prelude.{Bool, true, false, List, ◌++◌, ℕ, get_or, None, Option, Result, Ok, Err, ⊤}
use Rattle.rules.specs.Limits.{task_limit, first_priority}
use Rattle.rules.specs.Answers.{number_by, number_of}
use Rattle.rules.specs.declared.Refusal.TheVariants as refusal
use Rattle.rules.specs.declared.PlaceKind.{PlaceKind}
use Rattle.rules.specs.declared.PlaceKind.TheVariants.{Running, Ready, Delayed, Suspended, Ended}
use Rattle.board.specs.declared.Row.{Row}
use Rattle.board.specs.declared.NextError.{NextError}
use Rattle.board.specs.declared.NextError.TheVariants.{TooManyRows, BadPriority}
use Rattle.board.specs.declared.FillError.{FillError}
use Rattle.board.specs.declared.FillError.TheVariants.{Unsound, TooFewRows}

-- 2026-07: "The board's 32 rows become 64": there is one row per task
abbrev pub row_limit : ℕ
row_limit = task_limit

-- a row is ready by its place kind, "one of the five above"
abbrev pub is_ready_kind : PlaceKind → Bool
is_ready_kind Running = false
is_ready_kind Ready = true
is_ready_kind Delayed = false
is_ready_kind Suspended = false
is_ready_kind Ended = false

-- what a row past the last reads as
abbrev pub no_row : Row
no_row = record { kind = Ended; priority = record { 0 = first_priority }; position = 0 }

abbrev pub row_at : List Row → ℕ → Row
row_at rows i = get_or rows i no_row

-- what a board answers when it is asked: "its next", a row or nobody, or why not
abbrev pub NextAnswer : Type 0
NextAnswer = Result (Option ℕ) NextError

abbrev pub next_number : NextError → ℕ
next_number TooManyRows = number_of (Err refusal.BadCounts)
next_number BadPriority = number_of (Err refusal.BadPriority)

pub record Told : Type 0 where
  pub number : ℕ
  pub next : Option ℕ

-- the number and the row that each answer stands for; every promise about the next row goes through this
abbrev pub told_of : NextAnswer → Told
told_of (Ok i) = record { number = number_of (Ok tt); next = i }
told_of (Err e) = record { number = next_number e; next = None }

-- what filling a board answers
abbrev pub FillAnswer : Type 0
FillAnswer = Result ⊤ FillError

abbrev pub unfilled_number : FillError → ℕ
unfilled_number Unsound = number_of (Err refusal.Unsound)
unfilled_number TooFewRows = number_of (Err refusal.BadCounts)

-- the number of each answer, and the board after it; every promise about filling goes through this
abbrev pub fill_number : FillAnswer → ℕ
fill_number a = number_by unfilled_number a

pub record Filling : Type 0 where
  pub number : ℕ
  pub board : List Row

abbrev pub filling_of : FillAnswer → List Row → Filling
filling_of a rows = record { number = fill_number a; board = rows }

-- with rows behind the board that stay as they are
abbrev pub behind : Filling → List Row → Filling
behind f rows = record { number = f.number; board = f.board ++ rows }
