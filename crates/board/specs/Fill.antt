-- What filling writes on a board: a row for each task of a state, and nothing else.
use Rattle.std.specs.Prelude.{cond, List, [], ◌∷◌, ◌++◌, ℕ, zero, suc, ltb, length, take, drop, Ok, Err}
use Rattle.rules.specs.Model.{Model, task_at, queue, active}
use Rattle.rules.specs.Kinds.{kind_of}
use Rattle.memory.specs.Rows.{place_in}
use Rattle.dispatch.specs.State.{view}
use Rattle.dispatch.specs.Sound.{sound_of}
use Rattle.dispatch.specs.declared.State.{State}
use Rattle.board.specs.declared.Row.{Row}
use Rattle.board.specs.declared.FillError.TheVariants.{Unsound, TooFewRows}
use Rattle.board.specs.Rows.{row_limit, is_ready_kind, FillAnswer, Filling, filling_of, behind}

-- "position in its queue (0 at the head, 0 if not ready)"
unfoldable pub queue_position : Model → ℕ → ℕ
queue_position m t = cond (is_ready_kind (kind_of (task_at m t).place)) (place_in t (queue m (active m t))) 0

-- the row of task t: "place kind, active priority, position in its queue"
unfoldable pub row_of : Model → ℕ → Row
row_of m t = record { kind = kind_of (task_at m t).place; priority = record { 0 = active m t }; position = queue_position m t }

-- "one row per task": the rows of the first n tasks, and of all
unfoldable pub rows_to : Model → ℕ → List Row
rows_to m zero = []
rows_to m (suc n) = rows_to m n ++ (row_of m n ∷ [])

abbrev pub rows_of : Model → List Row
rows_of m = rows_to m (length m.tasks)

-- "with an unsound state it answers 10, else with too few rows 13": the answer for a board of n rows
unfoldable pub fill_answer_of : State → ℕ → FillAnswer
fill_answer_of s n = cond (sound_of s) (cond (ltb n (length (view s).tasks)) (Err TooFewRows) (Ok tt)) (Err Unsound)

-- "Filling it writes the first rows, one per task, and no others"; refused, it "writes nothing"
unfoldable pub board_after : State → FillAnswer → List Row → List Row
board_after s (Ok done) board = rows_of (view s) ++ drop (length (view s).tasks) board
board_after s (Err e) board = board

-- what filling a board is promised to give
abbrev pub fill_of : State → List Row → Filling
fill_of s board = filling_of (fill_answer_of s (length board)) (board_after s (fill_answer_of s (length board)) board)

-- the same for the first rows of an array, the others staying as they are; with more of them than there are, 10 or else 13
abbrev pub fill_first_of : State → List Row → ℕ → Filling
fill_first_of s rows count =
    cond (ltb row_limit count) (filling_of (cond (sound_of s) (Err TooFewRows) (Err Unsound)) rows)
    (behind (fill_of s (take count rows)) (drop count rows))
