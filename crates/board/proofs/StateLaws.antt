-- Laws of filling a board from a state: its answer, the rows that are written, and whom the board then names.
use mathlib.Core.Path.{◌≡◌, refl, sym, ap, ◌∙◌}
use mathlib.Core.Bool.{Bool, true, false, cond}
use mathlib.Core.List.{List}
use Prim.Native.Nat.{ℕ, ◌≤◌, ◌<◌}
use borrow.Author.Tests.{lt-ltb, le-ltb}
use lib.Dec.{ltb}
use lib.ListN.{length, take, drop}
use lib.Seq.{take_at}
use Rattle.rules.specs.Model.{task_at}
use Rattle.rules.specs.Moves.{highest, head_of}
use Rattle.rules.specs.declared.Place.TheVariants.{Ready}
use Rattle.rules.proofs.Choices.{compare, cond-true, cond-false}
use Rattle.rules.proofs.SoundLaws.{sound-is}
use Rattle.dispatch.specs.State.{view}
use Rattle.dispatch.specs.Sound.{sound_of}
use Rattle.dispatch.specs.declared.State.{State}
use Rattle.dispatch.proofs.MethodLaws.{view-sound}
use Rattle.board.specs.declared.Row.{Row}
use Rattle.std.specs.Prelude.{None, Some, Ok, Err}
use Rattle.board.specs.declared.FillError.TheVariants.{Unsound, TooFewRows}
use Rattle.board.specs.Rows.{row_limit, FillAnswer, filling_of, behind, told_of}
use Rattle.board.specs.Scan.{next_of}
use Rattle.board.specs.Fill.{row_of, rows_to, rows_of, fill_answer_of, board_after, fill_of, fill_first_of}
use Rattle.board.proofs.FillLaws.{rows-length, filled-ready, filled-nobody}
use Rattle.board.proofs.FoldLaws.{filled_to, filled-length, filled_is}

-- ---- the answer, by its tests
module _ (s : State) (n : ℕ) where
  abbrev count : ℕ
  count = length (view s).tasks

  pub answer-few : sound_of s ≡ true → n < count → fill_answer_of s n ≡ Err TooFewRows
  unfolding fill_answer_of
  answer-few e h = cond-true (sound_of s) _ (Err Unsound) e ∙ cond-true (ltb n count) _ _ (lt-ltb n count h)

  pub answer-done : sound_of s ≡ true → count ≤ n → fill_answer_of s n ≡ Ok tt
  unfolding fill_answer_of
  answer-done e h = cond-true (sound_of s) _ (Err Unsound) e ∙ cond-false (ltb n count) _ _ (le-ltb n count h)

  pub answer-unsound : sound_of s ≡ false → fill_answer_of s n ≡ (Err Unsound)
  unfolding fill_answer_of
  answer-unsound e = cond-false (sound_of s) _ (Err Unsound) e

-- ---- the board after it
module _ (s : State) (ys : List Row) where
  abbrev told : FillAnswer
  told = fill_answer_of s (length ys)

  -- what the walk leaves is what is promised
  pub board-is : sound_of s ≡ true → length (view s).tasks ≤ length ys →
      filled_to (row_of (view s)) (length (view s).tasks) ys ≡ board_after s told ys
  unfolding board_after rows_to
  board-is good room =
      filled_is (row_of (view s)) (rows_to (view s)) refl (λ n. refl) (length (view s).tasks) ys room ∙
      sym (ap (λ (a : FillAnswer). board_after s a ys) (answer-done s (length ys) good room))

  -- an answer and a board that are those which are promised
  pub fill_by : (a : FillAnswer) (zs : List Row) → a ≡ told → zs ≡ board_after s told ys → filling_of a zs ≡ fill_of s ys
  fill_by a zs e f = rw (e, f) refl

  -- no row is added and none is lost
  pub board-length : length (board_after s told ys) ≡ length ys
  unfolding board_after
  board-length = go (sound_of s) refl
    where
      size : FillAnswer → ℕ
      size a = length (board_after s a ys)

      go : (b : Bool) → sound_of s ≡ b → length (board_after s told ys) ≡ length ys
      go false e = ap size (answer-unsound s (length ys) e)
      go true e =
          compare (length (view s).tasks) (length ys)
          (λ h. ap length (sym (board-is e h)) ∙ filled-length (row_of (view s)) (length (view s).tasks) ys)
          (λ h. ap size (answer-few s (length ys) e h))

  -- ---- a board just filled from a sound state
  module _ (good : sound_of s ≡ true) (room : length (view s).tasks ≤ length ys) where
    abbrev count' : ℕ
    count' = length (view s).tasks

    filled-rows : take count' (fill_of s ys).board ≡ rows_of (view s)
    unfolding board_after
    filled-rows =
        ap (λ (a : FillAnswer). take count' (board_after s a ys)) (answer-done s (length ys) good room) ∙
        take_at (rows_of (view s)) (drop count' ys) count' (rows-length (view s) count')

    -- with a ready task, its rows name the head of the highest queue
    pub board-next : (t : ℕ) → t < count' → (task_at (view s) t).place ≡ Ready →
        next_of (take count' (fill_of s ys).board) ≡ told_of (Ok (Some (head_of (view s) (highest (view s)))))
    board-next t h e = ap next_of filled-rows ∙ filled-ready (view s) (view-sound s good) t h e

    -- without one, nobody
    pub board-nobody : highest (view s) ≡ 0 → next_of (take count' (fill_of s ys).board) ≡ told_of (Ok None)
    board-nobody e = ap next_of filled-rows ∙ filled-nobody (view s) (view-sound s good) e

-- ---- the first rows of an array
module _ (s : State) (rows : List Row) (count : ℕ) where
  pub fill-few : count ≤ row_limit → fill_first_of s rows count ≡ behind (fill_of s (take count rows)) (drop count rows)
  fill-few h = cond-false (ltb row_limit count) _ _ (le-ltb row_limit count h)

  -- with more than there are, no row is lent: a sound state has a task
  pub fill-many : row_limit < count → fill_first_of s rows count ≡ filling_of (fill_answer_of s 0) rows
  fill-many h =
      cond-true (ltb row_limit count) _ _ (lt-ltb row_limit count h) ∙ ap (λ (a : FillAnswer). filling_of a rows) (go (sound_of s) refl)
    where
      go : (b : Bool) → sound_of s ≡ b → cond (sound_of s) (Err TooFewRows) (Err Unsound) ≡ fill_answer_of s 0
      go true e =
          cond-true (sound_of s) _ _ e ∙ sym (answer-few s 0 e (sound-is (view s) (view-sound s e)).numbers.some)
      go false e = cond-false (sound_of s) _ _ e ∙ sym (answer-unsound s 0 e)
