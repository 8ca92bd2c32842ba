-- Laws of filling a board of bytes: the answer for as many rows as it has, and the rows that are written.
use mathlib.Core.Path.{◌≡◌, refl, ap, sym, ◌∙◌}
use mathlib.Core.Bool.{Bool, true, false}
use mathlib.Core.List.{List, ◌++◌, append_assoc, flat_map}
use Prim.Native.Nat.{ℕ, ◌*◌, ◌≤◌}
use native.Mathlib.Omega.{arith}
use borrow.Author.Tests.{lt-ltb, le-ltb, ltb-false, eq-eqb, ne_eqb}
use lib.Dec.{eqb, ltb}
use lib.ListN.{length, take, drop, replicate}
use lib.Seq.{sets, take_at, length-take-le}
use Rattle.rules.specs.Answers.{number_of}
use Rattle.std.specs.Prelude.{Ok, Err}
use Rattle.rules.specs.declared.Refusal.TheVariants.{Unsound}
use Rattle.rules.proofs.Choices.{cond-true, cond-false, compare, both_ways}
use Rattle.rules.specs.Priorities.{priority}
use Rattle.dispatch.specs.State.{view}
use Rattle.dispatch.specs.Sound.{sound_of}
use Rattle.dispatch.proofs.Known.{Shaped}
use Rattle.dispatch.specs.declared.State.{State}
use Rattle.dispatch.proofs.MethodLaws.{sound-fits}
use Rattle.board.specs.Rows.{row_limit, FillAnswer, unfilled_number, fill_number, Filling, filling_of, behind}
use Rattle.board.specs.Fill.{rows_of, fill_answer_of, board_after, fill_of, fill_first_of}
use Rattle.rules.specs.declared.PlaceKind.TheVariants.{Ended}
use Rattle.board.specs.declared.FillError.{FillError}
use Rattle.board.specs.declared.FillError.TheVariants as why
use Rattle.board.specs.declared.Row.{Row}
use Rattle.board.proofs.StateLaws.{answer-few, answer-unsound, fill-few}
use Rattle.board.proofs.FillLaws.{rows-length}
use Rattle.dispatch.proofs.LoadLaws.{fitting, tasks-are}
use Rattle.cells.specs.InRange.{readable}
use Rattle.cells.specs.Decode.{state_of_bytes}
use Rattle.board_bytes.specs.Boards.{row_size, row_count, row_bytes, lent_of, fill_answer, filled_bytes}
use Rattle.words.proofs.CopyLaws.{sets_over}
use Rattle.cells.proofs.ReadLaws.{decoded-shaped}
use Rattle.cells.proofs.RangeLaws.{unread-answer, read_answer}
use Rattle.board_bytes.proofs.BoardLaws.{rows-size}

-- the rows that are lent
abbrev pub blank_rows : List Row
blank_rows = replicate row_limit (record { kind = Ended; priority = priority 0; position = 0 })

lent-few : (n : ℕ) → lent_of n ≤ row_limit
lent-few n = both_ways (λ x. x ≤ row_limit) (ltb row_limit n) row_limit n (λ e. omega arith) (λ e. ltb-false row_limit n e)

-- the numbers of the answers tell them apart
done-only : (x : FillAnswer) → fill_number x ≡ 0 → x ≡ Ok tt
done-only (Ok done) e = refl
done-only (Err why.Unsound) e = absurd (omega arith)
done-only (Err why.TooFewRows) e = absurd (omega arith)

pub refusal_counts : (e : FillError) → unfilled_number e ≡ 0 → ⊥
refusal_counts why.Unsound e = omega arith
refusal_counts why.TooFewRows e = omega arith

module _ (s : State) (known : Shaped s) where
  abbrev count : ℕ
  count = length (view s).tasks

  most : count ≤ row_limit
  most = omega (arith, tasks-are s known)

  -- rows that no task can have do not change the answer
  lent-answer : (n : ℕ) → fill_answer_of s (lent_of n) ≡ fill_answer_of s n
  unfolding fill_answer_of
  lent-answer n =
      compare n row_limit
      (λ h. ap (fill_answer_of s) (cond-false (ltb row_limit n) row_limit n (le-ltb row_limit n h)))
      (λ h. ap (fill_answer_of s) (cond-true (ltb row_limit n) row_limit n (lt-ltb row_limit n h)) ∙
      rw (le-ltb row_limit count most, le-ltb n count (omega (arith, most))))

  -- 0 is answered for a sound state with room for its tasks
  done-sound : (n : ℕ) → fill_answer_of s n ≡ Ok tt → (sound_of s ≡ true) × (count ≤ n)
  done-sound n e = go (sound_of s) refl
    where
      go : (t : Bool) → sound_of s ≡ t → (sound_of s ≡ true) × (count ≤ n)
      go false f = absurd (let z : ◌≡◌ {A = ℕ} 10 0 = ap fill_number (sym (answer-unsound s n f) ∙ e) in omega arith)
      go true f =
          compare count n (λ h. (f, h))
          (λ h. absurd (let z : ◌≡◌ {A = ℕ} 13 0 = ap fill_number (sym (answer-few s n f h) ∙ e) in omega arith))

  said-count : sound_of s ≡ true → (count ≡ s.task_count) × (s.task_count ≤ row_limit)
  said-count e =
      let fit = fitting s (sound-fits s e) in
      (omega (arith, tasks-are s known, fit.count), fit.count)

-- the bytes of a board after its rows were written
abbrev filled_with : List ℕ → State → List ℕ
filled_with board s = flat_map row_bytes (rows_of (view s)) ++ drop (row_size * length (view s).tasks) board

module _ (b board : List ℕ) (room : readable b ≡ true) (s : State) (e : s ≡ state_of_bytes b) (blank : List Row)
    (size : length blank ≡ row_limit) (k : ℕ) (lent : k ≡ lent_of (row_count board)) (a : FillAnswer) (rows : List Row)
    (filled : filling_of a rows ≡ fill_first_of s blank k) (n : ℕ) (told : n ≡ fill_number a) where
  shaped : Shaped s
  shaped = rw e (decoded-shaped b)

  few : k ≤ row_limit
  few = rw lent (lent-few (row_count board))

  taken : length (take k blank) ≡ k
  taken = length-take-le k blank (omega (arith, few))

  whole : filling_of a rows ≡ behind (fill_of s (take k blank)) (drop k blank)
  whole = filled ∙ fill-few s blank k few

  answered : fill_answer_of s (length (take k blank)) ≡ fill_answer_of s (row_count board)
  answered = ap (fill_answer_of s) (taken ∙ lent) ∙ lent-answer s shaped (row_count board)

  number : fill_number a ≡ fill_number (fill_answer_of s (row_count board))
  number = ap (λ (x : Filling). x.number) whole ∙ ap fill_number answered

  fill-number : n ≡ fill_answer b board
  unfolding fill_answer
  fill-number =
      told ∙ (number ∙ (ap (λ (x : State). fill_number (fill_answer_of x (row_count board))) e ∙
      sym (read_answer b (fill_number (fill_answer_of (state_of_bytes b) (row_count board))) room)))

  pub fill-refused : (n ≡ 0 → ⊥) → (n ≡ fill_answer b board) × (board ≡ filled_bytes b board)
  unfolding filled_bytes
  fill-refused z =
      (fill-number, sym (cond-false (eqb (fill_answer b board) 0) _ board (ne_eqb _ 0 (λ x. z (fill-number ∙ x)))))

  module _ (z : n ≡ 0) where
    done : fill_answer_of s (row_count board) ≡ Ok tt
    done = done-only (fill_answer_of s (row_count board)) (sym number ∙ (sym told ∙ z))

    good : (sound_of s ≡ true) × (length (view s).tasks ≤ row_count board)
    good = done-sound s shaped (row_count board) done

    told-count : (length (view s).tasks ≡ s.task_count) × (s.task_count ≤ row_limit)
    told-count = said-count s shaped good.0

    pub fill-room : (s.task_count ≤ row_limit) × (row_size * s.task_count ≤ length board)
    fill-room = (told-count.1, omega (arith, told-count.0, good.1))

    first_rows : take (length (view s).tasks) rows ≡ rows_of (view s)
    unfolding board_after
    first_rows =
        let all = ap (λ (x : Filling). x.board) whole in
        let told-done = ap (λ (x : FillAnswer). board_after s x (take k blank) ++ drop k blank) (answered ∙ done) in
        let own = rows_of (view s) in
        let rest = drop (length (view s).tasks) (take k blank) in
        ap (take (length (view s).tasks)) (all ∙ (told-done ∙ append_assoc own rest (drop k blank))) ∙
        take_at own (rest ++ drop k blank) (length (view s).tasks) (rows-length (view s) (length (view s).tasks))

    pub fill_done : (board' : List ℕ) → board' ≡ sets board 0 (flat_map row_bytes (take s.task_count rows)) →
        (0 ≡ fill_answer b board) × (board' ≡ filled_bytes b board)
    unfolding filled_bytes
    fill_done board' f =
        let zero_is : fill_answer b board ≡ 0 = sym fill-number ∙ z in
        let c = length (view s).tasks in
        let same : take s.task_count rows ≡ rows_of (view s) = ap (λ (m : ℕ). take m rows) (sym told-count.0) ∙ first_rows in
        let text = flat_map row_bytes (rows_of (view s)) in
        let long : length text ≡ row_size * c = rows-size (rows_of (view s)) ∙ ap (λ (m : ℕ). row_size * m) (rows-length (view s) c) in
        let front = sets_over board text (row_size * c) long (omega (arith, good.1)) in
        let written = cond-true (eqb (fill_answer b board) 0) _ board (eq-eqb _ 0 zero_is) in
        let put = f ∙ ap (λ (l : List Row). sets board 0 (flat_map row_bytes l)) same in
        (sym zero_is, put ∙ (front ∙ (ap (filled_with board) e ∙ sym written)))

-- bytes that are no state's
pub fill-unread : (b board : List ℕ) (n : ℕ) → n ≡ number_of (Err Unsound) → readable b ≡ false →
    (n ≡ fill_answer b board) × (board ≡ filled_bytes b board)
unfolding fill_answer filled_bytes
fill-unread b board n i h =
    let same = unread-answer b (fill_number (fill_answer_of (state_of_bytes b) (row_count board))) h in
    (i ∙ sym same, sym (cond-false _ _ board (ne_eqb _ 0 (λ z. let clash = sym same ∙ z in omega arith))))
