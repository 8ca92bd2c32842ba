-- Laws of the scan's steps: which answer is given, and what a row that leads is to the best so far.
use mathlib.Core.Path.{◌≡◌, refl, sym, ◌∙◌}
use mathlib.Core.Bool.{Bool, true, false, cond, ◌&&◌, ◌||◌}
use mathlib.Core.List.{List}
use Prim.Native.Nat.{ℕ, ◌+◌, ◌≤◌, ◌<◌}
use native.Mathlib.Omega.{arith}
use borrow.Author.Tests.{lt-ltb, le-ltb, eq-eqb, ltb-true, eqb-true}
use lib.Dec.{ltb, eqb}
use lib.ListN.{length}
use Rattle.std.proofs.Common.{add-one}
use Rattle.std.specs.Prelude.{Some, Ok, Err, option_map}
use Rattle.rules.specs.Lists.{below}
use Rattle.rules.specs.Priorities.{in_range}
use Rattle.rules.proofs.Choices.{clash, cond-true, cond-false, and-make, or-first, or-second}
use Rattle.rules.proofs.SoundLaws.{below_at}
use Rattle.board.specs.declared.Row.{Row}
use Rattle.board.specs.declared.NextError.TheVariants.{TooManyRows, BadPriority}
use Rattle.board.specs.Rows.{row_limit, row_at}
use Rattle.board.specs.Next.{priority_at, position_at, Before}
use Rattle.board.specs.Next.Before.{higher, earlier, lower}
use Rattle.board.specs.Scan.{precedes_of, leads_of, best_of, ranged, scan_of}

-- the answer, by the tests in their order
module _ (rows : List Row) where
  pub scan_many : row_limit < length rows → scan_of rows ≡ Err TooManyRows
  unfolding scan_of
  scan_many h = cond-true (ltb row_limit (length rows)) _ _ (lt-ltb row_limit (length rows) h)

  module _ (h : length rows ≤ row_limit) where
    pub scan_bad : ranged rows (length rows) ≡ false → scan_of rows ≡ Err BadPriority
    unfolding scan_of
    scan_bad e =
        cond-false (ltb row_limit (length rows)) _ _ (le-ltb row_limit (length rows) h) ∙ cond-false (ranged rows (length rows)) _ _ e

    pub scan_good : ranged rows (length rows) ≡ true → scan_of rows ≡ Ok (option_map (λ b. b.0) (best_of rows (length rows)))
    unfolding scan_of
    scan_good e =
        cond-false (ltb row_limit (length rows)) _ _ (le-ltb row_limit (length rows) h) ∙ cond-true (ranged rows (length rows)) _ _ e

  -- the rows so far are in range: none, and one more
  pub ranged_none : ranged rows 0 ≡ true
  unfolding below
  ranged_none = refl

  pub ranged_more : (n : ℕ) → ranged rows n ≡ true → in_range (priority_at rows n) ≡ true → ranged rows (n + 1) ≡ true
  unfolding below
  ranged_more n e f = rw add-one (and-make _ _ e f)

  pub best_more : (n : ℕ) →
      best_of rows (n + 1) ≡ cond (leads_of (row_at rows n) (best_of rows n)) (Some (n, row_at rows n)) (best_of rows n)
  best_more n = rw add-one refl

  -- one priority out of range is enough
  pub ranged_not : (n i : ℕ) → i < n → in_range (priority_at rows i) ≡ false → ranged rows n ≡ false
  ranged_not n i h e = go (ranged rows n) refl
    where
      go : (y : Bool) → ranged rows n ≡ y → ranged rows n ≡ false
      go true f = clash (sym (below_at n (λ j. in_range (priority_at rows j)) f i h) ∙ e)
      go false f = f

-- a later row goes ahead of an earlier one just where it comes before it
module _ (rows : List Row) (i j : ℕ) where
  pub precedes_before : precedes_of (row_at rows i) (row_at rows j) ≡ true → Before rows i j
  precedes_before e =
      go (ltb (priority_at rows j) (priority_at rows i)) (eqb (priority_at rows i) (priority_at rows j))
      (ltb (position_at rows i) (position_at rows j)) refl refl refl e
    where
      go : (a b c : Bool) → ltb (priority_at rows j) (priority_at rows i) ≡ a → eqb (priority_at rows i) (priority_at rows j) ≡ b →
          ltb (position_at rows i) (position_at rows j) ≡ c → (a || (b && c)) ≡ true → Before rows i j
      go true b c f g h k = higher (ltb-true _ _ f)
      go false true true f g h k = earlier (eqb-true _ _ g) (ltb-true _ _ h)
      go false true false f g h k = clash (sym k)
      go false false c f g h k = clash (sym k)

  pub before_precedes : j < i → Before rows i j → precedes_of (row_at rows i) (row_at rows j) ≡ true
  before_precedes g (higher h) = or-first _ _ (lt-ltb _ _ h)
  before_precedes g (earlier s h) = or-second (ltb (priority_at rows j) (priority_at rows i)) _ (and-make _ _ (eq-eqb _ _ s) (lt-ltb _ _ h))
  before_precedes g (lower s p h) = absurd (omega arith)
