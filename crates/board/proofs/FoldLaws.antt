-- Laws of the walk that fills: rows written one after the other.
use mathlib.Core.Path.{◌≡◌, refl, sym, ap, ◌∙◌}
use mathlib.Core.List.{List, [], ◌∷◌, ◌++◌, append_assoc}
use Prim.Native.Nat.{ℕ, zero, suc, ◌≤◌}
use native.Mathlib.Omega.{arith}
use lib.ListN.{length, drop, set, length-set, length-append}
use lib.Seq.{drop-cons, set_at}
use Rattle.board.specs.declared.Row.{Row}
use Rattle.board.specs.Rows.{no_row}

-- the board with its first n rows written: row t is f t
abbrev pub filled_to : (ℕ → Row) → ℕ → List Row → List Row
filled_to f zero ys = ys
filled_to f (suc n) ys = set (filled_to f n ys) n (f n)

-- no row is added and none is lost
pub filled-length : (f : ℕ → Row) (n : ℕ) (ys : List Row) → length (filled_to f n ys) ≡ length ys
filled-length f zero ys = refl
filled-length f (suc n) ys = length-set (filled_to f n ys) _ _ ∙ filled-length f n ys

-- the rows that were written stand in front, and the others are as they were: ps n has the first n
module _ (f : ℕ → Row) (ps : ℕ → List Row) (start : ps 0 ≡ []) (more : (n : ℕ) → ps (suc n) ≡ ps n ++ (f n ∷ [])) where
  front_length : (n : ℕ) → length (ps n) ≡ n
  front_length zero = ap length start
  front_length (suc n) = ap length (more n) ∙ length-append (ps n) (f n ∷ []) ∙ omega (arith, front_length n)

  pub filled_is : (n : ℕ) (ys : List Row) → n ≤ length ys → filled_to f n ys ≡ ps n ++ drop n ys
  filled_is zero ys h = ap (λ (l : List Row). l ++ ys) (sym start)
  filled_is (suc n) ys h =
      ap (λ (l : List Row). set l n (f n)) (filled_is n ys (omega arith) ∙ ap (λ (l : List Row). ps n ++ l) (drop-cons ys n no_row h)) ∙
      set_at (ps n) _ (drop (suc n) ys) (f n) n (front_length n) ∙ sym (append_assoc (ps n) (f n ∷ []) (drop (suc n) ys)) ∙
      ap (λ (l : List Row). l ++ drop (suc n) ys) (sym (more n))
