-- Laws of tabulated lists.
use mathlib.Core.Path.{◌≡◌, refl, ap, sym, ◌∙◌}
use mathlib.Core.List.{List, ◌∷◌}
use Prim.Native.Nat.{ℕ, zero, suc, ◌+◌, ◌≤◌, ◌<◌}
use native.Mathlib.Omega.{arith}
use native.Mathlib.Nat.{not-suc-le-zero, le_of_suc-le-suc}
use lib.ListN.{length, get_or, take, drop, length-drop, get_or-eq_default}
use lib.Seq.{ext_get_or, length-take-le, get_or-take, get_or-drop}
use Rattle.words.specs.Words.{tabulate}

module _ {A : Type 0} where
  pub length-tabulate : (n : ℕ) (f : ℕ → A) → length (tabulate n f) ≡ n
  unfolding tabulate
  length-tabulate zero f = refl
  length-tabulate (suc n) f = ap suc (length-tabulate n (λ i. f (suc i)))

  -- an element of the list; past the last, the default
  pub tabulate-at : (n : ℕ) (f : ℕ → A) (k : ℕ) (d : A) → k < n → get_or (tabulate n f) k d ≡ f k
  unfolding tabulate
  tabulate-at zero f k d h = absurd (not-suc-le-zero h)
  tabulate-at (suc n) f zero d h = refl
  tabulate-at (suc n) f (suc k) d h = tabulate-at n (λ i. f (suc i)) k d (omega arith)

  pub tabulate-past : (n : ℕ) (f : ℕ → A) (k : ℕ) (d : A) → n ≤ k → get_or (tabulate n f) k d ≡ d
  tabulate-past n f k d h = get_or-eq_default (tabulate n f) d {n = k} (omega (arith, length-tabulate n f))

  -- a list is the table of its entries
  pub tabulate-of : (l : List A) (n : ℕ) (f : ℕ → A) (d : A) → length l ≡ n → ((i : ℕ) → i < n → f i ≡ get_or l i d) → tabulate n f ≡ l
  tabulate-of l n f d e g =
      ext_get_or d (tabulate n f) l (length-tabulate n f ∙ sym e)
      (λ i h. let k : i < n = omega (arith, length-tabulate n f) in tabulate-at n f i d k ∙ g i k)

  -- the first entries of a table
  pub tabulate-take : (n m : ℕ) (f : ℕ → A) → n ≤ m → take n (tabulate m f) ≡ tabulate n f
  unfolding tabulate
  tabulate-take zero m f h = refl
  tabulate-take (suc n) zero f h = absurd (not-suc-le-zero h)
  tabulate-take (suc n) (suc m) f h = ap (λ (l : List A). f 0 ∷ l) (tabulate-take n m (λ i. f (suc i)) (le_of_suc-le-suc h))

-- k elements of a list from i on
pub window : (s : List ℕ) (i k : ℕ) → i + k ≤ length s → take k (drop i s) ≡ tabulate k (λ j. get_or s (i + j) 0)
window s i k h =
    sym (tabulate-of (take k (drop i s)) k (λ j. get_or s (i + j) 0) 0 (length-take-le k (drop i s) (omega (arith, length-drop i s)))
    (λ j g. sym (get_or-take k (drop i s) j 0 g ∙ get_or-drop i s j 0)))
