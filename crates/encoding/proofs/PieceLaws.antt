-- Laws of pieces one after the other: their lengths, one more, reading a byte of one, and pieces found in a list.
use mathlib.Core.Path.{◌≡◌, refl, ap, sym, ◌∙◌}
use mathlib.Core.List.{List, ◌++◌}
use Prim.Native.Nat.{ℕ, zero, suc, ◌+◌, ◌*◌, ◌≤◌, ◌<◌}
use native.Mathlib.Numerals.{add-one}
use native.Mathlib.Nat.{not-suc-le-zero, zero-mul, suc-mul}
use native.Mathlib.Omega.{arith}
use lib.ListN.{length, get_or, take, drop, length-append, get_or-append}
use lib.Seq.{get_or-append-add, take-add}
use Rattle.rules.proofs.Choices.{split}
use Rattle.encoding.specs.File.{pieces}

module _ (f : ℕ → List ℕ) where
  pub pieces_more : (t : ℕ) (x : List ℕ) → x ≡ f t → pieces t f ++ x ≡ pieces (t + 1) f
  unfolding pieces
  pieces_more t x e = ap (λ (z : List ℕ). pieces t f ++ z) e ∙ ap (λ (n : ℕ). pieces n f) (sym (add-one t))

  pub pieces-suc : (t : ℕ) → length (pieces (suc t) f) ≡ length (pieces t f) + length (f t)
  unfolding pieces
  pieces-suc t = length-append (pieces t f) (f t)

  pieces-rise : (t n : ℕ) → t ≤ n → length (pieces t f) ≤ length (pieces n f)
  pieces-rise t zero h = omega (arith, ap (λ (k : ℕ). length (pieces k f)) (let z : t ≡ 0 = omega arith in z))
  pieces-rise t (suc n) h =
      split t (suc n)
      (λ e. omega (arith, ap (λ (k : ℕ). length (pieces k f)) e))
      (λ d. omega (arith, pieces-rise t n (omega arith), pieces-suc n))

  pub pieces-at : (n t j : ℕ) → t < n → j < length (f t) → get_or (pieces n f) (length (pieces t f) + j) 0 ≡ get_or (f t) j 0
  unfolding pieces
  pieces-at zero t j h g = absurd (not-suc-le-zero h)
  pieces-at (suc n) t j h g =
      split t n
      (λ z.
      ap (λ (k : ℕ). get_or (pieces n f ++ f n) (length (pieces k f) + j) 0) z ∙
      (get_or-append-add (pieces n f) (f n) j 0 ∙ ap (λ (k : ℕ). get_or (f k) j 0) (sym z)))
      (λ d.
      get_or-append (pieces n f) (f n) 0 (length (pieces t f) + j) (omega (arith, pieces-suc t, pieces-rise (suc t) n (omega arith))) ∙
      pieces-at n t j (omega arith) g)

  -- pieces that stand in a list one after the other are its front
  pub pieces-found : (l : List ℕ) (n : ℕ) → ((t : ℕ) → t < n → take (length (f t)) (drop (length (pieces t f)) l) ≡ f t) →
      take (length (pieces n f)) l ≡ pieces n f
  unfolding pieces
  pieces-found l zero h = refl
  pieces-found l (suc n) h =
      ap (λ (k : ℕ). take k l) (pieces-suc n) ∙
      (take-add (length (pieces n f)) (length (f n)) l ∙
      (ap (λ (z : List ℕ). z ++ take (length (f n)) (drop (length (pieces n f)) l)) (pieces-found l n (λ t g. h t (omega arith))) ∙
      ap (λ (z : List ℕ). pieces n f ++ z) (h n (omega arith))))

  -- pieces of one size
  pub pieces-length : (size n : ℕ) → ((t : ℕ) → length (f t) ≡ size) → length (pieces n f) ≡ n * size
  unfolding pieces
  pieces-length size zero h = sym (zero-mul size)
  pieces-length size (suc n) h = pieces-suc n ∙ (omega (arith, pieces-length size n h, h n, suc-mul n size))
