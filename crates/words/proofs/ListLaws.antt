-- Laws of plain lists: an element read with another default, lists of one value, chunks, and each element mapped.
use mathlib.Core.Path.{◌≡◌, refl, ap, ◌∙◌}
use mathlib.Core.List.{List, [], ◌∷◌, map}
use Prim.Native.Nat.{ℕ, zero, suc, ◌+◌, ◌*◌, ◌<◌}
use native.Mathlib.Nat.{mul-zero, mul-suc, not-suc-le-zero, le_of_suc-le-suc}
use native.Mathlib.Omega.{arith}
use lib.Seq.{drop-drop, get_or-take, get_or-drop}
use Rattle.std.specs.Simd.{first_chunks}
use lib.ListN.{length, take, drop, get_or, replicate, get_or-map, length-map}

module _ {A : Type 0} where
  -- an element that is there does not depend on the default
  pub get_d_any : (l : List A) (i : ℕ) (d e : A) → i < length l → get_or l i d ≡ get_or l i e
  get_d_any [] i d e h = absurd (not-suc-le-zero h)
  get_d_any (x ∷ xs) zero d e h = refl
  get_d_any (x ∷ xs) (suc i) d e h = get_d_any xs i d e (le_of_suc-le-suc h)

  -- a chunk of as many as each of the first k has
  pub chunk_at : (l : List A) (n k i : ℕ) → i < k → get_or (first_chunks n k l) i [] ≡ take n (drop (n * i) l)
  chunk_at l n zero i h = absurd (not-suc-le-zero h)
  chunk_at l n (suc k) zero h = rw (mul-zero n)
  chunk_at l n (suc k) (suc i) h =
      let e : n + n * i ≡ n * suc i = omega (arith, mul-suc n i) in
      chunk_at (drop n l) n k i (le_of_suc-le-suc h) ∙ ap (take n) (drop-drop (n * i) n l ∙ ap (λ (j : ℕ). drop j l) e)

  -- an element of one
  pub chunk-item : (l : List A) (n k i j : ℕ) (d : A) → i < k → j < n →
      get_or (get_or (first_chunks n k l) i []) j d ≡ get_or l (n * i + j) d
  chunk-item l n k i j d h g =
      ap (λ (c : List A). get_or c j d) (chunk_at l n k i h) ∙ (get_or-take n (drop (n * i) l) j d g ∙ get_or-drop (n * i) l j d)

module _ {A B : Type 0} (f : A → B) where
  pub map_at : (l : List A) (i : ℕ) (z : A) (y : B) → i < length l → get_or (map f l) i y ≡ f (get_or l i z)
  map_at l i z y h = get_d_any (map f l) i y (f z) (omega (arith, length-map l f)) ∙ get_or-map f l i z

  pub map-replicate : (n : ℕ) (x : A) → map f (replicate n x) ≡ replicate n (f x)
  map-replicate zero x = refl
  map-replicate (suc n) x = ap (λ (v : List B). f x ∷ v) (map-replicate n x)
