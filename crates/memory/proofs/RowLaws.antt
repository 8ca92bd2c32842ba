-- Laws of a list without one of its elements, and of a row of bytes.
use Rattle.std.proofs.Common.{◌≡◌, ◌==◌, List, [], ◌∷◌, Bool, true, false, cond, not, ℕ, suc, ◌+◌, ◌-◌, ◌≤◌, ◌<◌, length, take, drop}
use Rattle.std.proofs.Common.{get_or, set, replicate, position, Some, None, refl, ap, sym, ◌∙◌, arith, rules, append-nil, add-one}
use Rattle.std.proofs.Common.{length-drop}
use Rattle.std.proofs.lemmas.List.{drop-replicate}
use native.Mathlib.Numerals.{one-add}
use Rattle.std.specs.List.{position_or_len, copy_within}
use Rattle.std.proofs.lemmas.List.{take_all, drop_all, take-take, drop-take}
use Rattle.std.proofs.lemmas.List.Edits.{take-paste}
use Rattle.rules.specs.Lists.{without}
use borrow.Rule.Slice.PartMut.{put_mid}
use Rattle.memory.specs.Rows.{in_row, row_for, cut_at}

-- a search for x finds its first place
cut-first : (x : ℕ) (l : List ℕ) → cut_at (position_or_len (λ y. y == x) l) l ≡ without x l
unfolding without
cut-first x [] = refl
cut-first x (y ∷ l) = go (y == x) (position_or_len (λ y. y == x) l) (cut-first x l)
  where
    go : (b : Bool) (n : ℕ) → cut_at n l ≡ without x l → cut_at (cond (not b) (1 + n) 0) (y ∷ l) ≡ cond b l (y ∷ without x l)
    go true n e = refl
    go false n e = rw (one-add n) (ap (λ (v : List ℕ). y ∷ v) e)

module _ (x : ℕ) (l : List ℕ) where
  pub removed-Some : (i : ℕ) → position (λ y. y == x) l ≡ Some i → cut_at i l ≡ without x l
  removed-Some i e =
      let f : i ≡ position_or_len (λ y. y == x) l = search (arith, rules) in
      rw f (cut-first x l)

  pub removed-None : position (λ y. y == x) l ≡ None → l ≡ without x l
  removed-None e =
      let n = position_or_len (λ y. y == x) l in
      let f : length l ≤ n = search (arith, rules) in
      sym (rw (take_all n l f, drop_all (suc n) l (omega arith), append-nil)) ∙ cut-first x l

-- the cells from i + 1 to n move down by one
pub cut-moved : (l : List ℕ) (n i : ℕ) → i < n → n ≤ length l → take (n - 1) (copy_within l (i + 1) n i) ≡ cut_at i (take n l)
cut-moved l n i h g =
    let e : n - 1 ≡ i + (n - (i + 1)) = omega arith in
    let f : n ≡ suc i + (n - (i + 1)) = omega arith in
    let front = take-take i n l (omega arith) in
    let back : drop (suc i) (take n l) ≡ take (n - (i + 1)) (drop (i + 1) l) =
    ap (λ k. drop (suc i) (take k l)) f ∙ rw (add-one i) (drop-take (suc i) (n - suc i) l) in
    ap (λ k. take k (copy_within l (i + 1) n i)) e
    ∙ (take-paste l i (drop (i + 1) l) (n - (i + 1)) (omega arith) (omega (arith, length-drop (i + 1) l)) ∙ sym (rw (front, back)))

-- a row of bytes holds its list behind the length
pub in_row-take : (l : List ℕ) → in_row l ≡ take (get_or l 0 0) (drop 1 l)
unfolding in_row
in_row-take [] = refl
in_row-take (n ∷ l) = refl

-- zeros once the length and the list have been written over them
pub row-written : (w n : ℕ) (zs l : List ℕ) → zs ≡ replicate (suc w) 0 → length l ≡ n →
    put_mid 1 (n + 1 - 1) (set zs 0 n) l ≡ row_for (suc w) l
unfolding row_for
row-written w n zs l e f =
    let k : n + 1 - 1 ≡ n = omega arith in
    let m : suc w - suc n ≡ w - n = omega arith in
    rw (e, k, drop-replicate {X = ℕ} n w 0, f, m) refl

pub row_empty : (w n : ℕ) (zs l : List ℕ) → zs ≡ replicate (suc w) 0 → length l ≡ n → n ≤ 0 → set zs 0 n ≡ row_for (suc w) l
unfolding row_for
row_empty w n zs [] e f h = let m : suc w - 1 ≡ w = omega arith in rw (e, sym f, m) refl
row_empty w n zs (x ∷ l) e f h = absurd (omega (arith, f))
