-- Laws of the loops that store lists in rows, one after another.
use Rattle.std.proofs.Common.{◌≡◌, refl, ap, ◌∙◌, sym, List, [], ◌∷◌, ◌++◌, ℕ, ◌+◌, ◌-◌, ◌*◌, ◌≤◌, ◌<◌, length, take, drop, get_or}
use Rattle.std.proofs.Common.{arith, add-one, append_assoc, append-nil, length-append, length-take, length-drop, replicate, zero, suc}
use mathlib.Core.List.{flat_map}
use borrow.Rule.Slice.PartMut.{put_mid}
use Rattle.std.proofs.Math.Nat.{zero-mul, suc-mul}
use Rattle.std.proofs.Math.Seq.{take-suc}
use Rattle.std.proofs.lemmas.List.{take_all, take_at, drop_all, replicate-append-replicate}
use Rattle.memory.specs.Rows.{row_for}

module _ {A B : Type 0} (f : A → List B) where
  pub flat_append : (l k : List A) → flat_map f (l ++ k) ≡ flat_map f l ++ flat_map f k
  unfolding flat_map
  flat_append [] k = refl
  flat_append (x ∷ l) k = rw (flat_append l k) (sym (append_assoc (f x) (flat_map f l) (flat_map f k)))

module _ (w i : ℕ) (l : List ℕ) (ls : List (List ℕ)) where
  pub rows_none : i ≡ 0 → take (i * w) l ≡ flat_map (row_for w) (take i ls)
  unfolding flat_map
  rows_none e = rw (e, zero-mul w)

  module _ (e : take (i * w) l ≡ flat_map (row_for w) (take i ls)) where
    -- one row more
    pub rows-more : (r : List ℕ) → i < length ls → i * w ≤ length l → length r ≡ w → r ≡ row_for w (get_or ls i []) →
        take ((i + 1) * w) (put_mid (i * w) (i * w + w - i * w) l r) ≡ flat_map (row_for w) (take (i + 1) ls)
    unfolding flat_map
    rows-more r h g k f =
        let front : List ℕ = take (i * w) l in
        let rest : List ℕ = drop (i * w + w - i * w) (drop (i * w) l) in
        let size : length (front ++ r) ≡ i * w + w = simp (length-append, length-take) (omega arith) in
        let whole : take (i * w + w) (front ++ (r ++ rest)) ≡ front ++ r =
        ap (take (i * w + w)) (sym (append_assoc front r rest)) ∙ take_at (front ++ r) rest (i * w + w) size in
        let more = flat_append (row_for w) (take i ls) (get_or ls i [] ∷ []) in
        let joined : front ++ r ≡ flat_map (row_for w) (take i ls ++ (get_or ls i [] ∷ [])) =
        ap (λ (v : List ℕ). v ++ r) e ∙
        (ap (λ (v : List ℕ). flat_map (row_for w) (take i ls) ++ v) (f ∙ sym (append-nil (row_for w (get_or ls i [])))) ∙ sym more) in
        rw (add-one, suc-mul i w, take-suc ls i [] h) (whole ∙ joined)

    -- all rows
    pub rows-end : (n : ℕ) → n ≤ i → length ls ≡ n → length l ≡ n * w → i ≤ n → l ≡ flat_map (row_for w) ls
    rows-end n a b c d =
        let same : i ≡ n = omega arith in
        let most : length l ≤ i * w = rw same (omega arith) in
        sym (take_all (i * w) l most) ∙ (e ∙ ap (flat_map (row_for w)) (take_all i ls (omega arith)))

-- the row of an empty list is zeros, and so are the rows of several
row-none : (w : ℕ) → 0 < w → row_for w [] ≡ replicate w 0
unfolding row_for
row-none zero h = absurd (omega (arith, h))
row-none (suc w) h = let e : suc w - 1 ≡ w = omega arith in rw e refl

rows-blank : (w k : ℕ) → 0 < w → flat_map (row_for w) (replicate k []) ≡ replicate (k * w) 0
unfolding flat_map
rows-blank w zero h = rw (zero-mul w) refl
rows-blank w (suc k) h =
    let size : w + k * w ≡ suc k * w = omega (arith, suc-mul k w) in
    rw (row-none w h, rows-blank w k h, replicate-append-replicate {A = ℕ} w (k * w) 0, size) refl

-- the rows of the first i lists are stored, which are all, and zeros behind them: those of the empty lists up to n
pub rows-rest : (w n i : ℕ) (l zs : List ℕ) (ls : List (List ℕ)) → 0 < w → i ≡ length ls →
    take (i * w) l ≡ flat_map (row_for w) (take i ls) → zs ≡ replicate ((n - i) * w) 0 →
    put_mid (i * w) (length l - i * w) l zs ≡ flat_map (row_for w) (ls ++ replicate (n - length ls) [])
rows-rest w n i l zs ls h e f g =
    let none : drop (length l - i * w) (drop (i * w) l) ≡ [] =
    drop_all (length l - i * w) (drop (i * w) l) (omega (arith, length-drop (i * w) l)) in
    let all : take i ls ≡ ls = take_all i ls (omega arith) in
    let left : n - length ls ≡ n - i = omega arith in
    rw (none, append-nil, f, all, g, left)
    (sym (rw (flat_append (row_for w) ls (replicate (n - i) []), rows-blank w (n - i) h) refl))
