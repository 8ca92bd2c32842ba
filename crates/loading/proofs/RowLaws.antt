-- Laws of lists laid out in rows one after another.
use Rattle.std.proofs.Common.{◌≡◌, refl, ap, ◌∙◌, sym, true, List, [], ℕ, zero, suc, ◌+◌, ◌-◌, ◌*◌, ◌≤◌, ◌<◌}
use Rattle.std.proofs.Common.{ltb, length, take, drop, get_or, arith, length-take, length-drop}
use Rattle.std.proofs.Math.Nat.{zero-mul, suc-mul, not-suc-le-zero, le_of_suc-le-suc, add_comm}
use Rattle.std.proofs.Math.Seq.{drop-drop, get_or-take, get_or-drop}
use Rattle.std.proofs.Math.ListN.{get_or-map, length-map}
use borrow.Author.Tests.{ltb-true}
use Rattle.std.proofs.lemmas.Nat.{row_fits}
use Rattle.rules.proofs.SoundLaws.{below_at}
use Rattle.memory.specs.Rows.{rows, in_row, lists}
use Rattle.loading.specs.Loading.{lengths_good}

pub row_at : (w n i : ℕ) (l : List ℕ) → i < n → get_or (rows w n l) i [] ≡ take w (drop (i * w) l)
unfolding rows
row_at w zero i l h = absurd (not-suc-le-zero h)
row_at w (suc n) zero l h = rw (zero-mul w)
row_at w (suc n) (suc i) l h =
    row_at w n i (drop w l) (le_of_suc-le-suc h) ∙ rw (drop-drop (i * w) w l, suc-mul i w, add_comm (i * w) w)

row_count : (w n : ℕ) (l : List ℕ) → length (rows w n l) ≡ n
unfolding rows
row_count w zero l = refl
row_count w (suc n) l = ap suc (row_count w n (drop w l))

pub list_at : (w n i : ℕ) (l : List ℕ) → get_or (lists w n l) i [] ≡ in_row (get_or (rows w n l) i [])
unfolding lists in_row
list_at w n i l = get_or-map in_row (rows w n l) i []

pub list_count : (w n : ℕ) (l : List ℕ) → length (lists w n l) ≡ n
unfolding lists
list_count w n l = length-map (rows w n l) in_row ∙ row_count w n l

-- row i as it is lent
abbrev pub part : ℕ → ℕ → List ℕ → List ℕ
part w i l = take (i * w + w - i * w) (drop (i * w) l)

module _ (w n i : ℕ) (l : List ℕ) (h : i < n) (g : n * w ≤ length l) where
  part-is : part w i l ≡ get_or (rows w n l) i []
  part-is = let e : i * w + w - i * w ≡ w = omega arith in rw e (sym (row_at w n i l h))

  pub part_length : length (part w i l) ≡ w
  part_length = simp (length-take, length-drop) (omega (arith, row_fits i w n w h (omega arith)))

  pub part-list : in_row (part w i l) ≡ get_or (lists w n l) i []
  part-list = ap in_row part-is ∙ sym (list_at w n i l)

  -- its length leaves room for itself
  pub part-room : lengths_good w n l ≡ true → get_or (part w i l) 0 0 < w
  part-room e =
      let room : get_or l (i * w) 0 < w = ltb-true (get_or l (i * w) 0) w (below_at n (λ j. ltb (get_or l (j * w) 0) w) e i h) in
      let k : 0 < i * w + w - i * w = omega arith in
      let first : get_or (part w i l) 0 0 ≡ get_or l (i * w + 0) 0 =
      get_or-take (i * w + w - i * w) (drop (i * w) l) 0 0 k ∙ get_or-drop (i * w) l 0 0 in
      let z : i * w + 0 ≡ i * w = omega arith in
      omega (arith, first, ap (λ (j : ℕ). get_or l j 0) z)
