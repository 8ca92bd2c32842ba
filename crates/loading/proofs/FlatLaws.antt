-- Laws of lists laid out in rows one after another: the rows read as the lists, and say their lengths.
use Rattle.std.proofs.Common.{◌≡◌, refl, ap, ◌∙◌, sym, true, List, [], ◌∷◌, map, ℕ, suc, ◌+◌, ◌-◌, ◌*◌, ◌≤◌, ◌<◌}
use Rattle.std.proofs.Common.{ltb, length, take, drop, get_or, replicate, arith, length-append}
use mathlib.Core.List.{flat_map, map-map}
use Rattle.std.proofs.Math.ListN.{length-replicate}
use Rattle.std.proofs.Math.Seq.{get_or-take, get_or-drop}
use Rattle.std.proofs.lemmas.List.{take_at, drop_at, get_or-map}
use borrow.Author.Tests.{lt-ltb}
use Rattle.rules.proofs.SoundLaws.{below-make}
use Rattle.memory.specs.Rows.{rows, in_row, row_for, lists}
use Rattle.loading.specs.Loading.{lengths_good}
use Rattle.loading.proofs.RowLaws.{row_at}

-- every list leaves room in a row of width w
abbrev pub Short : ℕ → List (List ℕ) → Type 0
Short w ls = (i : ℕ) → length (get_or ls i []) < w

-- the row for a list
row-length : (w : ℕ) (l : List ℕ) → length l < w → length (row_for w l) ≡ w
unfolding row_for
row-length w l h = simp (length-append, length-replicate) (omega arith)

in-row : (w : ℕ) (l : List ℕ) → in_row (row_for w l) ≡ l
unfolding in_row row_for
in-row w l = take_at l (replicate (w - suc (length l)) 0) (length l) refl

flat_rows : (w : ℕ) (ls : List (List ℕ)) → Short w ls → rows w (length ls) (flat_map (row_for w) ls) ≡ map (row_for w) ls
unfolding flat_map rows
flat_rows w [] s = refl
flat_rows w (l ∷ ls) s =
    let k = row-length w l (s 0) in
    let rest = flat_map (row_for w) ls in
    rw (take_at (row_for w l) rest w k, drop_at (row_for w l) rest w k)
    (ap (λ (v : List (List ℕ)). row_for w l ∷ v) (flat_rows w ls (λ i. s (suc i))))

back : (w : ℕ) (ls : List (List ℕ)) → map (λ l. in_row (row_for w l)) ls ≡ ls
back w [] = refl
back w (l ∷ ls) = ap (λ (x : List ℕ). x ∷ map (λ l. in_row (row_for w l)) ls) (in-row w l) ∙ ap (λ (v : List (List ℕ)). l ∷ v) (back w ls)

module _ (w n : ℕ) (ls : List (List ℕ)) (c : length ls ≡ n) (s : Short w ls) where
  rows_are : rows w n (flat_map (row_for w) ls) ≡ map (row_for w) ls
  rows_are = rw (sym c) (flat_rows w ls s)

  pub lists_of : lists w n (flat_map (row_for w) ls) ≡ ls
  unfolding lists
  lists_of = rw rows_are (map-map in_row (row_for w) ls ∙ back w ls)

  pub lengths-of : (k : ℕ) → k ≤ n → lengths_good w k (flat_map (row_for w) ls) ≡ true
  unfolding row_for
  lengths-of k h =
      let l = flat_map (row_for w) ls in
      below-make k (λ i. ltb (get_or l (i * w) 0) w) (λ i e.
      let wide : 0 < w = omega (arith, s i) in
      let z : i * w + 0 ≡ i * w = omega arith in
      let row : take w (drop (i * w) l) ≡ row_for w (get_or ls i []) =
      sym (row_at w n i l (omega arith)) ∙ (ap (λ (v : List (List ℕ)). get_or v i []) rows_are ∙
      get_or-map (row_for w) ls i [] [] (omega arith)) in
      let first : get_or l (i * w + 0) 0 ≡ length (get_or ls i []) =
      sym (get_or-take w (drop (i * w) l) 0 0 wide ∙ get_or-drop (i * w) l 0 0) ∙ ap (λ (v : List ℕ). get_or v 0 0) row in
      lt-ltb (get_or l (i * w) 0) w (omega (arith, s i, first, ap (λ (j : ℕ). get_or l j 0) z)))
