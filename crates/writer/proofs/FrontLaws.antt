-- Laws of a list over the front of another: one part after the other, each written into what begins where it starts.
use mathlib.Core.Path.{◌≡◌, ap, sym, ◌∙◌}
use mathlib.Core.List.{List, [], ◌++◌, append-nil, append_assoc}
use Prim.Native.Nat.{ℕ, ◌+◌, ◌-◌, ◌≤◌}
use native.Mathlib.Omega.{arith}
use lib.ListN.{length, take, drop, length-append, length-drop, drop_of_length-le}
use lib.Seq.{take_all, take_at, drop_at, drop-drop}
use Rattle.words.specs.Words.{over_front}
use Rattle.encoding.specs.File.{pieces}
use Rattle.encoding.proofs.PieceLaws.{pieces_more}

pub over-length : (l out : List ℕ) → length l ≤ length out → length (over_front l out) ≡ length out
over-length l out h = omega (arith, length-append l (drop (length l) out), length-drop (length l) out)

-- the part of a lent list that begins at a, and what a call on it that leaves ys there makes of the whole
abbrev pub part_from : List ℕ → ℕ → List ℕ
part_from v a = take (length v - a) (drop a v)

abbrev pub lent_from : List ℕ → ℕ → List ℕ → List ℕ
lent_from v a ys = take a v ++ (ys ++ drop (length v - a) (drop a v))

-- a call on the part that begins at a, where what is written so far ends
module _ (l x out v ys : List ℕ) (a : ℕ) (e : a ≡ length l) (room : length l + length x ≤ length out) (f : v ≡ over_front l out) where
  over-count : length v ≡ length out
  over-count = ap length f ∙ over-length l out (omega arith)

  pub part-over : ys ≡ over_front x (part_from v a) → lent_from v a ys ≡ over_front (l ++ x) out
  part-over g =
      let count = over-count in
      let rest = drop (length l) out in
      let size : length rest ≡ length out - length l = length-drop (length l) out in
      let r : drop a v ≡ rest = ap (drop a) f ∙ drop_at l rest a (sym e) in
      let all : take (length v - a) (drop a v) ≡ rest = ap (take (length v - a)) r ∙ take_all (length v - a) rest (omega arith) in
      let none : drop (length v - a) (drop a v) ≡ [] =
      ap (drop (length v - a)) r ∙ drop_of_length-le rest {i = length v - a} (omega arith) in
      let front : take a v ≡ l = ap (take a) f ∙ take_at l rest a (sym e) in
      let y : ys ≡ x ++ drop (length l + length x) out =
      g ∙ (ap (over_front x) all ∙ ap (λ (z : List ℕ). x ++ z) (drop-drop (length x) (length l) out)) in
      ap (λ (z : List ℕ). z ++ (ys ++ drop (length v - a) (drop a v))) front ∙
      (ap (λ (z : List ℕ). l ++ (ys ++ z)) none ∙
      (ap (λ (z : List ℕ). l ++ z) (append-nil ys ∙ y) ∙
      (sym (append_assoc l x (drop (length l + length x) out)) ∙
      ap (λ (k : ℕ). (l ++ x) ++ drop k out) (sym (length-append l x)))))

-- a turn of a table's loop: one more row, written into the part that begins where it starts
module _ (f : ℕ → List ℕ) (t : ℕ) (x out v ys : List ℕ) (a : ℕ) (e : a ≡ length (pieces t f))
    (room : length (pieces t f) + length x ≤ length out) (g : v ≡ over_front (pieces t f) out) where
  pub row-over : x ≡ f t → ys ≡ over_front x (part_from v a) → lent_from v a ys ≡ over_front (pieces (t + 1) f) out
  row-over h k = part-over (pieces t f) x out v ys a e room g k ∙ ap (λ (z : List ℕ). over_front z out) (pieces_more f t x h)
