-- A list stored in another, element by element from an index on (`sets`).
use mathlib.Core.Path.{◌≡◌, refl, ap, sym, ◌∙◌}
use mathlib.Core.List.{List, [], ◌∷◌, ◌++◌, append_assoc}
use Prim.Native.Nat.{ℕ, suc, ◌+◌, ◌≤◌}
use native.Mathlib.Nat.{add-zero}
use native.Mathlib.Omega.{arith}
use lib.ListN.{length, set, take, drop}
use lib.Seq.{sets, sets-eq}
use borrow.Rule.Slice.PartMut.{put_mid}
use Rattle.std.proofs.lemmas.List.Edits.{paste_all}
use Rattle.std.proofs.lemmas.Slice.{put_mid-paste}

-- stores in two runs
pub sets-append : (l : List ℕ) (i : ℕ) (xs ys : List ℕ) → sets l i (xs ++ ys) ≡ sets (sets l i xs) (i + length xs) ys
sets-append l i [] ys = ap (λ (k : ℕ). sets l k ys) (sym (add-zero i))
sets-append l i (x ∷ xs) ys =
    let e : suc i + length xs ≡ i + suc (length xs) = omega arith in
    sets-append (set l i x) (suc i) xs ys ∙ ap (λ (k : ℕ). sets (sets (set l i x) (suc i) xs) k ys) e

-- a part that was copied over from a slice of its length
pub part_copied : (out bytes part : List ℕ) (at k : ℕ) → part ≡ bytes → k ≡ length bytes → at + length bytes ≤ length out →
    put_mid at k out part ≡ sets out at bytes
part_copied out bytes part at k e f h =
    let behind = drop (at + length bytes) out in
    let pasted = put_mid-paste at k out part bytes (length bytes) e (sym f) refl ∙ paste_all out at bytes (length bytes) refl in
    pasted ∙ sym (sets-eq bytes out at h ∙ append_assoc (take at out) bytes behind)

-- what stands in front after a list was stored from 0 on
pub sets-front : (before text : List ℕ) → length text ≤ length before → sets before 0 text ≡ text ++ drop (length text) before
sets-front before text h =
    let e : 0 + length text ≡ length text = omega arith in
    sets-eq text before 0 (omega arith) ∙ ap (λ (n : ℕ). text ++ drop n before) e

-- where its length is known
pub sets_over : (before text : List ℕ) (n : ℕ) → length text ≡ n → n ≤ length before → sets before 0 text ≡ text ++ drop n before
sets_over before text n e h = sets-front before text (omega arith) ∙ ap (λ (k : ℕ). text ++ drop k before) e
