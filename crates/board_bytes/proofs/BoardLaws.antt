-- Laws of a board as bytes, by the ways of the code.
use mathlib.Core.Path.{◌≡◌, refl, ap, sym, ◌∙◌}
use mathlib.Core.List.{List, [], ◌∷◌, flat_map}
use Prim.Native.Nat.{ℕ, suc, ◌+◌, ◌*◌, ◌≤◌, ◌<◌}
use native.Mathlib.Omega.{arith}
use borrow.Author.Tests.{lt-ltb, le-ltb}
use lib.Dec.{ltb}
use lib.ListN.{length, get_or, drop, length-append, drop_of_length-le}
use lib.Seq.{sets, drop-cons}
use Rattle.std.specs.Prelude.{Ok, Err}
use Rattle.rules.specs.Answers.{number_by}
use Rattle.rules.proofs.Choices.{compare, cond-true, cond-false}
use Rattle.board.specs.Rows.{row_limit, NextAnswer, next_number as refusal_number, Told, told_of}
use Rattle.board.specs.Scan.{next_of, next_first_of}
use Rattle.board.specs.Next.{Answers, too_many, bad, named, none}
use Rattle.board.specs.declared.Row.{Row}
use Rattle.board.proofs.NextLaws.{next-is}
use Rattle.board.proofs.ScanLaws.{scan_many}
use Rattle.cells.specs.Sizes.{nobody_code}
use Rattle.words.specs.Words.{tabulate}
use Rattle.board_bytes.specs.Boards.{row_size, row_from, rows_from, row_count, row_bytes}
use Rattle.board_bytes.specs.Boards.{row_byte, packed_told, next_number}
use Rattle.words.proofs.TableLaws.{length-tabulate, tabulate-take}
use Rattle.words.proofs.CopyLaws.{sets-append}

-- the next of the rows is put
pub row-length : (r : Row) → length (row_bytes r) ≡ row_size
unfolding row_bytes
row-length r = refl

pub rows-size : (rs : List Row) → length (flat_map row_bytes rs) ≡ row_size * length rs
unfolding flat_map
rows-size [] = omega arith
rows-size (r ∷ rs) = length-append (row_bytes r) (flat_map row_bytes rs) ∙ omega (arith, row-length r, rows-size rs)

module _ (whole : List ℕ) (rs : List Row) (out out' : List ℕ) (i : ℕ) where
  pub row-turn : (r d : Row) → i < length rs → r ≡ get_or rs i d → out' ≡ sets out (row_size * i) (row_bytes r) →
      whole ≡ sets out (row_size * i) (flat_map row_bytes (drop i rs)) →
      whole ≡ sets out' (row_size * (i + 1)) (flat_map row_bytes (drop (i + 1) rs))
  unfolding flat_map
  row-turn r d h e f g =
      let j = row_size * i in
      let next : j + length (row_bytes r) ≡ row_size * (i + 1) = omega (arith, row-length r) in
      let more : suc i ≡ i + 1 = omega arith in
      let split : drop i rs ≡ r ∷ drop (i + 1) rs =
      drop-cons rs i d h ∙ (ap (λ (x : Row). x ∷ drop (suc i) rs) (sym e) ∙ ap (λ (n : ℕ). r ∷ drop n rs) more) in
      let rest = flat_map row_bytes (drop (i + 1) rs) in
      g ∙ (ap (λ (l : List Row). sets out j (flat_map row_bytes l)) split ∙
      (sets-append out j (row_bytes r) rest ∙
      (ap (λ (l : List ℕ). sets l (j + length (row_bytes r)) rest) (sym f) ∙ ap (λ (n : ℕ). sets out' n rest) next)))

pub rows_end : (whole : List ℕ) (rs : List Row) (out : List ℕ) (i : ℕ) → length rs ≤ i →
    whole ≡ sets out (row_size * i) (flat_map row_bytes (drop i rs)) → out ≡ whole
unfolding flat_map
rows_end whole rs out i h g =
    sym (g ∙ ap (λ (l : List Row). sets out (row_size * i) (flat_map row_bytes l)) (drop_of_length-le rs {i = i} h))

-- a row that is named is one of those there may be
told-small : (rows : List Row) (t : Told) → Answers rows t → row_byte t.next ≤ nobody_code
told-small rows t (too_many h) = omega arith
told-small rows t (bad h b) = omega arith
told-small rows t (named h g i r) = omega (arith, r.ready.there)
told-small rows t (none h g f) = omega arith

pub next_small : (rows : List Row) → row_byte (next_of rows).next ≤ nobody_code
next_small rows = told-small rows (next_of rows) (next-is rows)

-- the next of all rows is that of the first of them, or 13
pub next-all : (f : ℕ → Row) (n : ℕ) → next_first_of (tabulate row_limit f) n ≡ next_of (tabulate n f)
next-all f n =
    compare n row_limit
    (λ h. cond-false (ltb row_limit n) _ _ (le-ltb row_limit n h) ∙ ap next_of (tabulate-take n row_limit f h))
    (λ h. cond-true (ltb row_limit n) _ _ (lt-ltb row_limit n h) ∙
    sym (ap told_of (scan_many (tabulate n f) (omega (arith, length-tabulate n f)))))

pub told_number : (a : NextAnswer) → number_by refusal_number a ≡ (told_of a).number
told_number (Ok i) = refl
told_number (Err e) = refl

-- the number of an answer and the row that it names, packed
module _ (b : List ℕ) (rows : List Row) (a : NextAnswer) (number byte : ℕ) (e : rows ≡ rows_from b row_limit)
    (f : told_of a ≡ next_first_of rows (row_count b)) (i : number ≡ (told_of a).number) (j : byte ≡ row_byte (told_of a).next) where
  told-next : told_of a ≡ next_of (rows_from b (row_count b))
  unfolding rows_from
  told-next = f ∙ (ap (λ (l : List Row). next_first_of l (row_count b)) e ∙ next-all (λ i. row_from b (row_size * i)) (row_count b))

  pub byte_small : byte ≤ nobody_code
  byte_small = rw (j, told-next) (next_small (rows_from b (row_count b)))

  pub next-packed : number + 256 * byte ≡ next_number b
  unfolding next_number packed_told
  next-packed = rw (i, j, told-next)
