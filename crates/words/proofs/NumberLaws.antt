-- Laws of numbers that are read from the bytes at an index.
use mathlib.Core.Path.{◌≡◌, ap, ◌∙◌}
use mathlib.Core.List.{List}
use Prim.Native.Nat.{ℕ, ◌+◌, ◌-◌, min}
use lib.ListN.{length, take, drop, length-drop, get_or-eq_default}
use lib.Seq.{take_all, get_or-drop}
use native.Mathlib.Omega.{arith}
use Rattle.std.specs.Int.{w16, w32, w64, from_le_bytes}
use Rattle.words.specs.Words.{byte_at, word_at, long_at, number_at, BytesAt}

module _ (s : List ℕ) (i : ℕ) (bytes : List ℕ) (n : ℕ) where
  pub word-of : BytesAt s i 2 bytes → n ≡ from_le_bytes w16 bytes → n ≡ word_at s i
  unfolding word_at
  word-of h e = grind (arith, h 0, h 1)

  pub long-of : BytesAt s i 4 bytes → n ≡ from_le_bytes w32 bytes → n ≡ long_at s i
  unfolding word_at long_at
  long-of h e = grind (arith, h 0, h 1, h 2, h 3)

  pub number-of : BytesAt s i 8 bytes → n ≡ from_le_bytes w64 bytes → n ≡ number_at s i
  unfolding word_at number_at
  number-of h e = grind (arith, h 0, h 1, h 2, h 3, h 4, h 5, h 6, h 7)

-- the bytes from i on, as they are lent
pub byte-from : (s : List ℕ) (i j k : ℕ) → j ≡ min i (length s) → byte_at (take (length s - j) (drop j s)) k ≡ byte_at s (i + k)
byte-from s i j k e =
    let whole = take_all (length s - j) (drop j s) (omega (arith, length-drop j s)) in
    let past : byte_at s (j + k) ≡ byte_at s (i + k) =
    grind (arith, get_or-eq_default s 0 {n = j + k}, get_or-eq_default s 0 {n = i + k}) in
    ap (λ l. byte_at l k) whole ∙ (get_or-drop j s k 0 ∙ past)
