-- A record of eight bytes as one number, and what is wrong with it.
use Rattle.std.specs.Prelude.{List, [], ◌∷◌, ℕ, ◌-◌, ◌%◌, ◌^◌, get_or}
use Rattle.std.specs.Int.Bits.{bit_and, bit_or}

-- by kind, the bits that have to be 0: of a Clock a, of a Release the value, of a Step both, of a Set nothing
unfoldable pub unused_bits : List ℕ
unused_bits = 0 ∷ (2 ^ 16 - 2 ^ 8) ∷ (2 ^ 64 - 2 ^ 16) ∷ (2 ^ 64 - 2 ^ 8) ∷ 0 ∷ 0 ∷ 0 ∷ 0 ∷ []

-- by kind, whether there is no such
unfoldable pub unknown_kinds : List ℕ
unknown_kinds = 1 ∷ 0 ∷ 0 ∷ 0 ∷ 0 ∷ 1 ∷ 1 ∷ 1 ∷ []

-- what is wrong with a record whose kind is below 8: 0 where nothing is
abbrev pub fault_in : ℕ → ℕ
fault_in all = bit_or (bit_and all (get_or unused_bits (all % 8) 0)) (get_or unknown_kinds (all % 8) 0)
