-- Bytes and little-endian numbers of a list, a list given entry by entry, and one written over another. What lies past the last byte
-- reads as 0.
use Rattle.std.specs.Prelude.{◌≡◌, List, [], ◌∷◌, ◌++◌, ℕ, zero, suc, ◌+◌, ◌*◌, ◌/◌, ◌%◌, ◌<◌, length, drop, get_or}

abbrev pub byte_at : List ℕ → ℕ → ℕ
byte_at s i = get_or s i 0

-- every element is a byte, as in a lent slice
pub record Bytes (s : List ℕ) : Type 0 where
  pub below : (i : ℕ) → byte_at s i < 256

-- n bytes are those at i
abbrev pub BytesAt : List ℕ → ℕ → ℕ → List ℕ → Type 0
BytesAt s i n bytes = (k : ℕ) → k < n → byte_at bytes k ≡ byte_at s (i + k)

-- "Little-endian": a number of two bytes, one of four, and one of eight
unfoldable pub word_at : List ℕ → ℕ → ℕ
word_at s i = byte_at s i + 256 * byte_at s (i + 1)

-- the two bytes of a number that they have room for
abbrev pub word : ℕ → List ℕ
word x = x % 256 ∷ x / 256 ∷ []

unfoldable pub long_at : List ℕ → ℕ → ℕ
long_at s i = word_at s i + 65536 * word_at s (i + 2)

unfoldable pub number_at : List ℕ → ℕ → ℕ
number_at s i = word_at s i + 65536 * (word_at s (i + 2) + 65536 * (word_at s (i + 4) + 65536 * word_at s (i + 6)))

-- f 0, f 1, .. up to f (n - 1)
unfoldable pub tabulate : {A : Type 0} → ℕ → (ℕ → A) → List A
tabulate zero f = []
tabulate (suc n) f = f 0 ∷ tabulate n (λ i. f (suc i))

-- a list written over the front of another; what lies past it stays
abbrev pub over_front : List ℕ → List ℕ → List ℕ
over_front l out = l ++ drop (length l) out
