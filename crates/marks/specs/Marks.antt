-- Words of bits, and one word of marks for the ready queues (2026-02): "a mark on exactly when its queue is nonempty".
use Rattle.std.specs.Prelude.{◌≡◌, cond, List, [], ◌∷◌, ◌↔◌, ℕ, zero, suc, ◌+◌, ◌-◌, ◌*◌, ◌/◌, ◌%◌, ◌^◌, ◌<◌, eqb, length, get_or}
use Rattle.rules.specs.Moves.{highest_to}

-- the bits of a word
abbrev pub word_bits : ℕ
word_bits = 64

-- the bit i of a word, 1 where it is on; the word with that bit made b, which is 0 or 1
unfoldable pub bit_at : ℕ → ℕ → ℕ
bit_at w i = w / 2 ^ i % 2

unfoldable pub with_bit : ℕ → ℕ → ℕ → ℕ
with_bit w i b = w - bit_at w i * 2 ^ i + b * 2 ^ i

-- of the bits of a word that are on, i is the highest
pub record Highest (w i : ℕ) : Type 0 where
  pub within : i < word_bits
  pub on : bit_at w i ≡ 1
  pub above : (u : ℕ) → i < u → bit_at w u ≡ 0

-- the highest of the lowest n bits that is on, counted from 1, or 0
unfoldable pub highest_on : ℕ → ℕ → ℕ
highest_on w zero = 0
highest_on w (suc n) = cond (eqb (bit_at w n) 0) (highest_on w n) (suc n)

-- the mark of a queue of so many tasks: on where there is one
abbrev pub mark_for : ℕ → ℕ
mark_for zero = 0
mark_for (suc n) = 1

-- the word of the queues: the mark of the first is the lowest bit
unfoldable pub marks_of : List (List ℕ) → ℕ
marks_of [] = 0
marks_of (q ∷ qs) = mark_for (length q) + 2 * marks_of qs

-- what the word says of any number of queues
pub record MarksClaim : Type 0 where
  -- "a mark on exactly when its queue is nonempty": of the words with a bit for each queue it is the only one
  pub exact : (qs : List (List ℕ)) (w : ℕ) → w < 2 ^ length qs →
      (w ≡ marks_of qs) ↔ ((i : ℕ) → i < length qs → (bit_at w i ≡ 1) ↔ (0 < length (get_or qs i [])))
  -- the highest mark is that of the highest queue
  pub highest : (qs : List (List ℕ)) → highest_on (marks_of qs) (length qs) ≡ highest_to qs (length qs)
