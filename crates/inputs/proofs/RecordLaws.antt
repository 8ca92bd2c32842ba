-- Laws of an event's record: its place among the records, and its eight bytes as one number.
use mathlib.Core.Path.{◌≡◌, ap, ◌∙◌}
use mathlib.Core.List.{List, []}
use Prim.Native.Nat.{ℕ, ◌+◌, ◌*◌, ◌/◌, ◌<◌}
use native.Mathlib.Omega.{arith}
use lib.ListN.{length, get_or, take, drop}
use lib.Seq.{get_or-take, get_or-drop}
use Rattle.std.proofs.Common.{Fits, w8}
use Rattle.std.specs.Int.{w64, from_le_bytes}
use Rattle.std.specs.Simd.{first_chunks}
use Rattle.words.specs.Words.{BytesAt, byte_at, word_at, number_at}
use Rattle.words.proofs.ListLaws.{chunk_at}
use Rattle.words.proofs.NumberLaws.{number-of}
use Rattle.trace.specs.Inputs.{event_count, kind_at, operand_at, value_at}
use Rattle.inputs.proofs.MaskLaws.{FieldsOf, fields-of}

bytes_in : (s : List ℕ) (at n : ℕ) → BytesAt s at n (take n (drop at s))
bytes_in s at n k h = get_or-take n (drop at s) k 0 h ∙ get_or-drop at s k 0

-- the number of a record that stands at its place
pub record_is : (s : List ℕ) (i n : ℕ) → i < event_count s → n ≡ from_le_bytes w64 (get_or (first_chunks 8 (length s / 8) s) i []) →
    n ≡ number_at s (8 * i)
record_is s i n h e =
    let part = take 8 (drop (8 * i) s) in
    number-of s (8 * i) part n (bytes_in s (8 * i) 8) (e ∙ ap (from_le_bytes w64) (chunk_at s 8 (length s / 8) i h))

-- its fields
pub fields-at : (s : List ℕ) (i n : ℕ) → ((j : ℕ) → Fits w8 (byte_at s j)) → n ≡ number_at s (8 * i) →
    FieldsOf n (kind_at s i) (operand_at s i) (value_at s i)
unfolding number_at word_at value_at
fields-at s i n h e = fields-of n (kind_at s i) (operand_at s i) (value_at s i) (h (8 * i)).fits (h (8 * i + 1)).fits (omega arith)
