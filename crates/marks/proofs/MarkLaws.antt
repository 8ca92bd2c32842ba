-- Laws of words of bits and of the word of marks: the bits, the highest bit, and what a change of one queue does.
use mathlib.Core.Path.{◌≡◌, refl, sym, ap, ◌∙◌}
use mathlib.Core.Bool.{Bool, true, false, cond, not}
use mathlib.Core.List.{List, [], ◌∷◌}
use mathlib.Core.Logic.{◌↔◌}
use Prim.Native.Nat.{ℕ, zero, suc, ◌+◌, ◌-◌, ◌*◌, ◌/◌, ◌%◌, ◌^◌, ◌≤◌, ◌<◌}
use native.Mathlib.Nat.{pow-suc, not-suc-le-zero, le_of_suc-le-suc, mul_assoc, one-mul, zero-mul, div-eq_of_lt, mod-lt}
use native.Mathlib.Omega.{arith}
use borrow.Author.Tests.{eqb-true, eqb-false, eq-eqb, ne_eqb}
use lib.Bits.{bit_and, bit_or, or_add_and, and_high, and_le_l, and_comm}
use Rattle.std.proofs.lemmas.Nat.{and-not}
use lib.Count.{count_leading_zeros, leading_unique}
use lib.Dec.{eqb}
use lib.Pow.{pow_pos, pow_mono, pow-lt, pow-add, shr-shr, shr_lt, split as cut}
use lib.ListN.{length, get_or, set, drop, replicate}
use lib.Seq.{drop-cons}
use Rattle.rules.specs.Moves.{highest_to}
use Rattle.rules.proofs.Choices.{compare}
use Rattle.marks.specs.Marks.{word_bits, bit_at, with_bit, Highest, highest_on, mark_for, marks_of, MarksClaim}

-- the lowest bit, and the others
bit-first : (w : ℕ) → bit_at w 0 ≡ w % 2
unfolding bit_at
bit-first w = omega arith

bit-next : (w i : ℕ) → bit_at w (suc i) ≡ bit_at (w / 2) i
unfolding bit_at
bit-next w i =
    let e : 1 + i ≡ suc i = omega arith in
    ap (λ (x : ℕ). x % 2) (ap (λ (k : ℕ). w / 2 ^ k) (sym e) ∙ sym (shr-shr w 1 i))

bit-small : (w i : ℕ) → bit_at w i ≤ 1
unfolding bit_at
bit-small w i = omega arith

pub mark-small : (n : ℕ) → mark_for n ≤ 1
mark-small zero = omega arith
mark-small (suc n) = omega arith

-- each bit of the word is the mark of its queue
pub marks-bit : (qs : List (List ℕ)) (i : ℕ) → bit_at (marks_of qs) i ≡ mark_for (length (get_or qs i []))
unfolding marks_of
marks-bit [] zero = bit-first 0
marks-bit [] (suc i) = bit-next 0 i ∙ marks-bit [] i
marks-bit (q ∷ qs) zero = bit-first (marks_of (q ∷ qs)) ∙ omega (arith, mark-small (length q))
marks-bit (q ∷ qs) (suc i) =
    let half : marks_of (q ∷ qs) / 2 ≡ marks_of qs = omega (arith, mark-small (length q)) in
    bit-next (marks_of (q ∷ qs)) i ∙ (ap (λ (w : ℕ). bit_at w i) half ∙ marks-bit qs i)

-- .. and no other word of that many bits has these
marks-only : (qs : List (List ℕ)) (w : ℕ) → w < 2 ^ length qs →
    ((i : ℕ) → i < length qs → bit_at w i ≡ mark_for (length (get_or qs i []))) →
    w ≡ marks_of qs
unfolding marks_of
marks-only [] w h f = omega arith
marks-only (q ∷ qs) w h f =
    let less : w / 2 < 2 ^ length qs = omega (arith, pow-suc 2 (length qs)) in
    let rest = marks-only qs (w / 2) less (λ i g. sym (bit-next w i) ∙ f (suc i) (omega arith)) in
    omega (arith, rest, bit-first w, f 0 (omega arith))

pub marks-fit : (qs : List (List ℕ)) → marks_of qs < 2 ^ length qs
unfolding marks_of
marks-fit [] = omega arith
marks-fit (q ∷ qs) = omega (arith, marks-fit qs, mark-small (length q), pow-suc 2 (length qs))

-- a mark on, and a queue that is not empty
mark_on : (n : ℕ) → (mark_for n ≡ 1) ↔ (0 < n)
mark_on zero = (λ e. absurd (omega arith), λ h. absurd (not-suc-le-zero h))
mark_on (suc n) = (λ e. omega arith, λ h. refl)

bit-by : (b n : ℕ) → b ≤ 1 → ((b ≡ 1) ↔ (0 < n)) → b ≡ mark_for n
bit-by zero zero h e = refl
bit-by (suc b) zero h e = absurd (not-suc-le-zero (e.0 (omega arith)))
bit-by b (suc n) h e = e.1 (omega arith)

-- the highest bit is the highest queue
test-mark : (n : ℕ) → eqb (mark_for n) 0 ≡ eqb n 0
test-mark zero = refl
test-mark (suc n) = sym (ne_eqb (suc n) 0 (λ e. absurd (omega arith)))

pub highest-same : (qs : List (List ℕ)) (n : ℕ) → highest_on (marks_of qs) n ≡ highest_to qs n
unfolding highest_on highest_to
highest-same qs zero = refl
highest-same qs (suc n) =
    let test = ap (λ (b : ℕ). eqb b 0) (marks-bit qs n) ∙ test-mark (length (get_or qs n [])) in
    ap (λ (b : Bool). cond b (highest_on (marks_of qs) n) (suc n)) test ∙
    ap (λ (h : ℕ). cond (eqb (length (get_or qs n [])) 0) h (suc n)) (highest-same qs n)

pub marks-claim : MarksClaim
marks-claim =
    record {
      exact = λ qs w h. (
        λ e i g. rw (e, marks-bit qs i) (mark_on (length (get_or qs i []))),
        λ f. marks-only qs w h (λ i g. bit-by (bit_at w i) (length (get_or qs i [])) (bit-small w i) (f i g)),
      );
      highest = λ qs. highest-same qs (length qs);
    }

-- a word's length in bits, by its highest bit that is on
record Top (w m : ℕ) : Type 0 where
  low : w < 2 ^ m
  high : 2 ^ m ≤ 2 * w + 1

bit-off : (k w : ℕ) → w < 2 ^ suc k → bit_at w k ≡ 0 → w < 2 ^ k
unfolding bit_at
bit-off k w h e =
    let one : suc k ≡ 1 + k = omega arith in
    let few : w / 2 ^ k < 2 = shr_lt 1 k (rw one at h) in
    let none : w / 2 ^ k ≡ 0 = omega arith in
    let rest : 0 * 2 ^ k + w % 2 ^ k ≡ w = rw none at (cut w k) in
    omega (arith, zero-mul (2 ^ k), rest, mod-lt w (pow_pos k))

bit-on : (k w : ℕ) → (bit_at w k ≡ 0 → ⊥) → 2 ^ k ≤ w
unfolding bit_at
bit-on k w n = compare (2 ^ k) w (λ h. h) (λ h. absurd (n (ap (λ (x : ℕ). x % 2) (div-eq_of_lt h))))

top-on : (k w : ℕ) → w < 2 ^ k → Top w (highest_on w k)
unfolding highest_on
top-on zero w h = record { low = h; high = omega arith }
top-on (suc k) w h = go (eqb (bit_at w k) 0) refl (top-on k w)
  where
    go : (b : Bool) → eqb (bit_at w k) 0 ≡ b → (w < 2 ^ k → Top w (highest_on w k)) → Top w (cond b (highest_on w k) (suc k))
    go true e f = f (bit-off k w h (eqb-true (bit_at w k) 0 e))
    go false e f = record { low = h; high = omega (arith, bit-on k w (eqb-false (bit_at w k) 0 e), pow-suc 2 k) }

highest-le : (k w : ℕ) → highest_on w k ≤ k
unfolding highest_on
highest-le zero w = omega arith
highest-le (suc k) w = go (eqb (bit_at w k) 0) (highest-le k w)
  where
    go : (b : Bool) → highest_on w k ≤ k → cond b (highest_on w k) (suc k) ≤ suc k
    go true h = omega arith
    go false h = omega arith

-- counting zeros finds the highest bit, of any number of bits
pub highest-by-zeros : (k w : ℕ) → w < 2 ^ k → k - count_leading_zeros k w ≡ highest_on w k
highest-by-zeros k w h =
    let top = top-on k w h in
    let z = leading_unique k w (k - highest_on w k) (highest_on w k) (omega (arith, highest-le k w)) top.low top.high in
    omega (arith, z, highest-le k w)

-- .. that of a word which is not 0, by its logarithm
pub at_top : (w i : ℕ) → i < word_bits → 2 ^ i ≤ w → w < 2 * 2 ^ i → Highest w i
unfolding bit_at
at_top w i g l h =
    let below : w < 2 ^ suc i = omega (arith, pow-suc 2 i) in
    let some : bit_at w i ≡ 0 → ⊥ = λ e. omega (arith, bit-off i w below e) in
    record {
      within = g;
      on = omega (arith, bit-small w i, some);
      above = λ u k. let less : w < 2 ^ u = omega (arith, pow_mono k) in ap (λ (x : ℕ). x % 2) (div-eq_of_lt less);
    }

-- one bit made 0 or 1, as code does it
bit-part : (w i : ℕ) → bit_and w (2 ^ i) ≡ bit_at w i * 2 ^ i
unfolding bit_at
bit-part w i =
    let twice : 2 ^ (1 + i) ≡ 2 * 2 ^ i = pow-add 2 1 i in
    let mask : 2 ^ (1 + i) - 2 ^ i ≡ 2 ^ i = omega arith in
    rw mask at (and_high w 1 i)

part-le : (w i : ℕ) → bit_at w i * 2 ^ i ≤ w
part-le w i = rw (bit-part w i) at (and_le_l w (2 ^ i))

-- one bit cleared: by taking it away, and by the mask of all others
pub bit-cleared : (w i : ℕ) → w - bit_and w (2 ^ i) ≡ with_bit w i 0
unfolding with_bit
bit-cleared w i = omega (arith, bit-part w i, zero-mul (2 ^ i))

pub bit-masked : (w i b : ℕ) → b ≡ 2 ^ i → i < word_bits → w < 2 ^ word_bits → bit_and w (2 ^ word_bits - 1 - b) ≡ with_bit w i 0
unfolding with_bit
bit-masked w i b e h f =
    let part : bit_and b w ≡ bit_at w i * 2 ^ i = and_comm b w ∙ (ap (bit_and w) e ∙ bit-part w i) in
    let below : b < 2 ^ word_bits = omega (arith, pow-lt h) in
    omega (arith, part, and_comm w (2 ^ word_bits - 1 - b), and-not word_bits b w below f, zero-mul (2 ^ i))

pub bit-set : (w i : ℕ) → bit_or w (2 ^ i) ≡ with_bit w i 1
unfolding with_bit
bit-set w i = omega (arith, bit-part w i, or_add_and w (2 ^ i), one-mul (2 ^ i), part-le w i)

-- one bit tested
pub bit_test : (w i : ℕ) → not (eqb (bit_and w (2 ^ i)) 0) ≡ eqb (bit_at w i) 1
bit_test w i = rw (bit-part w i) (go (bit_at w i) (bit-small w i))
  where
    go : (b : ℕ) → b ≤ 1 → not (eqb (b * 2 ^ i) 0) ≡ eqb b 1
    go zero h = rw (eq-eqb (0 * 2 ^ i) 0 (zero-mul (2 ^ i)))
    go (suc zero) h = rw (ne_eqb (1 * 2 ^ i) 0 (λ e. omega (arith, one-mul (2 ^ i), pow_pos i)))
    go (suc (suc b)) h = absurd (omega arith)

-- a queue replaced: its bit is made its mark
bit-of-first : (c m b : ℕ) → c ≤ 1 → with_bit (c + 2 * m) 0 b ≡ b + 2 * m
unfolding with_bit
bit-of-first c m b h = let e : bit_at (c + 2 * m) 0 ≡ c = bit-first (c + 2 * m) ∙ omega arith in rw e (omega arith)

bit-of-next : (c m i b : ℕ) → c ≤ 1 → with_bit (c + 2 * m) (suc i) b ≡ c + 2 * with_bit m i b
unfolding with_bit
bit-of-next c m i b h =
    let half : (c + 2 * m) / 2 ≡ m = omega arith in
    let e : bit_at (c + 2 * m) (suc i) ≡ bit_at m i = bit-next (c + 2 * m) i ∙ ap (λ (w : ℕ). bit_at w i) half in
    let p : 2 ^ suc i ≡ 2 ^ i * 2 = pow-suc 2 i in
    rw (e, p, ← mul_assoc (bit_at m i) (2 ^ i) 2, ← mul_assoc b (2 ^ i) 2) (omega (arith, part-le m i))

-- a word with one bit made 0 or 1: that bit, and the others
put_first : (w b : ℕ) → with_bit w 0 b ≡ b + 2 * (w / 2)
put_first w b =
    let e : w ≡ w % 2 + 2 * (w / 2) = omega arith in
    ap (λ (x : ℕ). with_bit x 0 b) e ∙ bit-of-first (w % 2) (w / 2) b (omega arith)

put_next : (w i b : ℕ) → with_bit w (suc i) b ≡ w % 2 + 2 * with_bit (w / 2) i b
put_next w i b =
    let e : w ≡ w % 2 + 2 * (w / 2) = omega arith in
    ap (λ (x : ℕ). with_bit x (suc i) b) e ∙ bit-of-next (w % 2) (w / 2) i b (omega arith)

pub bit-made : (w i b : ℕ) → b ≤ 1 → bit_at (with_bit w i b) i ≡ b
bit-made w zero b h = bit-first (with_bit w 0 b) ∙ omega (arith, put_first w b)
bit-made w (suc i) b h =
    let half : with_bit w (suc i) b / 2 ≡ with_bit (w / 2) i b = omega (arith, put_next w i b) in
    bit-next (with_bit w (suc i) b) i ∙ (ap (λ (x : ℕ). bit_at x i) half ∙ bit-made (w / 2) i b h)

pub bit_kept : (w i b u : ℕ) → b ≤ 1 → (u ≡ i → ⊥) → bit_at (with_bit w i b) u ≡ bit_at w u
bit_kept w zero b zero h n = absurd (n refl)
bit_kept w zero b (suc u) h n =
    let half : with_bit w 0 b / 2 ≡ w / 2 = omega (arith, put_first w b) in
    bit-next (with_bit w 0 b) u ∙ (ap (λ (x : ℕ). bit_at x u) half ∙ sym (bit-next w u))
bit_kept w (suc i) b zero h n =
    let low : with_bit w (suc i) b % 2 ≡ w % 2 = omega (arith, put_next w i b) in
    bit-first (with_bit w (suc i) b) ∙ (low ∙ sym (bit-first w))
bit_kept w (suc i) b (suc u) h n =
    let half : with_bit w (suc i) b / 2 ≡ with_bit (w / 2) i b = omega (arith, put_next w i b) in
    bit-next (with_bit w (suc i) b) u ∙
    (ap (λ (x : ℕ). bit_at x u) half ∙ (bit_kept (w / 2) i b u h (λ e. n (ap suc e)) ∙ sym (bit-next w u)))

-- a bit that was on lowers the word
pub cleared-less : (w i : ℕ) → bit_at w i ≡ 1 → with_bit w i 0 < w
unfolding with_bit
cleared-less w i e =
    let part : 1 * 2 ^ i ≤ w = rw e at (part-le w i) in
    rw e (omega (arith, part, one-mul (2 ^ i), zero-mul (2 ^ i), pow_pos i))

-- words of no bit, and of all
pub none-on : (i : ℕ) → bit_at 0 i ≡ 0
unfolding bit_at
none-on i = ap (λ (x : ℕ). x % 2) (div-eq_of_lt (pow_pos i))

pub all-on : (k i : ℕ) → i < k → bit_at (2 ^ k - 1) i ≡ 1
all-on zero i h = absurd (not-suc-le-zero h)
all-on (suc k) zero h = bit-first (2 ^ suc k - 1) ∙ omega (arith, pow-suc 2 k, pow_pos k)
all-on (suc k) (suc i) h =
    let half : (2 ^ suc k - 1) / 2 ≡ 2 ^ k - 1 = omega (arith, pow-suc 2 k, pow_pos k) in
    bit-next (2 ^ suc k - 1) i ∙ (ap (λ (x : ℕ). bit_at x i) half ∙ all-on k i (le_of_suc-le-suc h))

pub marks-put : (qs : List (List ℕ)) (i : ℕ) (x : List ℕ) → i < length qs →
    marks_of (set qs i x) ≡ with_bit (marks_of qs) i (mark_for (length x))
unfolding marks_of
marks-put [] i x h = absurd (not-suc-le-zero h)
marks-put (q ∷ qs) zero x h = sym (bit-of-first (mark_for (length q)) (marks_of qs) (mark_for (length x)) (mark-small (length q)))
marks-put (q ∷ qs) (suc i) x h =
    ap (λ (w : ℕ). mark_for (length q) + 2 * w) (marks-put qs i x (le_of_suc-le-suc h)) ∙
    sym (bit-of-next (mark_for (length q)) (marks_of qs) i (mark_for (length x)) (mark-small (length q)))

-- the word reckoned from the last queue down
pub marks-from : (qs : List (List ℕ)) (i : ℕ) → i < length qs →
    marks_of (drop i qs) ≡ mark_for (length (get_or qs i [])) + 2 * marks_of (drop (suc i) qs)
unfolding marks_of
marks-from qs i h = ap marks_of (drop-cons qs i [] h)

-- empty queues have no mark
pub no-marks : (n : ℕ) → marks_of (replicate n []) ≡ 0
unfolding marks_of
no-marks zero = refl
no-marks (suc n) = omega (arith, no-marks n)
