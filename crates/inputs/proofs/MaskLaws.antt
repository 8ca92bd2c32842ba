-- Laws of the test of events without jumps: what the masks leave of a record, and the loop that joins it all.
use mathlib.Core.Path.{◌≡◌, refl, ap, ap₂, sym, ◌∙◌}
use mathlib.Core.Bool.{Bool, true, false, ◌&&◌}
use mathlib.Core.List.{List}
use Prim.Native.Nat.{ℕ, ◌+◌, ◌-◌, ◌*◌, ◌/◌, ◌%◌, ◌^◌, ◌≤◌, ◌<◌}
use native.Mathlib.Omega.{arith}
use native.Mathlib.Numerals.{add-one}
use borrow.Author.Tests.{eq-eqb, ne_eqb}
use lib.Bits.{bit_and, bit_or, and_zero_r, and_le_l, and_le_r, and_high, or_zero_r, or_add_and, or_shr, or_mod}
use lib.Dec.{eqb}
use lib.ListN.{get_or}
use Rattle.std.specs.Prelude.{is_some}
use Rattle.rules.specs.Lists.{below}
use Rattle.rules.proofs.Choices.{split, compare}
use Rattle.trace.specs.Inputs.{decode, kind_at, operand_at, value_at, decoded_at, event_good}
use Rattle.trace.proofs.InputLaws.{fields-are, decode-none}
use Rattle.inputs.specs.Masks.{unused_bits, unknown_kinds, fault_in}

-- a number is 0 where another is, or where two others are
zero_same : (x z : ℕ) → (x ≡ 0 → z ≡ 0) → (z ≡ 0 → x ≡ 0) → eqb x 0 ≡ eqb z 0
zero_same x z f g = split z 0 (λ e. eq-eqb x 0 (g e) ∙ sym (eq-eqb z 0 e)) (λ e. ne_eqb x 0 (λ h. e (f h)) ∙ sym (ne_eqb z 0 e))

zero-both : (x y z : ℕ) → (x ≡ 0 → y ≡ 0) → (x ≡ 0 → z ≡ 0) → (y ≡ 0 → z ≡ 0 → x ≡ 0) → eqb x 0 ≡ (eqb y 0 && eqb z 0)
zero-both x y z f g h =
    split y 0
    (λ e. zero_same x z g (h e) ∙ sym (ap (λ (b : Bool). b && eqb z 0) (eq-eqb y 0 e)))
    (λ e. ne_eqb x 0 (λ i. e (f i)) ∙ sym (ap (λ (b : Bool). b && eqb z 0) (ne_eqb y 0 e)))

-- two numbers joined are 0 where both are
join-zero : (x y : ℕ) → eqb (bit_or x y) 0 ≡ (eqb x 0 && eqb y 0)
join-zero x y =
    zero-both (bit_or x y) x y
    (λ e. omega (arith, or_add_and x y, and_le_r x y))
    (λ e. omega (arith, or_add_and x y, and_le_l x y))
    (λ e f. omega (arith, or_add_and x y))

-- what is 0 where a record's kind is below 8
abbrev high : ℕ → ℕ
high all = all / 8 % 32

high-joined : (x y : ℕ) → eqb (high (bit_or x y)) 0 ≡ (eqb (high x) 0 && eqb (high y) 0)
high-joined x y =
    ap (λ (n : ℕ). eqb n 0) (ap (λ (n : ℕ). n % 32) (or_shr x y 3) ∙ or_mod (x / 8) (y / 8) 5) ∙ join-zero (high x) (high y)

-- a record of kind j, below 8, with the bits m that have to be 0 and x for an unknown kind
module _ (all j m x : ℕ) (e : all % 256 ≡ j) (h : j < 8) (f : get_or unused_bits j 0 ≡ m) (g : get_or unknown_kinds j 0 ≡ x) where
  fault-is : fault_in all ≡ bit_or (bit_and all m) x
  fault-is =
      let r : all % 8 ≡ j = omega arith in
      ap (λ (i : ℕ). bit_or (bit_and all (get_or unused_bits i 0)) (get_or unknown_kinds i 0)) r ∙
      (ap (λ (n : ℕ). bit_or (bit_and all n) (get_or unknown_kinds j 0)) f ∙ ap (bit_or (bit_and all m)) g)

  low : (b : Bool) → eqb (bit_or (bit_and all m) x) 0 ≡ b → (eqb (fault_in all) 0 && eqb (high all) 0) ≡ b
  low b i =
      let z : high all ≡ 0 = omega arith in
      ap (λ (c : Bool). eqb (fault_in all) 0 && c) (eq-eqb (high all) 0 z) ∙
      (and-true (eqb (fault_in all) 0) ∙ (ap (λ (n : ℕ). eqb n 0) fault-is ∙ i))
    where
      and-true : (c : Bool) → (c && true) ≡ c
      and-true true = refl
      and-true false = refl

known : (all j m : ℕ) (b : Bool) → all % 256 ≡ j → j < 8 → get_or unused_bits j 0 ≡ m → get_or unknown_kinds j 0 ≡ 0 →
    eqb (bit_and all m) 0 ≡ b →
    (eqb (fault_in all) 0 && eqb (high all) 0) ≡ b
known all j m b e h f g i = low all j m 0 e h f g b (ap (λ (n : ℕ). eqb n 0) (or_zero_r (bit_and all m)) ∙ i)

none : (all j m : ℕ) → all % 256 ≡ j → j < 8 → get_or unused_bits j 0 ≡ m → get_or unknown_kinds j 0 ≡ 1 →
    (eqb (fault_in all) 0 && eqb (high all) 0) ≡ false
none all j m e h f g =
    low all j m 1 e h f g false
    (ne_eqb (bit_or (bit_and all m) 1) 0 (λ z. omega (arith, or_add_and (bit_and all m) 1, and_le_l (bit_and all m) 1)))

is_zero : (k : ℕ) → k < 5 → (k ≡ 1 → ⊥) → (k ≡ 2 → ⊥) → (k ≡ 3 → ⊥) → (k ≡ 4 → ⊥) → k ≡ 0
is_zero k h h1 h2 h3 h4 = omega arith

is-seven : (k : ℕ) → 5 ≤ k → k < 8 → (k ≡ 5 → ⊥) → (k ≡ 6 → ⊥) → k ≡ 7
is-seven k g h h5 h6 = omega arith

module _ (all : ℕ) (fits : all < 2 ^ 64) where
  clock-left : eqb (bit_and all (2 ^ 16 - 2 ^ 8)) 0 ≡ eqb (all / 256 % 256) 0
  clock-left =
      let x = bit_and all (2 ^ 16 - 2 ^ 8) in
      let e : x ≡ all / 256 % 256 * 256 = and_high all 8 8 in
      zero_same x (all / 256 % 256) (λ f. omega arith) (λ f. omega arith)

  release-left : eqb (bit_and all (2 ^ 64 - 2 ^ 16)) 0 ≡ eqb (all / 65536) 0
  release-left =
      let x = bit_and all (2 ^ 64 - 2 ^ 16) in
      let e : x ≡ all / 65536 % 2 ^ 48 * 65536 = and_high all 48 16 in
      let w : all / 65536 % 2 ^ 48 ≡ all / 65536 = omega arith in
      zero_same x (all / 65536) (λ f. omega arith) (λ f. omega arith)

  step_left : eqb (bit_and all (2 ^ 64 - 2 ^ 8)) 0 ≡ (eqb (all / 256 % 256) 0 && eqb (all / 65536) 0)
  step_left =
      let x = bit_and all (2 ^ 64 - 2 ^ 8) in
      let e : x ≡ all / 256 % 2 ^ 56 * 256 = and_high all 56 8 in
      let w : all / 256 % 2 ^ 56 ≡ all / 256 = omega arith in
      zero-both x (all / 256 % 256) (all / 65536) (λ f. omega arith) (λ f. omega arith) (λ f g. omega arith)

  unknown : (all % 256 ≡ 1 → ⊥) → (all % 256 ≡ 2 → ⊥) → (all % 256 ≡ 3 → ⊥) → (all % 256 ≡ 4 → ⊥) →
      (eqb (fault_in all) 0 && eqb (high all) 0) ≡ false
  unfolding unused_bits unknown_kinds
  unknown h1 h2 h3 h4 =
      compare 8 (all % 256)
      (λ h.
      ap (λ (c : Bool). eqb (fault_in all) 0 && c) (ne_eqb (high all) 0 (λ z. omega arith)) ∙ and-false (eqb (fault_in all) 0))
      (λ h.
      compare 5 (all % 256)
      (λ g.
      split (all % 256) 5 (λ e. none all 5 0 e (omega arith) refl refl) (λ n5.
      split (all % 256) 6 (λ e. none all 6 0 e (omega arith) refl refl) (λ n6.
      none all 7 0 (is-seven (all % 256) g h n5 n6) (omega arith) refl refl)))
      (λ g. none all 0 0 (is_zero (all % 256) g h1 h2 h3 h4) (omega arith) refl refl))
    where
      and-false : (c : Bool) → (c && false) ≡ false
      and-false true = refl
      and-false false = refl

  pub fault-good : (eqb (fault_in all) 0 && eqb (high all) 0) ≡ is_some (decode (all % 256) (all / 256 % 256) (all / 65536))
  unfolding unused_bits unknown_kinds
  fault-good =
      let k = all % 256 in
      let a = all / 256 % 256 in
      let v = all / 65536 in
      split k 1 (λ e. known all 1 _ _ e (omega arith) refl refl clock-left ∙ sym (good 1 e ∙ fields-are 1 a v)) (λ h1.
      split k 2 (λ e. known all 2 _ _ e (omega arith) refl refl release-left ∙ sym (good 2 e ∙ fields-are 2 a v)) (λ h2.
      split k 3 (λ e. known all 3 _ _ e (omega arith) refl refl step_left ∙ sym (good 3 e ∙ fields-are 3 a v)) (λ h3.
      split k 4
      (λ e.
      known all 4 0 true e (omega arith) refl refl (ap (λ (n : ℕ). eqb n 0) (and_zero_r all)) ∙ sym (good 4 e ∙ fields-are 4 a v)) (λ h4.
      unknown h1 h2 h3 h4 ∙ sym (ap is_some (decode-none k a v h1 h2 h3 h4))))))
    where
      good : (j : ℕ) → all % 256 ≡ j →
          is_some (decode (all % 256) (all / 256 % 256) (all / 65536)) ≡ is_some (decode j (all / 256 % 256) (all / 65536))
      good j e = ap (λ (n : ℕ). is_some (decode n (all / 256 % 256) (all / 65536))) e

-- "kind, a, value (6)", little-endian
pub record FieldsOf (all k o v : ℕ) : Type 0 where
  pub kind : all % 256 ≡ k
  pub a : all / 256 % 256 ≡ o
  pub value : all / 65536 ≡ v

-- .. of these bytes
pub fields-of : (all k a v : ℕ) → k < 256 → a < 256 → all ≡ k + 256 * a + 65536 * v → FieldsOf all k a v
fields-of all k a v h g e =
    let d : all / 256 ≡ a + 256 * v = omega arith in
    record { kind = omega arith; a = ap (λ (n : ℕ). n % 256) d ∙ (let z : (a + 256 * v) % 256 ≡ a = omega arith in z); value = omega arith }

-- a turn of the loop
pub event-good : (s : List ℕ) (i all : ℕ) → all < 2 ^ 64 → FieldsOf all (kind_at s i) (operand_at s i) (value_at s i) →
    (eqb (fault_in all) 0 && eqb (high all) 0) ≡ event_good s i
unfolding event_good decoded_at
event-good s i all h f = fault-good all h ∙ cc (f.kind, f.a, f.value)

pub join-on : (f : ℕ → Bool) (i faults joined fault all : ℕ) → (eqb faults 0 && eqb (high joined) 0) ≡ below i f →
    (eqb fault 0 && eqb (high all) 0) ≡ f i → (eqb (bit_or faults fault) 0 && eqb (high (bit_or joined all)) 0) ≡ below (i + 1) f
unfolding below
join-on f i faults joined fault all e g =
    let h : ((eqb faults 0 && eqb (high joined) 0) && (eqb fault 0 && eqb (high all) 0)) ≡ (below i f && f i) = cc in
    ap₂ (λ (b c : Bool). b && c) (join-zero faults fault) (high-joined joined all) ∙
    (exchange (eqb faults 0) (eqb fault 0) (eqb (high joined) 0) (eqb (high all) 0) ∙ (h ∙ ap (λ (n : ℕ). below n f) (sym (add-one i))))
  where
    exchange : (a b c d : Bool) → ((a && b) && (c && d)) ≡ ((a && c) && (b && d))
    exchange true true c d = refl
    exchange true false true d = refl
    exchange true false false d = refl
    exchange false b c d = refl

pub join_last : (faults joined : ℕ) (b : Bool) → (eqb faults 0 && eqb (high joined) 0) ≡ b → eqb (bit_or faults (joined / 8 % 32)) 0 ≡ b
join_last faults joined b e = join-zero faults (high joined) ∙ e
