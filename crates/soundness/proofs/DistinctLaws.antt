-- Laws of the walk that tells whether no element stands twice: those seen are noted in a word of bits.
use Rattle.std.proofs.Common.{◌≡◌, refl, ap, ◌∙◌, sym, Bool, true, false, not, List, [], ◌∷◌, ◌++◌, ℕ, zero, suc}
use Rattle.std.proofs.Common.{◌+◌, ◌≤◌, ◌<◌, leb, length, take, drop, get_or, arith, add-one, drop-cons}
use Rattle.std.proofs.lemmas.List.{take_all, take-append-drop}
use Rattle.std.proofs.Math.Seq.{take-suc}
use borrow.Author.Tests.{lt-leb, leb-false, not-true}
use Rattle.rules.specs.Sound.{distinct}
use Rattle.rules.specs.Lists.{all_of, times_in}
use Rattle.rules.proofs.Choices.{split, and_left, and_right, and-make}
use Rattle.rules.proofs.Counts.{times-same, times-other, times-cons, times-append}
use Rattle.rules.proofs.HeldLaws.{distinct-once, distinct_push}
use Rattle.marks.specs.Marks.{word_bits, bit_at, with_bit}
use Rattle.marks.proofs.MarkLaws.{bit-made, bit_kept, none-on}
use Rattle.soundness.specs.Tested.{all_below}

-- an element of numbers that are all below n
pub below-at : (n : ℕ) (l : List ℕ) → all_below n l ≡ true → (i : ℕ) → i < length l → get_or l i 0 < n
unfolding all_of
below-at n [] e i h = absurd (omega arith)
below-at n (x ∷ l) e zero h = leb-false n x (not-true (leb n x) (and_left (not (leb n x)) (all_below n l) e))
below-at n (x ∷ l) e (suc i) h = below-at n l (and_right (not (leb n x)) (all_below n l) e) i (omega arith)

-- .. and below a number above n
pub below-above : (n k : ℕ) (l : List ℕ) → n ≤ k → all_below n l ≡ true → all_below k l ≡ true
unfolding all_of
below-above n k [] h e = refl
below-above n k (x ∷ l) h e =
    let low : x < n = leb-false n x (not-true (leb n x) (and_left (not (leb n x)) (all_below n l) e)) in
    and-make (not (leb k x)) (all_below k l) (ap not (lt-leb k x (omega arith)))
    (below-above n k l h (and_right (not (leb n x)) (all_below n l) e))

-- of the elements before i none stands twice, and the word notes just those
pub record Seen (l : List ℕ) (seen i : ℕ) : Type 0 where
  pub once : distinct (take i l) ≡ true
  pub bits : (u : ℕ) → u < word_bits → bit_at seen u ≡ times_in u (take i l)

pub seen_none : (l : List ℕ) → Seen l 0 0
unfolding distinct times_in
seen_none l = record { once = refl; bits = λ u h. none-on u }

-- how often u stands before i, at i and behind it
times-parts : (u i : ℕ) (l : List ℕ) → i < length l →
    times_in u l ≡ times_in u (take i l) + (times_in u (get_or l i 0 ∷ []) + times_in u (drop (suc i) l))
times-parts u i l h =
    let whole : times_in u (take i l ++ drop i l) ≡ times_in u l = ap (times_in u) (take-append-drop i l) in
    let rest : times_in u (drop i l) ≡ times_in u (get_or l i 0 ∷ drop (suc i) l) = ap (times_in u) (drop-cons l i 0 h) in
    omega (arith, times-append u (take i l) (drop i l), times-cons u (get_or l i 0) (drop (suc i) l))

module _ (l : List ℕ) (seen i : ℕ) (s : Seen l seen i) where
  pub seen_all : length l ≤ i → distinct l ≡ true
  seen_all h = ap distinct (sym (take_all i l h)) ∙ s.once

  -- the element at i stands before too
  pub seen_twice : i < length l → get_or l i 0 < word_bits → bit_at seen (get_or l i 0) ≡ 1 → distinct l ≡ false
  seen_twice h g e = go (distinct l) refl
    where
      go : (b : Bool) → distinct l ≡ b → b ≡ false
      go true d =
          let x : ℕ = get_or l i 0 in
          absurd (omega (arith, times-parts x i l h, times-same x x refl, s.bits x g, distinct-once l d x))
      go false d = refl

  -- it does not
  pub seen_more : i < length l → get_or l i 0 < word_bits → (bit_at seen (get_or l i 0) ≡ 1 → ⊥) →
      Seen l (with_bit seen (get_or l i 0) 1) (i + 1)
  seen_more h g e =
      let x : ℕ = get_or l i 0 in
      let free : times_in x (take i l) ≡ 0 = omega (arith, s.bits x g, distinct-once (take i l) s.once x) in
      rw add-one
      (record {
        once = rw (take-suc l i 0 h) (distinct_push (take i l) x s.once free);
        bits = λ u b. rw (take-suc l i 0 h)
            (let sum = times-append u (take i l) (x ∷ []) in
            split u x
            (λ q.
            let before = ap (λ (v : ℕ). times_in v (take i l)) q in
            ap (bit_at (with_bit seen x 1)) q ∙
            (bit-made seen x 1 (omega arith) ∙ omega (arith, free, sum, times-same x u (sym q), before)))
            (λ q. bit_kept seen x 1 u (omega arith) q ∙ omega (arith, s.bits u b, sum, times-other x u q)));
      })
