-- Laws of tests: conjunctions, tests of every number below one, and the first of several verdicts that is not Ok.
use mathlib.Core.Path.{◌≡◌, refl, ap, sym, ◌∙◌}
use Rattle.std.specs.Prelude.{Ok, Err}
use Rattle.std.specs.List.{list_all, range_with_len}
use Rattle.rules.specs.Lists.{all_of, below}
use mathlib.Core.Bool.{Bool, true, false, cond, ◌&&◌}
use mathlib.Core.List.{List, [], ◌∷◌}
use Prim.Native.Nat.{ℕ, zero, suc, ◌+◌, ◌≤◌, ◌<◌}
use native.Mathlib.Numerals.{add-one}
use native.Mathlib.Omega.{arith}
use native.Mathlib.Nat.{not-suc-le-zero}
use borrow.Author.Tests.{eqb-true, eqb-false}
use lib.Dec.{eqb}
use lib.ListN.{length, get_or}
use Rattle.rules.proofs.Choices.{and_left, and_right}
use Rattle.format.specs.Answers.{Verdict, passed, first}
use Rattle.format.specs.declared.Fault.{Fault}

pub truth : true ≡ false → ⊥
truth e = let z : ◌≡◌ {A = ℕ} 0 1 = cc in omega arith

-- a conjunction, by its first part
pub and_no : (a b : Bool) → a ≡ false → false ≡ (a && b)
and_no a b e = sym (ap (λ (x : Bool). x && b) e)

pub and_yes : (a b y : Bool) → a ≡ true → y ≡ b → y ≡ (a && b)
and_yes a b y e f = f ∙ sym (ap (λ (x : Bool). x && b) e)

-- by cases on a test
pub by-test : {A : Type 0} (b : Bool) → (b ≡ true → A) → (b ≡ false → A) → A
by-test true f g = f refl
by-test false f g = g refl

module _ (f : ℕ → Bool) where
  -- every number below n passes
  pub below_at : (n i : ℕ) → below n f ≡ true → i < n → f i ≡ true
  unfolding below
  below_at zero i e h = absurd (not-suc-le-zero h)
  below_at (suc n) i e h =
      by-test (eqb i n)
      (λ g. ap f (eqb-true i n g) ∙ and_right (below n f) (f n) e)
      (λ g. below_at n i (and_left (below n f) (f n) e) (let d : i ≡ n → ⊥ = eqb-false i n g in omega arith))

  pub below_more : (n : ℕ) → below n f ≡ true → f n ≡ true → below (suc n) f ≡ true
  unfolding below
  below_more n e g = sym (and_yes (below n f) (f n) true e (sym g))

  pub below_all : (n : ℕ) → ((i : ℕ) → i < n → f i ≡ true) → below n f ≡ true
  unfolding below
  below_all zero h = refl
  below_all (suc n) h = below_more n (below_all n (λ i g. h i (omega arith))) (h n (omega arith))

  -- one does not
  pub below_fails : (n i : ℕ) → i < n → f i ≡ false → false ≡ below n f
  below_fails n i h e = by-test (below n f) (λ g. absurd (truth (sym (below_at n i g h) ∙ e))) (λ g. sym g)

-- two tests that agree
pub below-same : (f g : ℕ → Bool) (n : ℕ) → ((i : ℕ) → i < n → f i ≡ g i) → below n f ≡ below n g
unfolding below
below-same f g zero h = refl
below-same f g (suc n) h =
    ap (λ (b : Bool). b && f n) (below-same f g n (λ i k. h i (omega arith))) ∙ ap (λ (b : Bool). below n g && b) (h n (omega arith))

-- the first of them first; a test of every number of a list is one of every position
and-three : (a b d : Bool) → (a && b && d) ≡ (a && (b && d))
and-three true b d = refl
and-three false b d = refl

and_last : (a : Bool) → (true && a) ≡ (a && true)
and_last true = refl
and_last false = refl

below-front : (f : ℕ → Bool) (n : ℕ) → below (suc n) f ≡ (f 0 && below n (λ i. f (suc i)))
unfolding below
below-front f zero = and_last (f 0)
below-front f (suc n) = ap (λ (b : Bool). b && f (suc n)) (below-front f n) ∙ and-three (f 0) (below n (λ i. f (suc i))) (f (suc n))

pub below-list : (f : ℕ → Bool) (l : List ℕ) → below (length l) (λ i. f (get_or l i 0)) ≡ all_of f l
unfolding below all_of
below-list f [] = refl
below-list f (x ∷ l) =
    below-front (λ i. f (get_or (x ∷ l) i 0)) (length l) ∙ ap (λ (b : Bool). f x && b) (below-list f l)

-- a test of every number of a range
below-from : (f : ℕ → Bool) (a n : ℕ) → list_all f (range_with_len a n) ≡ below n (λ i. f (a + i))
unfolding below
below-from f a zero = refl
below-from f a (suc n) =
    ap (λ (b : Bool). f a && b)
    (below-from f (a + 1) n ∙ below-same (λ i. f (a + 1 + i)) (λ i. f (a + suc i)) n (λ i h. ap f (omega arith))) ∙
    sym (below-front (λ i. f (a + i)) n ∙ ap (λ (k : ℕ). f k && below n (λ i. f (a + suc i))) (let z : a + 0 ≡ a = omega arith in z))

pub below-range : (f : ℕ → Bool) (n m : ℕ) → n ≡ m → list_all f (range_with_len 0 n) ≡ below m f
below-range f n m e = below-from f 0 n ∙ (below-same (λ i. f (0 + i)) f n (λ i h. ap f (omega arith)) ∙ ap (λ (k : ℕ). below k f) e)

-- what passes is Ok
pub passed_is : (v : Verdict) → passed v ≡ true → v ≡ Ok tt
passed_is (Ok done) e = refl
passed_is (Err f) e = absurd (truth (sym e))

-- a choice that passes took its second way, its first being a fault
pub past : (b : Bool) (v w : Verdict) → passed v ≡ false → cond b v w ≡ Ok tt → (b ≡ false) × (w ≡ Ok tt)
past true v w f e = absurd (truth (sym (ap passed e) ∙ f))
past false v w f e = (refl, e)

module _ (f : ℕ → Verdict) where
  -- one more that passes, and one that does not
  pub first_more : (n : ℕ) → first n f ≡ Ok tt → f n ≡ Ok tt → first (suc n) f ≡ Ok tt
  unfolding first
  first_more n e g = ap (λ (v : Verdict). cond (passed v) (f n) v) e ∙ g

  pub first-new : (n : ℕ) → first n f ≡ Ok tt → first (suc n) f ≡ f n
  unfolding first
  first-new n e = ap (λ (v : Verdict). cond (passed v) (f n) v) e

  -- the last and all before it
  pub first_below : (n : ℕ) → first (suc n) f ≡ Ok tt → (first n f ≡ Ok tt) × (f n ≡ Ok tt)
  unfolding first
  first_below n e =
      by-test (passed (first n f))
      (λ g. (passed_is (first n f) g, sym (ap (λ (b : Bool). cond b (f n) (first n f)) g) ∙ e))
      (λ g.
      let k : first n f ≡ (Ok tt) = sym (ap (λ (b : Bool). cond b (f n) (first n f)) g) ∙ e in
      absurd (truth (sym (ap passed k) ∙ g)))

  pub first-at : (n : ℕ) → first n f ≡ Ok tt → (i : ℕ) → i < n → f i ≡ Ok tt
  first-at zero e i h = absurd (not-suc-le-zero h)
  first-at (suc n) e i h =
      let b = first_below n e in
      by-test (eqb i n)
      (λ g. ap f (eqb-true i n g) ∙ b.1)
      (λ g. first-at n b.0 i (let d : i ≡ n → ⊥ = eqb-false i n g in omega arith))

  pub first-all : (n : ℕ) → ((i : ℕ) → i < n → f i ≡ Ok tt) → first n f ≡ Ok tt
  unfolding first
  first-all zero h = refl
  first-all (suc n) h = first_more n (first-all n (λ i g. h i (omega arith))) (h n (omega arith))

  -- two searches that agree
  pub first-same : (g : ℕ → Verdict) (n : ℕ) → ((i : ℕ) → i < n → f i ≡ g i) → first n f ≡ first n g
  unfolding first
  first-same g zero h = refl
  first-same g (suc n) h =
      ap (λ (v : Verdict). cond (passed v) (f n) v) (first-same g n (λ i k. h i (omega arith))) ∙
      ap (λ (v : Verdict). cond (passed (first n g)) v (first n g)) (h n (omega arith))

  -- a fault that is named stands somewhere, and nothing before it is one
  pub first-names : (n : ℕ) → passed (first n f) ≡ false → (i : ℕ) × (i < n) × (f i ≡ first n f) × (first i f ≡ Ok tt)
  unfolding first
  first-names zero e = absurd (truth e)
  first-names (suc n) e =
      by-test (passed (first n f))
      (λ g. (n, omega arith, sym (first-new n (passed_is (first n f) g)), passed_is (first n f) g))
      (λ g.
      let w = first-names n g in
      let k : first (suc n) f ≡ first n f = ap (λ (b : Bool). cond b (f n) (first n f)) g in
      (w.0, (let h = w.1 in omega arith), w.2 ∙ sym k, w.3))

  -- a fault stays the first
  pub first-stays : (i n : ℕ) → i ≤ n → passed (first i f) ≡ false → first n f ≡ first i f
  unfolding first
  first-stays i zero h e = ap (λ (m : ℕ). first m f) (let z : zero ≡ i = omega arith in z)
  first-stays i (suc n) h e =
      by-test (eqb i (suc n))
      (λ g. ap (λ (m : ℕ). first m f) (sym (eqb-true i (suc n) g)))
      (λ g.
      let d : i ≡ suc n → ⊥ = eqb-false i (suc n) g in
      let k = first-stays i n (omega arith) e in
      ap (λ (b : Bool). cond b (f n) (first n f)) (ap passed k ∙ e) ∙ k)

  pub first_found : (n i : ℕ) → i < n → first i f ≡ Ok tt → passed (f i) ≡ false → first n f ≡ f i
  first_found n i h e g =
      let k = first-new i e in
      first-stays (suc i) n (omega arith) (ap passed k ∙ g) ∙ k

-- a loop that looks for the first fault: a turn that finds it, one that goes on, and the end
module _ (f : ℕ → Verdict) where
  pub turn-finds : (m i : ℕ) (e : Fault) → i < m → first i f ≡ Ok tt → Err e ≡ f i → Err e ≡ first m f
  turn-finds m i e h k g = g ∙ sym (first_found f m i h k (ap passed (sym g)))

  pub turn-passes : (i : ℕ) → first i f ≡ Ok tt → Ok tt ≡ f i → first (i + 1) f ≡ Ok tt
  turn-passes i k g = ap (λ (n : ℕ). first n f) (add-one i) ∙ first_more f i k (sym g)

  pub turns-pass : (m i : ℕ) → i ≡ m → first i f ≡ Ok tt → Ok tt ≡ first m f
  turns-pass m i e k = sym k ∙ ap (λ (n : ℕ). first n f) e
