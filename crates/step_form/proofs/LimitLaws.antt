-- Laws of the limits: the table that is made of them, and what a step within its limit is.
use Rattle.std.specs.Prelude.{Ok}
use mathlib.Core.Path.{◌≡◌, refl, ap, sym, ◌∙◌}
use mathlib.Core.Bool.{Bool, true, cond}
use mathlib.Core.List.{List}
use Prim.Native.Nat.{ℕ, zero, suc, ◌<◌}
use native.Mathlib.Omega.{arith}
use borrow.Author.Tests.{eqb-true, eqb-false, eq-eqb, lt-ltb, ltb-true}
use lib.Dec.{eqb, ltb}
use lib.ListN.{length, get_or, set, replicate, length-set}
use lib.Seq.{get_or-set_same, get_or-set_other}
use Rattle.rules.proofs.Choices.{and_left, and_right}
use Rattle.format.specs.Limits.{enter_code, leave_code, work_code, suspend_code, release_code}
use Rattle.format.specs.Steps.{step_of, code_at, a_at, b_at, step_at, step_count, steps_of, step_in}
use Rattle.format.specs.Form.{is_step, unused_zero, names_listed, stands_right, step_good, step_form}
use Rattle.format.specs.Check.{own_set}
use Rattle.format.specs.declared.Step.{Step}
use Rattle.format.specs.declared.Step.TheVariants.{Enter, Leave, Work, Suspend, Release}
use Rattle.format.proofs.TestLaws.{by-test}
use Rattle.format.proofs.StepLaws.{steps-at}
use Rattle.format.proofs.FormLaws.{form-good}
use Rattle.step_form.specs.Limited.{code_range, limit_of, Limited, is_within}

-- a table without limits
pub zeros : (n code : ℕ) → get_or {A = ℕ} (replicate n 0) code 0 ≡ 0
zeros zero code = refl
zeros (suc n) zero = refl
zeros (suc n) (suc code) = zeros n code

-- one more limit in a table
set_at : (l : List ℕ) (i v code : ℕ) → i < length l → get_or (set l i v) code 0 ≡ cond (eqb code i) v (get_or l code 0)
set_at l i v code h =
    by-test (eqb code i)
    (λ e.
    let same : get_or (set l i v) code 0 ≡ v = ap (λ (j : ℕ). get_or (set l i v) j 0) (eqb-true code i e) ∙ get_or-set_same l i v 0 h in
    same ∙ sym (ap (λ (b : Bool). cond b v (get_or l code 0)) e))
    (λ e. get_or-set_other l i code v 0 (eqb-false code i e) ∙ sym (ap (λ (b : Bool). cond b v (get_or l code 0)) e))

module _ (n m : ℕ) (l : List ℕ) (room : length l ≡ code_range) (none : (code : ℕ) → get_or l code 0 ≡ 0) where
  pub limits-made : Limited n m (set (set (set (set (set l release_code n) suspend_code 1) work_code 1) leave_code m) enter_code m)
  unfolding limit_of
  limits-made =
      let l1 : List ℕ = set l release_code n in
      let l2 : List ℕ = set l1 suspend_code 1 in
      let l3 : List ℕ = set l2 work_code 1 in
      let l4 : List ℕ = set l3 leave_code m in
      let r1 : length l1 ≡ code_range = length-set l release_code n ∙ room in
      let r2 : length l2 ≡ code_range = length-set l1 suspend_code 1 ∙ r1 in
      let r3 : length l3 ≡ code_range = length-set l2 work_code 1 ∙ r2 in
      let r4 : length l4 ≡ code_range = length-set l3 leave_code m ∙ r3 in
      record {
        room = length-set l4 enter_code m ∙ r4;
        at =
            λ code.
            set_at l4 enter_code m code (omega arith) ∙ ap (cond (eqb code enter_code) m)
            (set_at l3 leave_code m code (omega arith) ∙ ap (cond (eqb code leave_code) m)
            (set_at l2 work_code 1 code (omega arith) ∙ ap (cond (eqb code work_code) 1)
            (set_at l1 suspend_code 1 code (omega arith) ∙ ap (cond (eqb code suspend_code) 1)
            (set_at l release_code n code (omega arith) ∙ ap (cond (eqb code release_code) n) (none code)))));
      }

-- a step within its limit has its form, wherever it stands, and is no Set
module _ (n m : ℕ) (last : Bool) (code a b : ℕ) where
  pub record Plain : Type 0 where
    pub good : step_good n m last a b (step_of code a b) ≡ true
    pub unset : (t : ℕ) → 0 ≡ own_set t (step_of code a b)

  is : (c : ℕ) (x : Step) → code ≡ c → step_of c a b ≡ x → step_good n m last a b x ≡ true → ((t : ℕ) → own_set t x ≡ 0) → Plain
  is c x e f g h =
      let same : step_of code a b ≡ x = ap (λ (i : ℕ). step_of i a b) e ∙ f in
      record { good = ap (step_good n m last a b) same ∙ g; unset = λ t. sym (ap (own_set t) same ∙ h t) }

  pub plain : eqb b 0 ≡ true → a < limit_of n m code → Plain
  unfolding limit_of step_of step_good is_step unused_zero names_listed stands_right own_set
  plain none low =
      by-test (eqb code 1)
      (λ e1.
      let f : limit_of n m code ≡ m = simp e1 in
      is 1 (Enter a) (eqb-true code 1 e1) refl (simp (none, lt-ltb a m (omega arith))) (λ t. refl))
      (λ e1. by-test (eqb code 2)
      (λ e2.
      let f : limit_of n m code ≡ m = simp (e1, e2) in
      is 2 (Leave a) (eqb-true code 2 e2) refl (simp (none, lt-ltb a m (omega arith))) (λ t. refl))
      (λ e2. by-test (eqb code 4)
      (λ e4.
      let f : limit_of n m code ≡ 1 = simp (e1, e2, e4) in
      is 4 Work (eqb-true code 4 e4) refl (simp (none, eq-eqb a 0 (omega arith))) (λ t. refl))
      (λ e4. by-test (eqb code 5)
      (λ e5.
      let f : limit_of n m code ≡ 1 = simp (e1, e2, e4, e5) in
      is 5 Suspend (eqb-true code 5 e5) refl (simp (none, eq-eqb a 0 (omega arith))) (λ t. refl))
      (λ e5. by-test (eqb code 6)
      (λ e6.
      let f : limit_of n m code ≡ n = simp (e1, e2, e4, e5, e6) in
      is 6 (Release a) (eqb-true code 6 e6) refl (simp (none, lt-ltb a n (omega arith))) (λ t. refl))
      (λ e6.
      let f : limit_of n m code ≡ 0 = simp (e1, e2, e4, e5, e6) in
      absurd (omega arith))))))

-- as it was read: such a step passes, and sets no base
module _ (n m t : ℕ) (part : List ℕ) (k : ℕ) (there : k < step_count part) where
  pub within-passes : (limits : List ℕ) → Limited n m limits → is_within limits (code_at part k) (a_at part k) (b_at part k) ≡ true →
      (Ok tt ≡ step_form n m t part k) × (own_set t (step_in (steps_of part) k) ≡ 0)
  unfolding step_at
  within-passes limits table e =
      let code = code_at part k in
      let a = a_at part k in
      let b = b_at part k in
      let low = ltb-true a (get_or limits code 0) (and_right (eqb b 0) (ltb a (get_or limits code 0)) e) in
      let x = plain n m (eqb (suc k) (step_count part)) code a b (and_left (eqb b 0) (ltb a (get_or limits code 0)) e)
      (omega (arith, table.at code)) in
      let here = steps-at part k there in
      (form-good n m t part k (step_of code a b) there (sym here) x.good, ap (own_set t) here ∙ sym (x.unset t))
