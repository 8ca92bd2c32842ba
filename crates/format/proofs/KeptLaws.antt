-- The check passes exactly the rosters whose scripts keep the written rules, and what it names is the first fault.
use Rattle.format.specs.Answers.{Verdict}
use Rattle.std.specs.Prelude.{Ok}
use mathlib.Core.Path.{◌≡◌, refl, ap, sym, ◌∙◌}
use Rattle.rules.specs.Lists.{times_in}
use mathlib.Core.Bool.{Bool, true, false, cond, not}
use mathlib.Core.List.{List, [], ◌∷◌, ◌++◌}
use Prim.Native.Nat.{ℕ, zero, suc, ◌-◌, ◌≤◌, ◌<◌, max}
use native.Mathlib.Omega.{arith}
use native.Mathlib.Nat.{not-suc-le-zero}
use borrow.Author.Tests.{eqb-true, eq-eqb, ne_eqb, ltb-true, ltb-false, lt-ltb, le-ltb, not-false}
use lib.Dec.{eqb}
use lib.ListN.{length, get_or, take, length-append}
use lib.Seq.{take-suc, take_all, get_or_at}
use Rattle.rules.specs.Model.{ceiling_of, highest_of}
use Rattle.rules.specs.declared.Priority.{Priority}
use Rattle.rules.proofs.Choices.{split, and_left, and_right}
use Rattle.rules.proofs.Counts.{times-same, times-other, times-cons}
use Rattle.format.specs.Steps.{step_in}
use Rattle.format.specs.Roster.{Roster, base_of, script_of}
use Rattle.format.specs.Check.{something, is_innermost, own_set}
use Rattle.format.specs.Check.{top_of, top_at, while_held, low_ceiling, not_innermost}
use Rattle.format.specs.Check.{other_task, fault_in}
use Rattle.format.specs.Kept.{step_for, held_at, Unheld, Covered, Innermost, OwnSets, Keeps}
use Rattle.format.specs.declared.Step.{Step}
use Rattle.format.specs.declared.Step.TheVariants.{Enter, Leave, Delay, Work, Suspend, Release, Set, Again, Finish}
use Rattle.format.proofs.TestLaws.{and_yes}
use Rattle.format.proofs.WalkLaws.{clean, faultless}

-- the highest of a base and own Set values is the least number that is as high as each
pub top-low : (t base : ℕ) (steps : List Step) → base ≤ top_of t base steps
unfolding top_of
top-low t base [] = omega arith
top-low t base (x ∷ steps) = omega (arith, top-low t (max base (own_set t x)) steps)

own_value : (t : ℕ) (x : Step) (p : Priority) → x ≡ Set t p → own_set t x ≡ p.0
unfolding own_set
own_value t x p e = ap (own_set t) e ∙ ap (λ (b : Bool). cond b p.0 0) (eq-eqb t t refl)

pub top_set : (t base : ℕ) (steps : List Step) (j : ℕ) (p : Priority) → step_in steps j ≡ Set t p → p.0 ≤ top_of t base steps
unfolding top_of
top_set t base [] j p e = absurd (let z : ◌≡◌ {A = ℕ} 0 1 = cc in omega arith)
top_set t base (x ∷ steps) zero p e = omega (arith, own_value t x p e, top-low t (max base (own_set t x)) steps)
top_set t base (x ∷ steps) (suc j) p e = top_set t (max base (own_set t x)) steps j p e

own-least : (t most : ℕ) (x : Step) → ((p : Priority) → x ≡ Set t p → p.0 ≤ most) → own_set t x ≤ most
unfolding own_set
own-least t most (Enter o) h = omega arith
own-least t most (Leave o) h = omega arith
own-least t most (Delay d) h = omega arith
own-least t most Work h = omega arith
own-least t most Suspend h = omega arith
own-least t most (Release u) h = omega arith
own-least t most (Set u p) h =
    split u t
    (λ e. omega (arith, ap (λ (b : Bool). cond b p.0 0) (eq-eqb u t e), h p (ap (λ (v : ℕ). Set v p) e)))
    (λ e. omega (arith, ap (λ (b : Bool). cond b p.0 0) (ne_eqb u t e)))
own-least t most Again h = omega arith
own-least t most Finish h = omega arith

pub top_least : (t base most : ℕ) (steps : List Step) → base ≤ most →
    ((j : ℕ) (p : Priority) → step_in steps j ≡ Set t p → p.0 ≤ most) → top_of t base steps ≤ most
unfolding top_of
top_least t base most [] b h = b
top_least t base most (x ∷ steps) b h =
    top_least t (max base (own_set t x)) most steps (omega (arith, own-least t most x (h 0))) (λ j. h (suc j))

-- the same of a priority and held ceilings
pub highest-low : (cs : List ℕ) (p : ℕ) (l : List ℕ) → p ≤ highest_of cs p l
unfolding highest_of
highest-low cs p [] = omega arith
highest-low cs p (o ∷ l) = omega (arith, highest-low cs (max p (ceiling_of cs o)) l)

pub highest-held : (cs : List ℕ) (p : ℕ) (l : List ℕ) (i : ℕ) → 0 < times_in i l → ceiling_of cs i ≤ highest_of cs p l
unfolding highest_of times_in
highest-held cs p [] i h = absurd (not-suc-le-zero h)
highest-held cs p (o ∷ l) i h =
    split i o
    (λ e. omega (arith, ap (ceiling_of cs) e, highest-low cs (max p (ceiling_of cs o)) l))
    (λ e. highest-held cs (max p (ceiling_of cs o)) l i (omega (arith, times-cons i o l, times-other o i e, h)))

pub highest-least : (cs : List ℕ) (p most : ℕ) (l : List ℕ) → p ≤ most → ((i : ℕ) → 0 < times_in i l → ceiling_of cs i ≤ most) →
    highest_of cs p l ≤ most
unfolding highest_of
highest-least cs p most [] b h = b
highest-least cs p most (o ∷ l) b h =
    highest-least cs (max p (ceiling_of cs o)) most l
    (omega (arith, h o (omega (arith, times-cons o o l, times-same o o refl))))
    (λ i g. h i (omega (arith, times-cons i o l, g)))

-- nothing is held, an object is not, an object is the innermost
none-held : (l : List ℕ) → something l ≡ false → l ≡ []
none-held [] e = refl
none-held (x ∷ l) e = absurd (not-suc-le-zero (ltb-false 0 (suc (length l)) e))

held_none : (l : List ℕ) → l ≡ [] → something l ≡ false
held_none l e = ap something e

inner_last : (l : List ℕ) (o : ℕ) → is_innermost l o ≡ true → (outer : List ℕ) × (l ≡ outer ++ (o ∷ []))
inner_last l o e =
    let some = ltb-true 0 (length l) (and_left (something l) (eqb (get_or l (length l - 1) 0) o) e) in
    let last = eqb-true _ o (and_right (something l) (eqb (get_or l (length l - 1) 0) o) e) in
    let n : suc (length l - 1) ≡ length l = omega arith in (
      take (length l - 1) l,
      sym (take_all (suc (length l - 1)) l (omega arith)) ∙ (take-suc l (length l - 1) 0 (omega arith) ∙
          ap (λ (x : ℕ). take (length l - 1) l ++ (x ∷ [])) last),
    )

last_inner : (l : List ℕ) (o : ℕ) (outer : List ℕ) → l ≡ outer ++ (o ∷ []) → is_innermost l o ≡ true
last_inner l o outer e =
    let n = length-append outer (o ∷ []) in
    let some : 0 < length l = omega (arith, ap length e, n) in
    let at : length l - 1 ≡ length outer = omega (arith, ap length e, n) in
    let last : get_or l (length l - 1) 0 ≡ o =
    ap (λ (k : List ℕ). get_or k (length l - 1) 0) e ∙ get_or_at outer o [] 0 (length l - 1) (sym at) in
    sym (and_yes _ _ _ (lt-ltb 0 (length l) some) (sym (eq-eqb _ o last)))

-- each rule's test, and the rule as it is written
module _ (r : Roster) (t k : ℕ) where
  -- 17
  pub unheld-of : while_held (held_at r t k) (step_for r t k) ≡ false → Unheld r t k
  unfolding while_held
  unheld-of h =
      let held = held_at r t k in
      let at : (y : Step) → step_for r t k ≡ y → while_held held y ≡ false = λ y e. sym (ap (while_held held) e) ∙ h in
      record {
        delay = λ d e. none-held held (at (Delay d) e);
        suspend = λ e. none-held held (at Suspend e);
        again = λ e. none-held held (at Again e);
        end = λ e. none-held held (at Finish e);
        enter = λ o e. (let z : times_in o held ≤ 0 = ltb-false 0 (times_in o held) (at (Enter o) e) in omega arith);
      }

  of-unheld-at : Unheld r t k → (y : Step) → step_for r t k ≡ y → while_held (held_at r t k) y ≡ false
  unfolding while_held
  of-unheld-at u (Enter o) e = le-ltb 0 (times_in o (held_at r t k)) (omega (arith, u.enter o e))
  of-unheld-at u (Leave o) e = refl
  of-unheld-at u (Delay d) e = held_none (held_at r t k) (u.delay d e)
  of-unheld-at u Work e = refl
  of-unheld-at u Suspend e = held_none (held_at r t k) (u.suspend e)
  of-unheld-at u (Release v) e = refl
  of-unheld-at u (Set v p) e = refl
  of-unheld-at u Again e = held_none (held_at r t k) (u.again e)
  of-unheld-at u Finish e = held_none (held_at r t k) (u.end e)

  pub of-unheld : Unheld r t k → while_held (held_at r t k) (step_for r t k) ≡ false
  of-unheld u = of-unheld-at u (step_for r t k) refl

  -- 18
  pub covered_of : low_ceiling r.ceilings (top_at r t) (held_at r t k) (step_for r t k) ≡ false → Covered r t k
  unfolding low_ceiling top_at
  covered_of h =
      let cs = r.ceilings in
      let held = held_at r t k in
      let high : (o : ℕ) → step_for r t k ≡ Enter o → highest_of cs (top_at r t) held ≤ ceiling_of cs o =
      λ o e. ltb-false (ceiling_of cs o) (highest_of cs (top_at r t) held) (sym (ap (low_ceiling cs (top_at r t) held) e) ∙ h) in
      let low = highest-low cs (top_at r t) held in
      record {
        base = λ o e. omega (arith, high o e, low, top-low t (base_of r t) (script_of r t));
        values = λ o j p e f. omega (arith, high o e, low, top_set t (base_of r t) (script_of r t) j p f);
        ceilings = λ o i e f. omega (arith, high o e, highest-held cs (top_at r t) held i f);
      }

  of-covered-at : Covered r t k → (y : Step) → step_for r t k ≡ y → low_ceiling r.ceilings (top_at r t) (held_at r t k) y ≡ false
  unfolding low_ceiling top_at
  of-covered-at u (Enter o) e =
      let most = ceiling_of r.ceilings o in
      let top = top_least t (base_of r t) most (script_of r t) (u.base o e) (λ j p f. u.values o j p e f) in
      le-ltb most (highest_of r.ceilings (top_at r t) (held_at r t k))
      (highest-least r.ceilings (top_at r t) most (held_at r t k) top (λ i f. u.ceilings o i e f))
  of-covered-at u (Leave o) e = refl
  of-covered-at u (Delay d) e = refl
  of-covered-at u Work e = refl
  of-covered-at u Suspend e = refl
  of-covered-at u (Release v) e = refl
  of-covered-at u (Set v p) e = refl
  of-covered-at u Again e = refl
  of-covered-at u Finish e = refl

  pub of-covered : Covered r t k → low_ceiling r.ceilings (top_at r t) (held_at r t k) (step_for r t k) ≡ false
  of-covered u = of-covered-at u (step_for r t k) refl

  -- 19
  pub innermost-of : not_innermost (held_at r t k) (step_for r t k) ≡ false → Innermost r t k
  unfolding not_innermost
  innermost-of h =
      record { leave = λ o e. inner_last (held_at r t k) o (not-false _ (sym (ap (not_innermost (held_at r t k)) e) ∙ h)) }

  of-innermost-at : Innermost r t k → (y : Step) → step_for r t k ≡ y → not_innermost (held_at r t k) y ≡ false
  unfolding not_innermost
  of-innermost-at u (Enter o) e = refl
  of-innermost-at u (Leave o) e = let l = u.leave o e in ap not (last_inner (held_at r t k) o l.0 l.1)
  of-innermost-at u (Delay d) e = refl
  of-innermost-at u Work e = refl
  of-innermost-at u Suspend e = refl
  of-innermost-at u (Release v) e = refl
  of-innermost-at u (Set v p) e = refl
  of-innermost-at u Again e = refl
  of-innermost-at u Finish e = refl

  pub of-innermost : Innermost r t k → not_innermost (held_at r t k) (step_for r t k) ≡ false
  of-innermost u = of-innermost-at u (step_for r t k) refl

  -- 20
  pub own_of : other_task t (step_for r t k) ≡ false → OwnSets r t k
  unfolding other_task
  own_of h = record { set = λ u p e. eqb-true u t (not-false _ (sym (ap (other_task t) e) ∙ h)) }

  of-own-at : OwnSets r t k → (y : Step) → step_for r t k ≡ y → other_task t y ≡ false
  unfolding other_task
  of-own-at u (Enter o) e = refl
  of-own-at u (Leave o) e = refl
  of-own-at u (Delay d) e = refl
  of-own-at u Work e = refl
  of-own-at u Suspend e = refl
  of-own-at u (Release v) e = refl
  of-own-at u (Set v p) e = ap not (eq-eqb v t (u.set v p e))
  of-own-at u Again e = refl
  of-own-at u Finish e = refl

  pub of-own : OwnSets r t k → other_task t (step_for r t k) ≡ false
  of-own u = of-own-at u (step_for r t k) refl

  -- all of them
  abbrev pub fault_at : Verdict
  fault_at = fault_in r.ceilings (top_at r t) t (script_of r t) k

  pub keeps-of : fault_at ≡ Ok tt → Keeps r t k
  unfolding fault_in
  keeps-of e =
      let c = clean r.ceilings (top_at r t) (held_at r t k) t k (step_for r t k) e in
      record { unheld = unheld-of c.free; covered = covered_of c.high; innermost = innermost-of c.inner; own = own_of c.own }

  pub of-keeps : Keeps r t k → fault_at ≡ Ok tt
  unfolding fault_in
  of-keeps u =
      faultless r.ceilings (top_at r t) (held_at r t k) t k (step_for r t k) (record {
        free = of-unheld u.unheld;
        high = of-covered u.covered;
        inner = of-innermost u.innermost;
        own = of-own u.own;
      })
