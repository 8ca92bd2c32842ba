-- The check's verdict is the one that says what is so: of a roster that has its form it is Ok exactly when every script keeps the
-- written rules, and else it names the first fault.
use Rattle.std.specs.Prelude.{Ok, Err}
use mathlib.Core.Path.{◌≡◌, refl, ap, sym, ◌∙◌, subst}
use mathlib.Core.Bool.{Bool, true, false}
use mathlib.Core.List.{List}
use Prim.Native.Nat.{ℕ, suc, ◌≤◌, ◌<◌}
use native.Mathlib.Omega.{arith}
use lib.ListN.{length}
use Rattle.format.specs.Answers.{passed, first, Verdict}
use Rattle.format.specs.Roster.{Roster, roster_of, script_of}
use Rattle.format.specs.Check.{top_at, while_held, low_ceiling, not_innermost, other_task}
use Rattle.format.specs.Check.{fault_of, fault_in, steps_fault, script_fault, roster_fault}
use Rattle.format.specs.Kept.{step_for, held_at, Keeps, NoneBefore, Says, CheckSays}
use Rattle.format.specs.declared.Step.{Step}
use Rattle.format.specs.declared.Fault.TheVariants.{NoSuchTask, NoSuchObject, BadLength, BadMark, BadCounts}
use Rattle.format.specs.declared.Fault.TheVariants.{BadLayout, BadValues}
use Rattle.format.specs.declared.Fault.TheVariants.{BadStep, WhileHeld, LowCeiling, NotInnermost, OtherTask}
use Rattle.format.proofs.TestLaws.{truth, by-test, passed_is, first-at, first-all, first_found, first-names}
use Rattle.format.proofs.AnswerLaws.{check-rules}
use Rattle.format.proofs.KeptLaws.{unheld-of, of-unheld, covered_of, of-covered, innermost-of, of-innermost, own_of, of-own}
use Rattle.format.proofs.KeptLaws.{fault_at, keeps-of, of-keeps}

-- which test decided a step's verdict
pub data Way (cs : List ℕ) (top : ℕ) (held : List ℕ) (t k : ℕ) (x : Step) (v : Verdict) : Type 0 where
  kept : v ≡ Ok tt → Way cs top held t k x v
  at17 : v ≡ Err (WhileHeld t k) → while_held held x ≡ true → Way cs top held t k x v
  at18 : v ≡ Err (LowCeiling t k) → while_held held x ≡ false → low_ceiling cs top held x ≡ true → Way cs top held t k x v
  at19 : v ≡ Err (NotInnermost t k) → while_held held x ≡ false → low_ceiling cs top held x ≡ false → not_innermost held x ≡ true →
      Way cs top held t k x v
  at20 : v ≡ Err (OtherTask t k) → while_held held x ≡ false → low_ceiling cs top held x ≡ false → not_innermost held x ≡ false →
      other_task t x ≡ true → Way cs top held t k x v

pub way : (cs : List ℕ) (top : ℕ) (held : List ℕ) (t k : ℕ) (x : Step) → Way cs top held t k x (fault_of cs top held t k x)
unfolding fault_of
way cs top held t k x =
    by-test (while_held held x) (λ a. at17 (simp a) a) (λ a.
    by-test (low_ceiling cs top held x) (λ b. at18 (simp (a, b)) a b) (λ b.
    by-test (not_innermost held x) (λ d. at19 (simp (a, b, d)) a b d) (λ d.
    by-test (other_task t x) (λ e. at20 (simp (a, b, d, e)) a b d e) (λ e. kept (simp (a, b, d, e))))))

module _ (r : Roster) where
  script-pass : (t : ℕ) → script_fault r t ≡ Ok tt → (k : ℕ) → k ≤ length (script_of r t) → Keeps r t k
  unfolding script_fault steps_fault
  script-pass t e k h =
      keeps-of r t k (first-at (fault_in r.ceilings (top_at r t) t (script_of r t)) (suc (length (script_of r t))) e k (omega arith))

  pass-script : (t : ℕ) → ((k : ℕ) → k ≤ length (script_of r t) → Keeps r t k) → script_fault r t ≡ Ok tt
  unfolding script_fault steps_fault
  pass-script t h =
      first-all (fault_in r.ceilings (top_at r t) t (script_of r t)) (suc (length (script_of r t)))
      (λ k g. of-keeps r t k (h k (omega arith)))

  -- nothing before a location, as the scan has it
  steps-before : (t k : ℕ) → first k (fault_in r.ceilings (top_at r t) t (script_of r t)) ≡ Ok tt → (j : ℕ) → j < k → Keeps r t j
  steps-before t k e j h = keeps-of r t j (first-at (fault_in r.ceilings (top_at r t) t (script_of r t)) k e j h)

  before-steps : (t k : ℕ) → ((j : ℕ) → j < k → Keeps r t j) → first k (fault_in r.ceilings (top_at r t) t (script_of r t)) ≡ Ok tt
  before-steps t k h = first-all (fault_in r.ceilings (top_at r t) t (script_of r t)) k (λ j g. of-keeps r t j (h j g))

  -- the scan names a location, with the verdict of its step
  pub record Found (v : Verdict) : Type 0 where
    pub task : ℕ
    pub position : ℕ
    pub before : NoneBefore r task position
    pub same : fault_at r task position ≡ v

  found : passed (roster_fault r) ≡ false → Found (roster_fault r)
  unfolding roster_fault script_fault steps_fault
  found e =
      let a = first-names (script_fault r) (length r.scripts) e in
      let t = a.0 in
      let f = fault_in r.ceilings (top_at r t) t (script_of r t) in
      let b = first-names f (suc (length (script_of r t))) (ap passed a.2 ∙ e) in
      record {
        task = t;
        position = b.0;
        same = b.2 ∙ a.2;
        before = record {
          here = record { task = a.1; step = (let h = b.1 in omega arith) };
          tasks = λ u j h l. script-pass u (first-at (script_fault r) t a.3 u h) j l.step;
          steps = steps-before t b.0 b.3;
        };
      }

  -- a location before which nothing is broken, whose own step is, is what the scan names
  finds : (t k : ℕ) (v : Verdict) → NoneBefore r t k → fault_at r t k ≡ v → passed v ≡ false → roster_fault r ≡ v
  unfolding roster_fault script_fault steps_fault
  finds t k v n e f =
      let g = fault_in r.ceilings (top_at r t) t (script_of r t) in
      let low = n.here.step in
      let inner : script_fault r t ≡ v =
      first_found g (suc (length (script_of r t))) k (omega arith) (before-steps t k n.steps) (ap passed e ∙ f) ∙ e in
      first_found (script_fault r) (length r.scripts) t n.here.task
      (first-all (script_fault r) t (λ u h. pass-script u
      (λ j g. n.tasks u j h (record { task = (let m = n.here.task in omega arith); step = g }))))
      (ap passed inner ∙ f) ∙ inner

  says-way : (t k : ℕ) (v : Verdict) → NoneBefore r t k → passed v ≡ false →
      Way r.ceilings (top_at r t) (held_at r t k) t k (step_for r t k) v → Says r v
  says-way t k v n f (kept e) = absurd (truth (sym (ap passed e) ∙ f))
  says-way t k v n f (at17 e a) =
      subst (Says r) (sym e) (n, (λ u. truth (sym a ∙ of-unheld r t k u)))
  says-way t k v n f (at18 e a b) =
      subst (Says r) (sym e) (n, unheld-of r t k a, (λ u. truth (sym b ∙ of-covered r t k u)))
  says-way t k v n f (at19 e a b d) =
      subst (Says r) (sym e) (n, unheld-of r t k a, covered_of r t k b, (λ u. truth (sym d ∙ of-innermost r t k u)))
  says-way t k v n f (at20 e a b d g) =
      subst (Says r) (sym e)
      (n, unheld-of r t k a, covered_of r t k b, innermost-of r t k d, (λ u. truth (sym g ∙ of-own r t k u)))

  -- what the scan answers is so
  scan-says : Says r (roster_fault r)
  unfolding roster_fault fault_in
  scan-says =
      by-test (passed (roster_fault r))
      (λ e.
      let p = passed_is (roster_fault r) e in
      subst (Says r) (sym p)
      (record { at = λ t k l. script-pass t (first-at (script_fault r) (length r.scripts) p t l.task) k l.step }))
      (λ e.
      let w = found e in
      says-way w.task w.position (roster_fault r) w.before e
      (subst (Way r.ceilings (top_at r w.task) (held_at r w.task w.position) w.task w.position
      (step_for r w.task w.position)) w.same
      (way r.ceilings (top_at r w.task) (held_at r w.task w.position) w.task w.position
      (step_for r w.task w.position))))

  fault17 : (t k : ℕ) → while_held (held_at r t k) (step_for r t k) ≡ true → fault_at r t k ≡ Err (WhileHeld t k)
  unfolding fault_in fault_of
  fault17 t k a = simp a

  fault18 : (t k : ℕ) → while_held (held_at r t k) (step_for r t k) ≡ false →
      low_ceiling r.ceilings (top_at r t) (held_at r t k) (step_for r t k) ≡ true → fault_at r t k ≡ Err (LowCeiling t k)
  unfolding fault_in fault_of
  fault18 t k a b = simp (a, b)

  fault19 : (t k : ℕ) → while_held (held_at r t k) (step_for r t k) ≡ false →
      low_ceiling r.ceilings (top_at r t) (held_at r t k) (step_for r t k) ≡ false →
      not_innermost (held_at r t k) (step_for r t k) ≡ true → fault_at r t k ≡ Err (NotInnermost t k)
  unfolding fault_in fault_of
  fault19 t k a b d = simp (a, b, d)

  fault20 : (t k : ℕ) → while_held (held_at r t k) (step_for r t k) ≡ false →
      low_ceiling r.ceilings (top_at r t) (held_at r t k) (step_for r t k) ≡ false →
      not_innermost (held_at r t k) (step_for r t k) ≡ false → other_task t (step_for r t k) ≡ true → fault_at r t k ≡ Err (OtherTask t k)
  unfolding fault_in fault_of
  fault20 t k a b d e = simp (a, b, d, e)

  -- a test whose failure would keep a rule that is broken holds
  breaks : (b : Bool) (K : Type 0) → (b ≡ false → K) → (K → ⊥) → b ≡ true
  breaks true K f h = refl
  breaks false K f h = absurd (h (f refl))

  -- only what is so is answered
  says-scan : (v : Verdict) → Says r v → roster_fault r ≡ v
  unfolding roster_fault
  says-scan (Ok done) a =
      first-all (script_fault r) (length r.scripts) (λ t h. pass-script t (λ k g. a.at t k (record { task = h; step = g })))
  says-scan (Err (WhileHeld t k)) a = finds t k _ a.0 (fault17 t k (breaks _ _ (unheld-of r t k) a.1)) refl
  says-scan (Err (LowCeiling t k)) a =
      finds t k _ a.0 (fault18 t k (of-unheld r t k a.1) (breaks _ _ (covered_of r t k) a.2)) refl
  says-scan (Err (NotInnermost t k)) a =
      finds t k _ a.0 (fault19 t k (of-unheld r t k a.1) (of-covered r t k a.2) (breaks _ _ (innermost-of r t k) a.3)) refl
  says-scan (Err (OtherTask t k)) a =
      finds t k _ a.0
      (fault20 t k (of-unheld r t k a.1) (of-covered r t k a.2) (of-innermost r t k a.3) (breaks _ _ (own_of r t k) a.4)) refl
  says-scan (Err NoSuchTask) a = absurd a
  says-scan (Err NoSuchObject) a = absurd a
  says-scan (Err BadLength) a = absurd a
  says-scan (Err BadMark) a = absurd a
  says-scan (Err BadCounts) a = absurd a
  says-scan (Err BadLayout) a = absurd a
  says-scan (Err BadValues) a = absurd a
  says-scan (Err (BadStep t k)) a = absurd a

-- the check answers exactly what is so
pub check-says : CheckSays
check-says s ok =
    let r = roster_of s in
    let scan = check-rules s (roster_fault r) ok refl in
    record { so = subst (Says r) scan (scan-says r); only = λ v a. sym scan ∙ says-scan r v a }
