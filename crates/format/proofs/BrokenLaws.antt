-- The form answers 16 exactly where 11 to 15 are kept and a step is broken, and names the first; it passes exactly where all are kept.
use Rattle.std.specs.Prelude.{Ok, Err}
use mathlib.Core.Path.{◌≡◌, ap, sym, ◌∙◌, subst}
use mathlib.Core.Bool.{Bool, true, false, cond}
use mathlib.Core.List.{List}
use Prim.Native.Nat.{ℕ, ◌<◌}
use native.Mathlib.Omega.{arith}
use Rattle.format.specs.Answers.{number_of, task_of, position_of, passed, Verdict}
use Rattle.format.specs.Format.{task_count, object_count, part_at}
use Rattle.format.specs.Steps.{step_count}
use Rattle.format.specs.Form.{length_good, mark_good, counts_kept, layout_good, values_good}
use Rattle.format.specs.Form.{step_form, steps_form, script_form, scripts_form, form_of}
use Rattle.format.specs.Broken.{step_unbroken, Laid, FirstBroken, AllUnbroken, FormSays}
use Rattle.format.specs.declared.Fault.TheVariants.{BadLength, BadMark, BadCounts, BadLayout, BadValues, BadStep}
use Rattle.format.proofs.TestLaws.{truth, by-test, first-at, first-all, first_found, first-names}
use Rattle.format.proofs.FormLaws.{form-1, form-2, form-3, form-4, form-5, form-6}
use Rattle.format.proofs.FormedLaws.{formed, formed-passes}

module _ (s : List ℕ) where
  form_at : ℕ → ℕ → Verdict
  form_at t k = step_form (task_count s) (object_count s) t (part_at s t) k

  unbroken-of : (t k : ℕ) → form_at t k ≡ Ok tt → step_unbroken s t k ≡ true
  unfolding form_at step_form
  unbroken-of t k e =
      by-test (step_unbroken s t k) (λ x. x) (λ x.
      absurd (truth (sym (ap passed e) ∙ ap (λ (b : Bool). passed (cond b (Ok tt) (Err (BadStep t k)))) x)))

  of-unbroken : (t k : ℕ) → step_unbroken s t k ≡ true → form_at t k ≡ Ok tt
  unfolding form_at step_form
  of-unbroken t k e = ap (λ (b : Bool). cond b (Ok tt) (Err (BadStep t k))) e

  of-broken : (t k : ℕ) → step_unbroken s t k ≡ false → form_at t k ≡ Err (BadStep t k)
  unfolding form_at step_form
  of-broken t k e = ap (λ (b : Bool). cond b (Ok tt) (Err (BadStep t k))) e

  script-unbroken : (t : ℕ) → script_form s t ≡ Ok tt → (k : ℕ) → k < step_count (part_at s t) → step_unbroken s t k ≡ true
  unfolding script_form steps_form form_at
  script-unbroken t e k h = unbroken-of t k (first-at (form_at t) (step_count (part_at s t)) e k h)

  unbroken-script : (t : ℕ) → ((k : ℕ) → k < step_count (part_at s t) → step_unbroken s t k ≡ true) → script_form s t ≡ Ok tt
  unfolding script_form steps_form form_at
  unbroken-script t h = first-all (form_at t) (step_count (part_at s t)) (λ k g. of-unbroken t k (h k g))

  -- 0
  form-passes : form_of s ≡ Ok tt → Laid s × AllUnbroken s
  unfolding scripts_form
  form-passes e =
      let f = formed s e in (
        record { size = f.size; mark = f.mark; counts = f.counts; layout = f.layout; values = f.values },
        record { at = λ t k h g. script-unbroken t (first-at (script_form s) (task_count s) f.steps t h) k g },
      )

  passes-form : Laid s → AllUnbroken s → form_of s ≡ Ok tt
  unfolding scripts_form
  passes-form l a =
      formed-passes s (record {
        size = l.size;
        mark = l.mark;
        counts = l.counts;
        layout = l.layout;
        values = l.values;
        steps = first-all (script_form s) (task_count s) (λ t h. unbroken-script t (λ k g. a.at t k h g));
      })

  -- 16: a roster whose first broken step is the step at k of task t is answered so
  broken-named : (t k : ℕ) → Laid s → FirstBroken s t k → form_of s ≡ Err (BadStep t k)
  unfolding scripts_form script_form steps_form form_at
  broken-named t k l b =
      let here : script_form s t ≡ Err (BadStep t k) =
      first_found (form_at t) (step_count (part_at s t)) k b.step (first-all (form_at t) k (λ j h. of-unbroken t j (b.steps j h)))
      (ap passed (of-broken t k b.broken)) ∙ of-broken t k b.broken in
      sym (form-6 s l.size l.mark l.counts l.layout l.values) ∙
      (first_found (script_form s) (task_count s) t b.task
      (first-all (script_form s) t (λ u h. unbroken-script u (λ j g. b.tasks u j h g))) (ap passed here) ∙ here)

  -- and what is answered is so
  named-broken : Laid s → passed (form_of s) ≡ false → (t : ℕ) × (k : ℕ) × (form_of s ≡ Err (BadStep t k)) × FirstBroken s t k
  unfolding scripts_form script_form steps_form form_at
  named-broken l e =
      let f = form-6 s l.size l.mark l.counts l.layout l.values in
      let a = first-names (script_form s) (task_count s) (ap passed f ∙ e) in
      let t = a.0 in
      let b = first-names (form_at t) (step_count (part_at s t)) (ap passed (a.2 ∙ f) ∙ e) in
      let k = b.0 in
      let wrong : step_unbroken s t k ≡ false =
      by-test (step_unbroken s t k)
      (λ x. absurd (truth (sym (ap passed (of-unbroken t k x)) ∙ (ap passed (b.2 ∙ (a.2 ∙ f)) ∙ e))))
      (λ x. x) in (
        t,
        k,
        sym (sym (of-broken t k wrong) ∙ (b.2 ∙ (a.2 ∙ f))),
        record {
          task = a.1;
          step = b.1;
          broken = wrong;
          tasks = λ u j h g. script-unbroken u (first-at (script_form s) t a.3 u h) j g;
          steps = λ j h. unbroken-of t j (first-at (form_at t) k b.3 j h);
        },
      )

  -- a roster that is answered 16 keeps 11 to 15
  laid_of : (t k : ℕ) → form_of s ≡ Err (BadStep t k) → Laid s
  laid_of t k e =
      by-test (length_good s) (λ a. by-test (mark_good s) (λ b. by-test (counts_kept s) (λ c. by-test (layout_good s) (λ d.
      by-test (values_good s) (λ f. record { size = a; mark = b; counts = c; layout = d; values = f })
      (λ x. other (Err BadValues) (form-5 s a b c d x) (omega arith))) (λ x. other (Err BadLayout) (form-4 s a b c x) (omega arith)))
      (λ x. other (Err BadCounts) (form-3 s a b x) (omega arith))) (λ x. other (Err BadMark) (form-2 s a x) (omega arith)))
      (λ x. other (Err BadLength) (form-1 s x) (omega arith))
    where
      other : {A : Type 0} (v : Verdict) → v ≡ form_of s → number_of v < 16 → A
      other v f h = absurd (omega (arith, h, ap number_of (f ∙ e)))

  named-first : (t k : ℕ) → form_of s ≡ Err (BadStep t k) → Laid s × FirstBroken s t k
  named-first t k e =
      let l = laid_of t k e in
      let b = named-broken l (ap passed e) in
      let same = sym b.2 ∙ e in
      (l, subst (λ (u : ℕ). FirstBroken s u k) (ap task_of same) (subst (FirstBroken s b.0) (ap position_of same) b.3))

-- the form answers exactly what is so
pub form-says : FormSays
form-says s =
    record {
      passes = (form-passes s, λ a. passes-form s a.0 a.1);
      names = λ t k. (named-first s t k, λ a. broken-named s t k a.0 a.1);
    }
