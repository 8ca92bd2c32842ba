-- Laws of the form's tests, by the ways of the code: each rule from what was read.
use Rattle.format.specs.Answers.{Verdict}
use Rattle.std.specs.Prelude.{Ok, Err}
use mathlib.Core.Path.{◌≡◌, refl, ap, sym, ◌∙◌}
use mathlib.Core.Bool.{Bool, true, false, cond}
use mathlib.Core.List.{List}
use Prim.Native.Nat.{ℕ, zero, suc, ◌+◌, ◌*◌, ◌%◌, ◌≤◌, ◌<◌}
use native.Mathlib.Omega.{arith}
use native.Mathlib.Numerals.{add-one}
use borrow.Author.Tests.{eqb-true, eqb-false}
use lib.Dec.{eqb}
use lib.ListN.{length}
use Rattle.rules.specs.Lists.{below}
use Rattle.rules.proofs.Choices.{and_left, and_right}
use Rattle.format.specs.Limits.{task_row_size, step_size}
use Rattle.format.specs.Format.{trailer, task_count, object_count, task_table, object_table}
use Rattle.format.specs.Format.{task_row, object_row, start_at, length_at, part_at}
use Rattle.format.specs.Steps.{a_at, b_at, step_count, steps_of, step_in}
use Rattle.format.specs.Form.{length_good, mark_good, counts_kept, tables_good, scripts_end, laid_from, script_laid, scripts_laid}
use Rattle.format.specs.Form.{layout_good, values_good, steps_form, script_form, scripts_form, form_of}
use Rattle.format.specs.Form.{step_good, step_form}
use Rattle.format.specs.declared.Step.{Step}
use Rattle.format.specs.declared.Fault.TheVariants.{BadLength, BadMark, BadCounts, BadLayout, BadValues, BadStep}
use Rattle.format.proofs.TestLaws.{and_no, and_yes, by-test}
use Rattle.format.proofs.TestLaws.{below_at, below_fails, below_more}
use Rattle.format.proofs.StepLaws.{steps-at}

-- 16
module _ (n m t : ℕ) (part : List ℕ) (k : ℕ) (x : Step) (there : k < step_count part) (read : x ≡ step_in (steps_of part) k) where
  here : Bool
  here = step_good n m (eqb (suc k) (step_count part)) (a_at part k) (b_at part k) x

  same : step_form n m t part k ≡ cond here (Ok tt) (Err (BadStep t k))
  unfolding step_form here
  same =
      ap (λ (y : Step). cond (step_good n m (eqb (suc k) (step_count part)) (a_at part k) (b_at part k) y) (Ok tt) (Err (BadStep t k)))
      (sym (read ∙ steps-at part k there))

  pub form-good : step_good n m (eqb (suc k) (step_count part)) (a_at part k) (b_at part k) x ≡ true → Ok tt ≡ step_form n m t part k
  unfolding here
  form-good e = sym (same ∙ ap (λ (y : Bool). cond y (Ok tt) (Err (BadStep t k))) e)

  pub form-broken : step_good n m (eqb (suc k) (step_count part)) (a_at part k) (b_at part k) x ≡ false →
      Err (BadStep t k) ≡ step_form n m t part k
  unfolding here
  form-broken e = sym (same ∙ ap (λ (y : Bool). cond y (Ok tt) (Err (BadStep t k))) e)

module _ (s : List ℕ) where
  -- the loop over the scripts' places: where the first t end, all being laid; a turn that finds one that is not, one that goes on, the end
  pub record LaidTo (t end : ℕ) : Type 0 where
    pub ends : end ≡ scripts_end s t
    pub laid : below t (script_laid s) ≡ true
    pub low : end ≤ 65535 * t

  pub laid-starts : LaidTo 0 0
  unfolding scripts_end below
  laid-starts = record { ends = refl; laid = refl; low = omega arith }

  laid-here : (t end : ℕ) (b : Bool) → LaidTo t end → b ≡ laid_from s end t → script_laid s t ≡ b
  unfolding script_laid
  laid-here t end b r e = sym (e ∙ ap (λ (x : ℕ). laid_from s x t) r.ends)

  pub laid-stops : (n t end : ℕ) (b : Bool) → LaidTo t end → t < n → n ≡ task_count s → b ≡ laid_from s end t → b ≡ false →
      false ≡ scripts_laid s
  unfolding scripts_laid
  laid-stops n t end b r h e f g =
      and_no _ _ (sym (below_fails (script_laid s) (task_count s) t (omega arith) (laid-here t end b r f ∙ g)))

  pub laid-goes : (t end size : ℕ) (b : Bool) → LaidTo t end → b ≡ laid_from s end t → b ≡ true → size ≡ length_at s t →
      size < 65536 → LaidTo (t + 1) (end + size)
  unfolding scripts_end
  laid-goes t end size b r e f g h =
      let z : end + size ≡ scripts_end s t + length_at s t = (let i = r.ends in cc) in
      record {
        ends = z ∙ ap (scripts_end s) (sym (add-one t));
        laid =
            ap (λ (n : ℕ). below n (script_laid s)) (add-one t) ∙ below_more (script_laid s) t r.laid (laid-here t end b r e ∙ f);
        low = omega (arith, r.low);
      }

  pub laid-ends : (n t end table : ℕ) → LaidTo t end → n ≡ task_count s → t ≡ n → table ≡ task_table s →
      eqb end table ≡ scripts_laid s
  unfolding scripts_laid
  laid-ends n t end table r e g h =
      let z : t ≡ task_count s = g ∙ e in
      let y : eqb end table ≡ eqb (scripts_end s (task_count s)) (task_table s) = (let i = r.ends in cc) in
      and_yes _ _ _ (ap (λ (x : ℕ). below x (script_laid s)) (sym z) ∙ r.laid) y

  pub script-form : (n m t : ℕ) (part : List ℕ) (v : Verdict) → n ≡ task_count s → m ≡ object_count s → part ≡ part_at s t →
      v ≡ steps_form n m t part → v ≡ script_form s t
  unfolding script_form
  script-form n m t part v e f g h = cc

  -- the scripts of more tasks end no earlier
  ends-rise : (t n : ℕ) → t ≤ n → scripts_end s t ≤ scripts_end s n
  unfolding scripts_end
  ends-rise t zero h = ap≤ (let z : t ≡ 0 = omega arith in z)
    where
      ap≤ : t ≡ 0 → scripts_end s t ≤ scripts_end s 0
      ap≤ e = omega (arith, ap (scripts_end s) e)
  ends-rise t (suc n) h =
      by-test (eqb t (suc n))
      (λ g. omega (arith, ap (scripts_end s) (eqb-true t (suc n) g)))
      (λ g. let d : t ≡ suc n → ⊥ = eqb-false t (suc n) g in omega (arith, ends-rise t n (omega arith)))

  -- what the layout says of a script: it stands inside the roster, and is whole steps
  module _ (good : layout_good s ≡ true) where
    pub tables-laid : (task_row s (task_count s) ≡ object_table s) × (object_row s (object_count s) ≡ trailer s)
    unfolding layout_good tables_good
    tables-laid =
        let e : tables_good s ≡ true = and_left (tables_good s) (scripts_laid s) good in
        let a = eqb (task_row s (task_count s)) (object_table s) in
        let b = eqb (object_row s (object_count s)) (trailer s) in
        (eqb-true _ _ (and_left a b e), eqb-true _ _ (and_right a b e))

    scripts-are : scripts_laid s ≡ true
    unfolding layout_good
    scripts-are = and_right (tables_good s) (scripts_laid s) good

    pub script-starts : (t : ℕ) → t < task_count s → start_at s t ≡ scripts_end s t
    unfolding scripts_laid script_laid laid_from
    script-starts t h =
        let e = below_at (script_laid s) (task_count s) t (and_left (below (task_count s) (script_laid s)) _ scripts-are) h in
        eqb-true _ _ (and_left (eqb (start_at s t) (scripts_end s t)) (eqb (length_at s t % step_size) 0) e)

    pub script-whole : (t : ℕ) → t < task_count s → length_at s t % step_size ≡ 0
    unfolding scripts_laid script_laid laid_from
    script-whole t h =
        let e = below_at (script_laid s) (task_count s) t (and_left (below (task_count s) (script_laid s)) _ scripts-are) h in
        eqb-true _ _ (and_right (eqb (start_at s t) (scripts_end s t)) (eqb (length_at s t % step_size) 0) e)

    pub scripts-close : scripts_end s (task_count s) ≡ task_table s
    unfolding scripts_laid
    scripts-close =
        eqb-true _ _ (and_right (below (task_count s) (script_laid s)) (eqb (scripts_end s (task_count s)) (task_table s)) scripts-are)

    pub script-inside : (t : ℕ) → t < task_count s → start_at s t + length_at s t ≤ length s
    unfolding scripts_end task_row object_row trailer
    script-inside t h =
        omega (arith, script-starts t h, ends-rise (suc t) (task_count s) h, scripts-close, tables-laid.0, tables-laid.1)

    pub task-row-inside : (t : ℕ) → t < task_count s → task_row s t + task_row_size ≤ length s
    unfolding task_row object_row trailer
    task-row-inside t h = omega (arith, tables-laid.0, tables-laid.1)

-- the ways of the form: each rule is kept up to the one that is not
module _ (s : List ℕ) where
  pub form-1 : length_good s ≡ false → Err BadLength ≡ form_of s
  unfolding form_of
  form-1 e1 = simp e1

  pub form-2 : length_good s ≡ true → mark_good s ≡ false → Err BadMark ≡ form_of s
  unfolding form_of
  form-2 e1 e2 = simp (e1, e2)

  pub form-3 : length_good s ≡ true → mark_good s ≡ true → counts_kept s ≡ false → Err BadCounts ≡ form_of s
  unfolding form_of
  form-3 e1 e2 e3 = simp (e1, e2, e3)

  pub form-4 : length_good s ≡ true → mark_good s ≡ true → counts_kept s ≡ true → layout_good s ≡ false → Err BadLayout ≡ form_of s
  unfolding form_of
  form-4 e1 e2 e3 e4 = simp (e1, e2, e3, e4)

  pub form-5 : length_good s ≡ true → mark_good s ≡ true → counts_kept s ≡ true → layout_good s ≡ true → values_good s ≡ false →
      (Err BadValues) ≡ form_of s
  unfolding form_of
  form-5 e1 e2 e3 e4 e5 = simp (e1, e2, e3, e4, e5)

  pub form-6 : length_good s ≡ true → mark_good s ≡ true → counts_kept s ≡ true → layout_good s ≡ true → values_good s ≡ true →
      scripts_form s ≡ form_of s
  unfolding form_of
  form-6 e1 e2 e3 e4 e5 = simp (e1, e2, e3, e4, e5)
