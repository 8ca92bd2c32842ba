-- What the form gives, of every roster that passes it: counts, places, values and steps in range.
use Rattle.std.specs.Prelude.{Ok, Err}
use mathlib.Core.Path.{◌≡◌, refl, ap, sym, ◌∙◌}
use mathlib.Core.Bool.{Bool, true, cond, not, ◌&&◌}
use mathlib.Core.List.{List}
use Prim.Native.Nat.{ℕ, suc, ◌+◌, ◌≤◌, ◌<◌}
use borrow.Author.Tests.{ltb-true, ltb-false, not-false}
use lib.Dec.{eqb, ltb}
use lib.ListN.{length}
use Rattle.rules.specs.Limits.{task_limit, object_limit}
use Rattle.rules.specs.Priorities.{in_range}
use Rattle.rules.specs.Lists.{below}
use Rattle.rules.proofs.Choices.{and_left, and_right}
use Rattle.rules.proofs.LimitLaws.{Counted, counted-by}
use Rattle.format.specs.Limits.{task_row_size}
use Rattle.format.specs.Answers.{passed}
use Rattle.words.specs.Words.{byte_at}
use Rattle.format.specs.Format.{task_row, object_row, task_count, object_count, base_at, ceiling_at, start_at, length_at, part_at}
use Rattle.format.specs.Steps.{a_at, b_at, step_at, step_count, steps_of, step_in}
use Rattle.format.specs.Form.{length_good, mark_good, counts_kept, layout_good, values_good, task_row_good, object_row_good}
use Rattle.format.specs.Form.{is_step, unused_zero, names_listed, stands_right, step_good, step_form, steps_form}
use Rattle.format.specs.Form.{script_form, scripts_form, form_of}
use Rattle.format.specs.declared.Fault.TheVariants.{BadLength, BadMark, BadCounts, BadLayout, BadValues, BadStep}
use Rattle.format.proofs.TestLaws.{truth, past, by-test, below_at, first-at}
use Rattle.std.proofs.lemmas.Grind.{common_steps}
use Rattle.format.proofs.FormatLaws.{read_laws}
use Rattle.format.proofs.StepLaws.{steps-at, steps-past}
use Rattle.format.proofs.FormLaws.{form-6, script-inside, task-row-inside}

-- every rule of the form
pub record Formed (s : List ℕ) : Type 0 where
  pub size : length_good s ≡ true
  pub mark : mark_good s ≡ true
  pub counts : counts_kept s ≡ true
  pub layout : layout_good s ≡ true
  pub values : values_good s ≡ true
  pub steps : scripts_form s ≡ Ok tt

module _ (s : List ℕ) where
  pub formed : form_of s ≡ Ok tt → Formed s
  unfolding form_of
  formed e =
      let a = past (not (length_good s)) (Err BadLength) _ refl e in
      let b = past (not (mark_good s)) (Err BadMark) _ refl a.1 in
      let d = past (not (counts_kept s)) (Err BadCounts) _ refl b.1 in
      let f = past (not (layout_good s)) (Err BadLayout) _ refl d.1 in
      let g = past (not (values_good s)) (Err BadValues) _ refl f.1 in
      record {
        size = not-false _ a.0;
        mark = not-false _ b.0;
        counts = not-false _ d.0;
        layout = not-false _ f.0;
        values = not-false _ g.0;
        steps = g.1;
      }

  pub formed-passes : Formed s → form_of s ≡ Ok tt
  formed-passes r = sym (form-6 s r.size r.mark r.counts r.layout r.values) ∙ r.steps

module _ (s : List ℕ) (ok : form_of s ≡ Ok tt) where
  -- 13
  counted : Counted (task_count s) (object_count s)
  unfolding counts_kept
  counted = counted-by (task_count s) (object_count s) (formed s ok).counts

  pub tasks-some : 1 ≤ task_count s
  tasks-some = counted.some

  pub tasks-few : task_count s ≤ task_limit
  tasks-few = counted.tasks

  pub objects-few : object_count s ≤ object_limit
  objects-few = counted.objects

  -- 14
  pub part-inside : (t : ℕ) → t < task_count s → start_at s t + length_at s t ≤ length s
  part-inside t h = script-inside s (formed s ok).layout t h

  pub row_inside : (t : ℕ) → t < task_count s → task_row s t + task_row_size ≤ length s
  row_inside t h = task-row-inside s (formed s ok).layout t h

  -- 15
  pub base-good : (t : ℕ) → t < task_count s → in_range (base_at s t) ≡ true
  unfolding values_good task_row_good
  base-good t h =
      let e = and_left (below (task_count s) (task_row_good s)) (below (object_count s) (object_row_good s)) (formed s ok).values in
      and_left (in_range (base_at s t)) (eqb (byte_at s (task_row s t + 1)) 0) (below_at (task_row_good s) (task_count s) t e h)

  pub ceiling-good : (o : ℕ) → o < object_count s → in_range (ceiling_at s o) ≡ true
  unfolding values_good object_row_good
  ceiling-good o h =
      let e = and_right (below (task_count s) (task_row_good s)) (below (object_count s) (object_row_good s)) (formed s ok).values in
      and_left (in_range (ceiling_at s o)) (eqb (byte_at s (object_row s o + 1)) 0) (below_at (object_row_good s) (object_count s) o e h)

  -- 16
  pub step-good : (t k : ℕ) → t < task_count s → k < step_count (part_at s t) →
      step_good (task_count s) (object_count s) (eqb (suc k) (step_count (part_at s t))) (a_at (part_at s t) k) (b_at (part_at s t) k)
      (step_at (part_at s t) k) ≡ true
  unfolding scripts_form script_form steps_form step_form
  step-good t k h g =
      let part = part_at s t in
      let e = first-at (script_form s) (task_count s) (formed s ok).steps t h in
      let f = first-at (step_form (task_count s) (object_count s) t part) (step_count part) e k g in
      by-test (step_good (task_count s) (object_count s) (eqb (suc k) (step_count part)) (a_at part k) (b_at part k) (step_at part k))
      (λ x. x)
      (λ x. absurd (truth (sym (ap passed f) ∙ ap (λ (b : Bool). passed (cond b (Ok tt) (Err (BadStep t k)))) x)))

  -- each step's numbers, and those of the script's end
  pub step-listed : (t : ℕ) → t < task_count s → (k : ℕ) →
      names_listed (task_count s) (object_count s) (step_in (steps_of (part_at s t)) k) ≡ true
  unfolding step_good names_listed
  step-listed t h k =
      let part = part_at s t in
      let x = step_at part k in
      let a = is_step x && unused_zero (a_at part k) (b_at part k) x in
      let b = names_listed (task_count s) (object_count s) x in
      by-test (ltb k (step_count part))
      (λ e.
      ap (names_listed (task_count s) (object_count s)) (steps-at part k (ltb-true k _ e)) ∙
      and_right a b (and_left (a && b) (stands_right (eqb (suc k) (step_count part)) x) (step-good t k h (ltb-true k _ e))))
      (λ e. ap (names_listed (task_count s) (object_count s)) (steps-past part k (ltb-false k _ e)))

  -- the same of the part that was lent
  pub part-listed : (t : ℕ) (part : List ℕ) → t < task_count s → part ≡ part_at s t → (k : ℕ) →
      names_listed (task_count s) (object_count s) (step_in (steps_of part) k) ≡ true
  part-listed t part h e k =
      ap (λ (p : List ℕ). names_listed (task_count s) (object_count s) (step_in (steps_of p) k)) e ∙ step-listed t h k

-- for a caller's proof: what a roster that has its form has room for, and where its scripts and rows stand
pub ruleset few_laws = (read_laws, tasks-few, objects-few)

pub ruleset inside_laws = (common_steps, part-inside, row_inside)
