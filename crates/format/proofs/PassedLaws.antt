-- What a roster that passes gives of each task and step: counts, bases, ceilings and values in range, and the rules at each position.
use Rattle.std.specs.Prelude.{Ok}
use mathlib.Core.Path.{◌≡◌, refl, ap, sym, ◌∙◌}
use mathlib.Core.Bool.{Bool, true, cond}
use mathlib.Core.List.{List}
use Prim.Native.Nat.{ℕ, zero, suc, ◌≤◌, ◌<◌}
use native.Mathlib.Omega.{arith}
use lib.ListN.{length}
use Rattle.rules.specs.Limits.{last_delay}
use Rattle.rules.specs.Priorities.{in_range}
use Rattle.rules.specs.Fresh.{Startable}
use Rattle.rules.specs.Lists.{all_of}
use Rattle.rules.specs.declared.Priority.{Priority}
use Rattle.rules.proofs.Choices.{and-make}
use Rattle.words.specs.Words.{Bytes, tabulate}
use Rattle.format.specs.Answers.{passed, Verdict}
use Rattle.format.specs.Format.{task_count, object_count, base_at, ceiling_at}
use Rattle.format.specs.Steps.{step_in}
use Rattle.format.specs.Roster.{Roster, roster_of, setup_of, script_of}
use Rattle.format.specs.Form.{names_listed, form_of}
use Rattle.format.specs.Check.{held_before, top_at, fault_in, steps_fault, script_fault, roster_fault, check_of, Passes}
use Rattle.format.specs.declared.Step.{Step}
use Rattle.format.specs.declared.Step.TheVariants.{Delay, Set}
use Rattle.format.proofs.TestLaws.{by-test, passed_is, first-at}
use Rattle.format.proofs.FormatLaws.{script-listed, base-count, ceiling-count, script-count}
use Rattle.format.proofs.FormedLaws.{tasks-some, tasks-few, objects-few, base-good, ceiling-good, step-listed}
use Rattle.format.proofs.WalkLaws.{Clean, clean}
use Rattle.format.proofs.ScriptLaws.{script-delay, script-set}

-- a test of a whole tabulated list
all-tabulated : (f : ℕ → Bool) (n : ℕ) (g : ℕ → ℕ) → ((i : ℕ) → i < n → f (g i) ≡ true) → all_of f (tabulate n g) ≡ true
unfolding all_of tabulate
all-tabulated f zero g h = refl
all-tabulated f (suc n) g h =
    and-make (f (g 0)) (all_of f (tabulate n (λ i. g (suc i)))) (h 0 (omega arith))
    (all-tabulated f n (λ i. g (suc i)) (λ i e. h (suc i) (omega arith)))

-- what a roster that passes keeps to
pub record Orderly (r : Roster) : Type 0 where
  pub start : Startable (setup_of r)
  pub rules : (t k : ℕ) → t < length r.bases → k ≤ length (script_of r t) →
      Clean r.ceilings (top_at r t) (held_before (script_of r t) k) t (step_in (script_of r t) k)
  pub names : (t k : ℕ) → t < length r.bases → names_listed (length r.bases) (length r.ceilings) (step_in (script_of r t) k) ≡ true
  pub delays : (t k d : ℕ) → step_in (script_of r t) k ≡ Delay d → d ≤ last_delay
  pub sets : (t k u : ℕ) (p : Priority) → step_in (script_of r t) k ≡ Set u p → in_range p.0 ≡ true

module _ (s : List ℕ) (ok : Passes s) where
  pub passes-form : form_of s ≡ Ok tt
  unfolding check_of
  passes-form =
      by-test (passed (form_of s)) (λ e. passed_is (form_of s) e) (λ e.
      let k : form_of s ≡ (Ok tt) = sym (ap (λ (b : Bool). cond b (roster_fault (roster_of s)) (form_of s)) e) ∙ ok in k)

  passes-rules : roster_fault (roster_of s) ≡ Ok tt
  unfolding check_of
  passes-rules = sym (ap (λ (v : Verdict). cond (passed v) (roster_fault (roster_of s)) v) passes-form) ∙ ok

  -- counts, bases and ceilings in range
  pub passes-starts : Startable (setup_of (roster_of s))
  unfolding roster_of
  passes-starts = record {
    some = omega (arith, base-count s, tasks-some s passes-form);
    count = omega (arith, base-count s, tasks-few s passes-form);
    objects = omega (arith, ceiling-count s, objects-few s passes-form);
    bases = all-tabulated in_range (task_count s) (base_at s) (base-good s passes-form);
    ceilings = all-tabulated in_range (object_count s) (ceiling_at s) (ceiling-good s passes-form);
  }

  module _ (t k : ℕ) (h : t < length (roster_of s).bases) where
    here : t < task_count s
    here = omega (arith, base-count s)

    -- the rules at each position, the script's end too
    passes-clean : k ≤ length (script_of (roster_of s) t) →
        Clean (roster_of s).ceilings (top_at (roster_of s) t) (held_before (script_of (roster_of s) t) k) t
        (step_in (script_of (roster_of s) t) k)
    unfolding roster_fault script_fault steps_fault fault_in
    passes-clean l =
        let r = roster_of s in
        let steps = script_of r t in
        let whole = first-at (script_fault r) (length r.scripts) passes-rules t (omega (arith, script-count s, here)) in
        clean r.ceilings (top_at r t) (held_before steps k) t k (step_in steps k)
        (first-at (fault_in r.ceilings (top_at r t) t steps) (suc (length steps)) whole k (omega arith))

    -- each step's numbers
    passes-names : names_listed (length (roster_of s).bases) (length (roster_of s).ceilings) (step_in (script_of (roster_of s) t) k) ≡ true
    passes-names =
        let x = step_in (script_of (roster_of s) t) k in
        ap (λ (n : ℕ). names_listed n (length (roster_of s).ceilings) x) (base-count s) ∙
        (ap (λ (m : ℕ). names_listed (task_count s) m x) (ceiling-count s) ∙
        (ap (λ (l : List Step). names_listed (task_count s) (object_count s) (step_in l k)) (script-listed s t here) ∙
        step-listed s passes-form t here k))

  pub orderly : Bytes s → Orderly (roster_of s)
  orderly y = record {
    start = passes-starts;
    rules = passes-clean;
    names = passes-names;
    delays = script-delay s y;
    sets = script-set s;
  }
