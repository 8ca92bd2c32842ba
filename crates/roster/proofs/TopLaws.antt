-- Laws of the tops that the form keeps for the check.
use Rattle.std.specs.Prelude.{Ok, Err}
use mathlib.Core.Path.{◌≡◌, refl, ap, sym, ◌∙◌, subst}
use mathlib.Core.Bool.{true}
use mathlib.Core.List.{List}
use Prim.Native.Nat.{ℕ, ◌+◌, ◌≤◌, ◌<◌}
use native.Mathlib.Omega.{arith}
use native.Mathlib.Nat.{not-suc-le-zero}
use borrow.Author.Tests.{eqb-true, eqb-false}
use lib.Dec.{eqb}
use lib.ListN.{length, get_or, set, length-set}
use lib.Seq.{get_or-set_same, get_or-set_other}
use Rattle.rules.specs.Limits.{task_limit}
use Rattle.rules.specs.declared.Priority.{Priority}
use Rattle.rules.proofs.LimitLaws.{counted-by}
use Rattle.format.specs.Format.{task_count, object_count, base_at, part_at}
use Rattle.format.specs.Roster.{roster_of}
use Rattle.format.specs.Form.{counts_kept, steps_form, script_form, scripts_form}
use Rattle.format.specs.Answers.{first}
use Rattle.format.specs.Readers.{found_by}
use Rattle.format.specs.Steps.{steps_of}
use Rattle.format.specs.declared.Fault.{Fault}
use Rattle.format.specs.Check.{top_of, top_at}
use Rattle.format.proofs.TestLaws.{by-test, turn-finds, turn-passes, turns-pass}
use Rattle.format.proofs.FormLaws.{script-form}
use Rattle.format.proofs.AnswerLaws.{script-top}
use Rattle.format.proofs.ReaderLaws.{found-ok, found-err}
use Rattle.roster.specs.Tops.{ToppedTo, Topped}

abbrev pub none : Priority
none = record { 0 = 0 }

module _ (s : List ℕ) where
  -- the loop over the scripts: none yet, one more, all
  pub topped-none : (tops : List Priority) → ToppedTo s 0 tops
  topped-none tops = record { room = omega arith; at = λ t h. absurd (not-suc-le-zero h) }

  pub topped-more : (t : ℕ) (top : Priority) (tops : List Priority) → ToppedTo s t tops → t < length tops → top.0 ≡ top_at (roster_of s) t →
      ToppedTo s (t + 1) (set tops t top)
  topped-more t top tops own h e =
      record {
        room = omega (arith, length-set tops t top);
        at =
            λ u g.
            by-test (eqb u t)
            (λ f.
            ap (λ (i : ℕ). (get_or (set tops t top) i none).0) (eqb-true u t f) ∙
            (ap (λ (p : Priority). p.0) (get_or-set_same tops t top none h) ∙
            (e ∙ ap (top_at (roster_of s)) (sym (eqb-true u t f)))))
            (λ f.
            let d : u ≡ t → ⊥ = eqb-false u t f in
            ap (λ (p : Priority). p.0) (get_or-set_other tops t u top none d) ∙ own.at u (omega arith));
      }

  -- the loop over the scripts, for the first fault of their form and the tops of the tasks
  pub record FormedTo (t : ℕ) (tops : List Priority) : Type 0 where
    pub passed : first t (script_form s) ≡ Ok tt
    pub topped : ToppedTo s t tops
    pub room : length tops ≡ task_limit

  pub forms-start : (tops : List Priority) → length tops ≡ task_limit → FormedTo 0 tops
  unfolding first
  forms-start tops e = record { passed = refl; topped = topped-none tops; room = e }

  -- a turn, of the script of task t, of n tasks and m objects
  module _ (t n m base : ℕ) (part : List ℕ) (tops : List Priority) (r : FormedTo t tops) (low : t < task_count s) (e : n ≡ task_count s)
      (f : m ≡ object_count s) (g : part ≡ part_at s t) (h : base ≡ base_at s t) where
    form-here : steps_form n m t part ≡ script_form s t
    form-here = script-form s n m t part (steps_form n m t part) e f g refl

    pub forms-stop : (x : Fault) (p : Priority) → Err x ≡ found_by (steps_form n m t part) p → scripts_form s ≡ Err x
    unfolding scripts_form
    forms-stop x p i = sym (turn-finds (script_form s) (task_count s) t x low r.passed (found-err _ x p i ∙ form-here))

    pub forms-go : (p : Priority) → task_count s ≤ task_limit →
        Ok p ≡ found_by (steps_form n m t part) (record { 0 = top_of t base (steps_of part) }) → FormedTo (t + 1) (set tops t p)
    forms-go p few i =
        let here = found-ok (steps_form n m t part) (record { 0 = top_of t base (steps_of part) }) p i in
        record {
          passed = turn-passes (script_form s) t r.passed (here.0 ∙ form-here);
          topped =
              topped-more t p tops r.topped (omega (arith, r.room, low, few))
              (script-top s t part base p.0 low g h (ap (λ (q : Priority). q.0) here.1));
          room = length-set tops t p ∙ r.room;
        }

  pub forms-end : (t n : ℕ) (tops : List Priority) → FormedTo t tops → n ≡ task_count s → t ≡ n →
      (scripts_form s ≡ Ok tt) × Topped s tops
  unfolding scripts_form
  forms-end t n tops r e f =
      (sym (turns-pass (script_form s) (task_count s) t (f ∙ e) r.passed), subst (λ (i : ℕ). ToppedTo s i tops) (f ∙ e) r.topped)

  -- room for all
  pub tops_fit : counts_kept s ≡ true → task_count s ≤ task_limit
  unfolding counts_kept
  tops_fit e = (counted-by (task_count s) (object_count s) e).tasks
