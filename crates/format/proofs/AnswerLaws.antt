-- Laws of the roster's answers, by the ways of the code: one script's fault, the check, and a task's script.
use Rattle.std.specs.Prelude.{Ok, Err}
use mathlib.Core.Path.{◌≡◌, ap, sym, ◌∙◌}
use mathlib.Core.Bool.{Bool, cond}
use mathlib.Core.List.{List}
use Prim.Native.Nat.{ℕ, ◌<◌}
use borrow.Author.Tests.{ltb-true}
use lib.Dec.{ltb}
use Rattle.format.specs.Answers.{Verdict, passed}
use Rattle.format.specs.Format.{task_count, base_at, part_at}
use Rattle.format.specs.Steps.{steps_of}
use Rattle.format.specs.Roster.{roster_of, base_of, script_of}
use Rattle.format.specs.Form.{form_of, script_answer}
use Rattle.format.specs.Check.{top_of, top_at, steps_fault, script_fault, roster_fault, check_of}
use Rattle.format.specs.declared.Fault.TheVariants.{NoSuchTask}
use Rattle.format.proofs.TestLaws.{truth, by-test, passed_is}
use Rattle.format.proofs.FormatLaws.{base-listed, script-listed}

module _ (s : List ℕ) where
  pub script-top : (t : ℕ) (part : List ℕ) (base top : ℕ) → t < task_count s → part ≡ part_at s t → base ≡ base_at s t →
      top ≡ top_of t base (steps_of part) → top ≡ top_at (roster_of s) t
  unfolding top_at
  script-top t part base top h e f g =
      let steps : steps_of part ≡ script_of (roster_of s) t = ap steps_of e ∙ sym (script-listed s t h) in
      g ∙ (ap (λ (b : ℕ). top_of t b (steps_of part)) (f ∙ sym (base-listed s t h)) ∙ ap (top_of t (base_of (roster_of s) t)) steps)

  pub script-fault : (t : ℕ) (part : List ℕ) (top : ℕ) (v : Verdict) → t < task_count s → part ≡ part_at s t →
      top ≡ top_at (roster_of s) t →
      v ≡ steps_fault (roster_of s).ceilings top t (steps_of part) → v ≡ script_fault (roster_of s) t
  unfolding script_fault
  script-fault t part top v h e f g =
      let steps : steps_of part ≡ script_of (roster_of s) t = ap steps_of e ∙ sym (script-listed s t h) in
      g ∙ (ap (λ (p : ℕ). steps_fault (roster_of s).ceilings p t (steps_of part)) f ∙
      ap (steps_fault (roster_of s).ceilings (top_at (roster_of s) t) t) steps)

  -- a fault of the form is the check's, and a script's
  pub check-rules : (w : Verdict) → form_of s ≡ Ok tt → w ≡ roster_fault (roster_of s) → w ≡ check_of s
  unfolding check_of
  check-rules w e g = g ∙ sym (ap (λ (x : Verdict). cond (passed x) (roster_fault (roster_of s)) x) e)

  answer-then : (t : ℕ) → form_of s ≡ Ok tt → script_answer s t ≡ cond (ltb t (task_count s)) (Ok tt) (Err NoSuchTask)
  unfolding script_answer
  answer-then t e = ap (λ (x : Verdict). cond (passed x) (cond (ltb t (task_count s)) (Ok tt) (Err NoSuchTask)) x) e

  -- a script that is answered for is that of a task, of a roster that has its form
  pub answered-form : (t : ℕ) → script_answer s t ≡ Ok tt → form_of s ≡ Ok tt
  unfolding script_answer
  answered-form t e =
      by-test (passed (form_of s)) (λ g. passed_is (form_of s) g) (λ g.
      absurd (truth (sym (ap passed e) ∙
      (ap (λ (x : Bool). passed (cond x (cond (ltb t (task_count s)) (Ok tt) (Err NoSuchTask)) (form_of s))) g ∙ g))))

  pub answered-task : (t : ℕ) → script_answer s t ≡ Ok tt → t < task_count s
  answered-task t e =
      by-test (ltb t (task_count s)) (λ g. ltb-true t (task_count s) g) (λ g.
      absurd (truth (ap passed (sym e ∙ (answer-then t (answered-form t e) ∙
      ap (λ (x : Bool). cond x (Ok tt) (Err NoSuchTask)) g)))))
