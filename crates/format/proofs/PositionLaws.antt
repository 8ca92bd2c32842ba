-- The step that the form or the check names lies within the roster, so that its position is small.
use Rattle.std.specs.Prelude.{Ok, Err}
use mathlib.Core.Path.{◌≡◌, ap, sym}
use mathlib.Core.Bool.{Bool, true, false, cond, not}
use mathlib.Core.List.{List}
use Prim.Native.Nat.{ℕ, zero, suc, ◌≤◌, ◌<◌}
use native.Mathlib.Omega.{arith}
use borrow.Author.Tests.{leb-true}
use lib.Dec.{leb, eqb}
use lib.ListN.{length, drop, length-take, length-drop}
use Rattle.rules.proofs.Choices.{and_right}
use Rattle.rules.specs.Limits.{smallest_roster, largest_roster}
use Rattle.format.specs.Answers.{passed, position_of, first, Verdict}
use Rattle.format.specs.Format.{task_count, object_count, start_at, length_at, part_at}
use Rattle.format.specs.Steps.{a_at, b_at, step_at, step_count, step_in}
use Rattle.format.specs.Roster.{roster_of, script_of}
use Rattle.format.specs.Form.{length_good, mark_good, counts_kept, layout_good, values_good}
use Rattle.format.specs.Form.{step_good, step_form, steps_form, script_form, scripts_form, form_of}
use Rattle.format.specs.Check.{held_before, while_held, low_ceiling, not_innermost, other_task, fault_of, fault_in, top_at}
use Rattle.format.specs.Check.{steps_fault, script_fault, roster_fault, check_of}
use Rattle.format.specs.declared.Step.{Step}
use Rattle.format.specs.declared.Fault.TheVariants.{BadLength, BadMark, BadCounts, BadLayout, BadValues}
use Rattle.format.specs.declared.Fault.TheVariants.{BadStep, WhileHeld, LowCeiling, NotInnermost, OtherTask}
use Rattle.format.proofs.TestLaws.{by-test}
use Rattle.format.proofs.StepLaws.{steps-length}
use Rattle.format.proofs.FormatLaws.{script-listed, script-count}
use Rattle.format.proofs.FormLaws.{form-1}

-- a choice and a search name no later position than what they choose from
pub either : (b : Bool) (v w : Verdict) (n : ℕ) → position_of v ≤ n → position_of w ≤ n → position_of (cond b v w) ≤ n
either true v w n h g = h
either false v w n h g = g

pub first-low : (f : ℕ → Verdict) (n most : ℕ) → ((i : ℕ) → i < n → position_of (f i) ≤ most) → position_of (first n f) ≤ most
unfolding first
first-low f zero most h = omega arith
first-low f (suc n) most h =
    either (passed (first n f)) (f n) (first n f) most (h n (omega arith)) (first-low f n most (λ i g. h i (omega arith)))

pub part_low : (s : List ℕ) (t : ℕ) → step_count (part_at s t) ≤ length s
unfolding part_at
part_low s t =
    omega (arith, length-take (length_at s t) (drop (start_at s t) s), length-drop (start_at s t) s)

step-low : (n m t : ℕ) (part : List ℕ) (k : ℕ) → position_of (step_form n m t part k) ≤ k
unfolding step_form
step-low n m t part k =
    either (step_good n m (eqb (suc k) (step_count part)) (a_at part k) (b_at part k) (step_at part k)) (Ok tt) (Err (BadStep t k)) k
    (omega arith) (omega arith)

pub steps_low : (n m t : ℕ) (part : List ℕ) → position_of (steps_form n m t part) ≤ step_count part
unfolding steps_form
steps_low n m t part =
    first-low (step_form n m t part) (step_count part) (step_count part) (λ k i. omega (arith, step-low n m t part k))

module _ (s : List ℕ) where
  pub form-low : position_of (form_of s) ≤ length s
  unfolding form_of scripts_form script_form
  form-low =
      let steps = first-low (script_form s) (task_count s) (length s) (λ t g.
      omega (arith, steps_low (task_count s) (object_count s) t (part_at s t), part_low s t)) in
      either (not (length_good s)) (Err BadLength) _ (length s) (omega arith)
      (either (not (mark_good s)) (Err BadMark) _ (length s) (omega arith)
      (either (not (counts_kept s)) (Err BadCounts) _ (length s) (omega arith)
      (either (not (layout_good s)) (Err BadLayout) _ (length s) (omega arith)
      (either (not (values_good s)) (Err BadValues) _ (length s) (omega arith) steps))))

  fault-low : (cs : List ℕ) (top : ℕ) (held : List ℕ) (t k : ℕ) (x : Step) → position_of (fault_of cs top held t k x) ≤ k
  unfolding fault_of
  fault-low cs top held t k x =
      either (while_held held x) (Err (WhileHeld t k)) _ k (omega arith)
      (either (low_ceiling cs top held x) (Err (LowCeiling t k)) _ k (omega arith)
      (either (not_innermost held x) (Err (NotInnermost t k)) _ k (omega arith)
      (either (other_task t x) (Err (OtherTask t k)) (Ok tt) k (omega arith) (omega arith))))

  rules-low : position_of (roster_fault (roster_of s)) ≤ length s
  unfolding roster_fault script_fault steps_fault fault_in
  rules-low =
      first-low (script_fault (roster_of s)) (length (roster_of s).scripts) (length s) (λ t g.
      let steps = script_of (roster_of s) t in
      let cs = (roster_of s).ceilings in
      let top = top_at (roster_of s) t in
      let low : t < task_count s = omega (arith, script-count s) in
      let few : length steps ≤ length s = omega (arith, ap length (script-listed s t low), steps-length (part_at s t), part_low s t) in
      first-low (fault_in cs top t steps) (suc (length steps)) (length s) (λ k i.
      omega (arith, fault-low cs top (held_before steps k) t k (step_in steps k))))

  check-low : position_of (check_of s) ≤ length s
  unfolding check_of
  check-low = either (passed (form_of s)) (roster_fault (roster_of s)) (form_of s) (length s) rules-low form-low

  -- and so below the largest roster: one that is too long is named at 0, 0
  short : (v : Verdict) → position_of v ≤ length s → (form_of s ≡ Err BadLength → v ≡ Err BadLength) → position_of v ≤ largest_roster
  unfolding length_good
  short v h g =
      by-test (length_good s)
      (λ e. omega (
        arith,
        h,
        leb-true (length s) largest_roster
            (and_right (leb smallest_roster (length s)) (leb (length s) largest_roster) e),
      ))
      (λ e. omega (arith, ap position_of (g (sym (form-1 s e)))))

  pub form_small : position_of (form_of s) ≤ largest_roster
  form_small = short (form_of s) form-low (λ e. e)

  pub check-small : position_of (check_of s) ≤ largest_roster
  unfolding check_of
  check-small = short (check_of s) check-low (λ e. ap (λ (v : Verdict). cond (passed v) (roster_fault (roster_of s)) v) e)
