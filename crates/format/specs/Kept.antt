-- What it means that scripts keep the written rules 17 to 20, told for each task and step and not by a scan: what is held before a step
-- is what the steps before it left (held_before).
use Rattle.format.specs.Answers.{Verdict}
use Rattle.std.specs.Prelude.{◌≡◌, List, [], ◌∷◌, ◌++◌, ℕ, ◌≤◌, ◌<◌, length, Ok, Err}
use Rattle.rules.specs.Lists.{times_in}
use Rattle.rules.specs.Model.{ceiling_of}
use Rattle.rules.specs.declared.Priority.{Priority}
use Rattle.format.specs.Steps.{step_in}
use Rattle.format.specs.Roster.{Roster, roster_of, base_of, script_of}
use Rattle.format.specs.Form.{form_of}
use Rattle.format.specs.Check.{held_before, check_of}
use Rattle.format.specs.declared.Step.{Step}
use Rattle.format.specs.declared.Step.TheVariants.{Enter, Leave, Delay, Suspend, Set, Again, Finish}
use Rattle.format.specs.declared.Fault.TheVariants.{NoSuchTask, NoSuchObject, BadLength, BadMark, BadCounts}
use Rattle.format.specs.declared.Fault.TheVariants.{BadLayout, BadValues}
use Rattle.format.specs.declared.Fault.TheVariants.{BadStep, WhileHeld, LowCeiling, NotInnermost, OtherTask}

-- the step at position k of task t, and what is held before it
abbrev pub step_for : Roster → ℕ → ℕ → Step
step_for r t k = step_in (script_of r t) k

abbrev pub held_at : Roster → ℕ → ℕ → List ℕ
held_at r t k = held_before (script_of r t) k

-- 17 "Delay, Suspend, Again or the script's end while something is held, or Enter of a held object": not so here
pub record Unheld (r : Roster) (t k : ℕ) : Type 0 where
  pub delay : (d : ℕ) → step_for r t k ≡ Delay d → held_at r t k ≡ []
  pub suspend : step_for r t k ≡ Suspend → held_at r t k ≡ []
  pub again : step_for r t k ≡ Again → held_at r t k ≡ []
  pub end : step_for r t k ≡ Finish → held_at r t k ≡ []
  pub enter : (o : ℕ) → step_for r t k ≡ Enter o → times_in o (held_at r t k) ≡ 0

-- 18 "Enter of an object whose ceiling is below any of the task's base, its own Set values or its held ceilings": not so here
pub record Covered (r : Roster) (t k : ℕ) : Type 0 where
  pub base : (o : ℕ) → step_for r t k ≡ Enter o → base_of r t ≤ ceiling_of r.ceilings o
  pub values : (o j : ℕ) (p : Priority) → step_for r t k ≡ Enter o → step_for r t j ≡ Set t p → p.0 ≤ ceiling_of r.ceilings o
  pub ceilings : (o i : ℕ) → step_for r t k ≡ Enter o → 0 < times_in i (held_at r t k) →
      ceiling_of r.ceilings i ≤ ceiling_of r.ceilings o

-- 19 "Leave not innermost": not so here
pub record Innermost (r : Roster) (t k : ℕ) : Type 0 where
  pub leave : (o : ℕ) → step_for r t k ≡ Leave o → (outer : List ℕ) × (held_at r t k ≡ outer ++ (o ∷ []))

-- 20 "Set of another task": not so here
pub record OwnSets (r : Roster) (t k : ℕ) : Type 0 where
  pub set : (u : ℕ) (p : Priority) → step_for r t k ≡ Set u p → u ≡ t

pub record Keeps (r : Roster) (t k : ℕ) : Type 0 where
  pub unheld : Unheld r t k
  pub covered : Covered r t k
  pub innermost : Innermost r t k
  pub own : OwnSets r t k

-- a task and a step of it, "from 0 (the script's end counts as the step after the last)"
pub record Location (r : Roster) (t k : ℕ) : Type 0 where
  pub task : t < length r.scripts
  pub step : k ≤ length (script_of r t)

-- every script keeps the rules
pub record AllKeep (r : Roster) : Type 0 where
  pub at : (t k : ℕ) → Location r t k → Keeps r t k

-- a location before which, "in task and step order", no rule is broken
pub record NoneBefore (r : Roster) (t k : ℕ) : Type 0 where
  pub here : Location r t k
  pub tasks : (u j : ℕ) → u < t → Location r u j → Keeps r u j
  pub steps : (j : ℕ) → j < k → Keeps r t j

-- what each verdict of the check says of a roster; "in one step the lowest wins". The verdicts of the form are none of the check's
abbrev pub Says : Roster → Verdict → Type 0
Says r (Ok done) = AllKeep r
Says r (Err (WhileHeld t k)) = NoneBefore r t k × (Unheld r t k → ⊥)
Says r (Err (LowCeiling t k)) = NoneBefore r t k × Unheld r t k × (Covered r t k → ⊥)
Says r (Err (NotInnermost t k)) = NoneBefore r t k × Unheld r t k × Covered r t k × (Innermost r t k → ⊥)
Says r (Err (OtherTask t k)) = NoneBefore r t k × Unheld r t k × Covered r t k × Innermost r t k × (OwnSets r t k → ⊥)
Says r (Err NoSuchTask) = ⊥
Says r (Err NoSuchObject) = ⊥
Says r (Err BadLength) = ⊥
Says r (Err BadMark) = ⊥
Says r (Err BadCounts) = ⊥
Says r (Err BadLayout) = ⊥
Says r (Err BadValues) = ⊥
Says r (Err (BadStep t k)) = ⊥

-- of a roster that has its form the check answers exactly what is so
pub record CheckExact (s : List ℕ) : Type 0 where
  pub so : Says (roster_of s) (check_of s)
  pub only : (v : Verdict) → Says (roster_of s) v → check_of s ≡ v

abbrev pub CheckSays : Type 0
CheckSays = (s : List ℕ) → form_of s ≡ Ok tt → CheckExact s
