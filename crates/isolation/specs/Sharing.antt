-- What two rosters share above a level p: the tasks and the objects that no other task can reach.
use Rattle.std.specs.Prelude.{◌≡◌, ◌⊎◌, true, List, ℕ, ◌≤◌, ◌<◌, length}
use Rattle.rules.specs.Model.{ceiling_of}
use Rattle.rules.specs.declared.Priority.{Priority}
use Rattle.words.specs.Words.{Bytes}
use Rattle.format.specs.Answers.{passed}
use Rattle.format.specs.Steps.{step_in}
use Rattle.format.specs.Roster.{Roster, roster_of, base_of, script_of}
use Rattle.format.specs.Check.{check_of}
use Rattle.format.specs.declared.Step.TheVariants.{Enter, Release, Set}

-- the roster has a task of this number
abbrev pub Listed : Roster → ℕ → Type 0
Listed r t = t < length r.bases

-- "Above P means the base and all own Set values are higher"; what the roster does not list has the base 0 and is not above
pub record Above (p : ℕ) (r : Roster) (t : ℕ) : Type 0 where
  pub base : p < base_of r t
  pub sets : (k : ℕ) (q : Priority) → step_in (script_of r t) k ≡ Set t q → p < q.0

-- "every other task has them all at P or lower, releases no task above P, and uses no object with a ceiling above P": what a script
-- that passes leaves it has entered, so that to use is to enter
pub record Under (p : ℕ) (r : Roster) (t : ℕ) : Type 0 where
  pub base : base_of r t ≤ p
  pub sets : (k : ℕ) (q : Priority) → step_in (script_of r t) k ≡ Set t q → q.0 ≤ p
  pub releases : (k u : ℕ) → step_in (script_of r t) k ≡ Release u → Above p r u → ⊥
  pub uses : (k o : ℕ) → step_in (script_of r t) k ≡ Enter o → ceiling_of r.ceilings o ≤ p

-- every task of the roster is one or the other
abbrev pub Divided : ℕ → Roster → Type 0
Divided p r = (t : ℕ) → Listed r t → Above p r t ⊎ Under p r t

-- "agree, number for number, on every task above P and every object with a ceiling above P": whatever is above in one of them has the
-- same base and script, or the same ceiling, in the other. All else may differ, the numbers of tasks and objects too.
pub record Agree (p : ℕ) (r s : Roster) : Type 0 where
  pub first : Divided p r
  pub second : Divided p s
  pub tasks : (t : ℕ) → Above p r t ⊎ Above p s t → (base_of r t ≡ base_of s t) × (script_of r t ≡ script_of s t)
  pub objects : (o : ℕ) → (p < ceiling_of r.ceilings o) ⊎ (p < ceiling_of s.ceilings o) →
      ceiling_of r.ceilings o ≡ ceiling_of s.ceilings o

-- "Take a level P and two rosters that pass and agree": the bytes of both, and the check's own answers
pub record Agreeing (p : ℕ) (a b : List ℕ) : Type 0 where
  pub bytes : Bytes a × Bytes b
  pub pass : (passed (check_of a) ≡ true) × (passed (check_of b) ≡ true)
  pub agree : Agree p (roster_of a) (roster_of b)
