-- What it means that the form passes and that 16 names a step, told for each task and step and not by a scan.
use Rattle.std.specs.Prelude.{◌≡◌, ◌↔◌, Bool, true, false, List, ℕ, suc, ◌<◌, eqb, Ok, Err}
use Rattle.format.specs.Format.{task_count, object_count, part_at}
use Rattle.format.specs.Steps.{a_at, b_at, step_at, step_count}
use Rattle.format.specs.Form.{length_good, mark_good, counts_kept, layout_good, values_good, step_good, form_of}
use Rattle.format.specs.declared.Fault.TheVariants.{BadStep}

-- the step at position k of task t breaks no line of the form
abbrev pub step_unbroken : List ℕ → ℕ → ℕ → Bool
step_unbroken s t k =
    step_good (task_count s) (object_count s) (eqb (suc k) (step_count (part_at s t))) (a_at (part_at s t) k) (b_at (part_at s t) k)
    (step_at (part_at s t) k)

-- 11 to 15 are kept
pub record Laid (s : List ℕ) : Type 0 where
  pub size : length_good s ≡ true
  pub mark : mark_good s ≡ true
  pub counts : counts_kept s ≡ true
  pub layout : layout_good s ≡ true
  pub values : values_good s ≡ true

-- a broken step, none before it, "in task and step order", being so
pub record FirstBroken (s : List ℕ) (t k : ℕ) : Type 0 where
  pub task : t < task_count s
  pub step : k < step_count (part_at s t)
  pub broken : step_unbroken s t k ≡ false
  pub tasks : (u j : ℕ) → u < t → j < step_count (part_at s u) → step_unbroken s u j ≡ true
  pub steps : (j : ℕ) → j < k → step_unbroken s t j ≡ true

-- no step is broken
pub record AllUnbroken (s : List ℕ) : Type 0 where
  pub at : (t k : ℕ) → t < task_count s → k < step_count (part_at s t) → step_unbroken s t k ≡ true

-- the form passes exactly where 11 to 15 are kept and no step is broken; it answers 16 exactly where 11 to 15 are kept and a step is
-- broken, and names the first
pub record FormExact (s : List ℕ) : Type 0 where
  pub passes : (form_of s ≡ Ok tt) ↔ (Laid s × AllUnbroken s)
  pub names : (t k : ℕ) → (form_of s ≡ Err (BadStep t k)) ↔ (Laid s × FirstBroken s t k)

abbrev pub FormSays : Type 0
FormSays = (s : List ℕ) → FormExact s
