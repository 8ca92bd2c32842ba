-- What the readers of a roster find: a base, a ceiling, how many steps a script has, and one of them.
use Rattle.std.specs.Prelude.{cond, List, ℕ, ltb, length, Result, Ok, Err}
use Rattle.rules.specs.Model.{ceiling_of}
use Rattle.rules.specs.declared.Priority.{Priority}
use Rattle.format.specs.Answers.{Verdict, passed}
use Rattle.format.specs.Format.{object_count}
use Rattle.format.specs.Steps.{step_in}
use Rattle.format.specs.Roster.{roster_of, base_of, script_of}
use Rattle.format.specs.Form.{form_of, script_answer}
use Rattle.format.specs.declared.Step.{Step}
use Rattle.format.specs.declared.Fault.{Fault}
use Rattle.format.specs.declared.Fault.TheVariants.{NoSuchObject}

-- of an object "11 to 16, then" 2; script_answer is that of a task
unfoldable pub object_answer : List ℕ → ℕ → Verdict
object_answer s o = cond (passed (form_of s)) (cond (ltb o (object_count s)) (Ok tt) (Err NoSuchObject)) (form_of s)

-- what is read where the answer has passed, else the fault
abbrev pub found_by : {A : Type 0} → Verdict → A → Result A Fault
found_by (Ok done) x = Ok x
found_by (Err f) x = Err f

-- "base"; "ceiling"
unfoldable pub base_found : List ℕ → ℕ → Result Priority Fault
base_found s t = found_by (script_answer s t) (record { 0 = base_of (roster_of s) t })

unfoldable pub ceiling_found : List ℕ → ℕ → Result Priority Fault
ceiling_found s o = found_by (object_answer s o) (record { 0 = ceiling_of (roster_of s).ceilings o })

-- how many steps the script of a task has; the step at position k, "at the script's end .. Finish"
unfoldable pub count_found : List ℕ → ℕ → Result ℕ Fault
count_found s t = found_by (script_answer s t) (length (script_of (roster_of s) t))

unfoldable pub step_found : List ℕ → ℕ → ℕ → Result Step Fault
step_found s t k = found_by (script_answer s t) (step_in (script_of (roster_of s) t) k)
