-- The answers of the form, the check and the readers: document 01's number, and the task and step of the fault.
use Rattle.std.specs.Prelude.{Bool, cond, ℕ, zero, suc, Result, Ok, ⊤, is_ok}
use Rattle.rules.specs.Answers.{number_by}
use Rattle.format.specs.declared.Fault.{Fault}
use Rattle.format.specs.declared.Fault.TheVariants.{NoSuchTask, NoSuchObject, BadLength, BadMark, BadCounts, BadLayout, BadValues}
use Rattle.format.specs.declared.Fault.TheVariants.{BadStep, WhileHeld, LowCeiling, NotInnermost, OtherTask}

-- what the form, the check and a reader answer
abbrev pub Verdict : Type 0
Verdict = Result ⊤ Fault

-- "Form: 11 length; 12 mark; .."; "Check: 17 Delay, .."; 1 and 2 as an event's
abbrev pub fault_number : Fault → ℕ
fault_number NoSuchTask = 1
fault_number NoSuchObject = 2
fault_number BadLength = 11
fault_number BadMark = 12
fault_number BadCounts = 13
fault_number BadLayout = 14
fault_number BadValues = 15
fault_number (BadStep t k) = 16
fault_number (WhileHeld t k) = 17
fault_number (LowCeiling t k) = 18
fault_number (NotInnermost t k) = 19
fault_number (OtherTask t k) = 20

-- "16, and then 17 to 20, name the first fault .. with its task and step"; else "the place is 0, 0"
abbrev pub fault_task : Fault → ℕ
fault_task NoSuchTask = 0
fault_task NoSuchObject = 0
fault_task BadLength = 0
fault_task BadMark = 0
fault_task BadCounts = 0
fault_task BadLayout = 0
fault_task BadValues = 0
fault_task (BadStep t k) = t
fault_task (WhileHeld t k) = t
fault_task (LowCeiling t k) = t
fault_task (NotInnermost t k) = t
fault_task (OtherTask t k) = t

abbrev pub fault_position : Fault → ℕ
fault_position NoSuchTask = 0
fault_position NoSuchObject = 0
fault_position BadLength = 0
fault_position BadMark = 0
fault_position BadCounts = 0
fault_position BadLayout = 0
fault_position BadValues = 0
fault_position (BadStep t k) = k
fault_position (WhileHeld t k) = k
fault_position (LowCeiling t k) = k
fault_position (NotInnermost t k) = k
fault_position (OtherTask t k) = k

-- of a verdict, 0 where it is none of these
abbrev pub number_of : Verdict → ℕ
number_of v = number_by fault_number v

abbrev pub task_of : Verdict → ℕ
task_of v = number_by fault_task v

abbrev pub position_of : Verdict → ℕ
position_of v = number_by fault_position v

abbrev pub passed : Verdict → Bool
passed v = is_ok v

-- "the first fault in .. order": of f 0, f 1, .. up to f (n - 1) the first fault, or Ok
unfoldable pub first : ℕ → (ℕ → Verdict) → Verdict
first zero f = Ok tt
first (suc n) f = cond (passed (first n f)) (f n) (first n f)
