-- The answers of a run: document 01's number, and the task and step of a fault.
use Rattle.std.specs.Prelude.{Bool, ℕ, Result, ⊤, is_ok}
use Rattle.rules.specs.Answers.{number_by}
use Rattle.format.specs.Answers.{fault_number, fault_task, fault_position}
use Rattle.trace.specs.declared.RunError.{RunError}
use Rattle.trace.specs.declared.RunError.TheVariants.{BadRoster, BadEvents, ShortBuffer}

-- what a run answers
abbrev pub RunAnswer : Type 0
RunAnswer = Result ⊤ RunError

-- "It refuses with 11 to 20; then 21 (..); then 22"
abbrev pub error_number : RunError → ℕ
error_number (BadRoster f) = fault_number f
error_number BadEvents = 21
error_number ShortBuffer = 22

-- "with 0, 11 to 15, 21 and 22 the place is 0, 0"
abbrev pub error_task : RunError → ℕ
error_task (BadRoster f) = fault_task f
error_task BadEvents = 0
error_task ShortBuffer = 0

abbrev pub error_position : RunError → ℕ
error_position (BadRoster f) = fault_position f
error_position BadEvents = 0
error_position ShortBuffer = 0

-- of an answer, 0 where the run is done
abbrev pub number_of : RunAnswer → ℕ
number_of a = number_by error_number a

abbrev pub task_of : RunAnswer → ℕ
task_of a = number_by error_task a

abbrev pub position_of : RunAnswer → ℕ
position_of a = number_by error_position a

abbrev pub ran : RunAnswer → Bool
ran a = is_ok a
