-- What the writer answers, what it leaves in the lent buffer, and the part of it that it hands back.
use Rattle.std.specs.Prelude.{Bool, cond, not, ◌&&◌, List, [], ℕ, ◌*◌, eqb, ltb, length, Result, Ok, Err, ⊤, is_ok}
use Rattle.rules.specs.Limits.{largest_roster}
use Rattle.rules.specs.Fresh.{setup_counted, setup_in_range}
use Rattle.words.specs.Words.{over_front}
use Rattle.format.specs.Limits.{step_size}
use Rattle.rules.specs.Answers.{number_by}
use Rattle.format.specs.Answers.{Verdict, passed, first, fault_number, fault_task, fault_position}
use Rattle.format.specs.Form.{steps_form}
use Rattle.format.specs.declared.Fault.TheVariants.{BadLength, BadCounts, BadLayout, BadValues}
use Rattle.encoding.specs.File.{Parts, tasks_of, objects_of, steps_before, script_at, file_of}
use Rattle.encoding.specs.declared.WriteError.{WriteError}
use Rattle.encoding.specs.declared.WriteError.TheVariants.{Refused, ShortBuffer}

-- what the writer answers
abbrev pub WriteAnswer : Type 0
WriteAnswer = Result ⊤ WriteError

-- the number, and the task and step of a bad step, as the form has them
abbrev pub error_number : WriteError → ℕ
error_number (Refused f) = fault_number f
error_number ShortBuffer = 22

abbrev pub error_task : WriteError → ℕ
error_task (Refused f) = fault_task f
error_task ShortBuffer = 0

abbrev pub error_position : WriteError → ℕ
error_position (Refused f) = fault_position f
error_position ShortBuffer = 0

-- of an answer, 0 where nothing is wrong
abbrev pub number_of : WriteAnswer → ℕ
number_of a = number_by error_number a

abbrev pub task_of : WriteAnswer → ℕ
task_of a = number_by error_task a

abbrev pub position_of : WriteAnswer → ℕ
position_of a = number_by error_position a

abbrev pub wrote : WriteAnswer → Bool
wrote a = is_ok a

-- 14 "lengths in steps that aren't one per base or don't add up to the lent steps": not so here
unfoldable pub lengths_add_up : Parts → Bool
lengths_add_up p = eqb (length p.lengths) (tasks_of p) && eqb (step_size * steps_before p.lengths (tasks_of p)) (length p.steps)

-- 16 "as the reader would", "the first fault in task and step order"
unfoldable pub lent_script_form : Parts → ℕ → Verdict
lent_script_form p t = steps_form (tasks_of p) (objects_of p) t (script_at p t)

unfoldable pub lent_scripts_form : Parts → Verdict
lent_scripts_form p = first (tasks_of p) (lent_script_form p)

-- "It refuses with 13, 14 (..), 15 and 16 as the reader would": counts, bases and ceilings as for a fresh start
unfoldable pub parts_form : Parts → Verdict
parts_form p =
    cond (not (setup_counted p.setup)) (Err BadCounts)
    (cond (not (lengths_add_up p)) (Err BadLayout)
    (cond (not (setup_in_range p.setup)) (Err BadValues)
    (lent_scripts_form p)))

-- "then 11 if the file would pass its limit"
unfoldable pub file_form : Parts → Verdict
file_form p = cond (passed (parts_form p)) (cond (ltb largest_roster (length (file_of p))) (Err BadLength) (Ok tt)) (parts_form p)

-- a fault that the form would find, as the writer answers it
abbrev pub refused : Verdict → WriteAnswer
refused (Ok done) = Ok done
refused (Err f) = Err (Refused f)

-- "then 22 if the buffer is too short": of a buffer of size bytes
unfoldable pub write_answer_of : Parts → ℕ → WriteAnswer
write_answer_of p size =
    cond (passed (file_form p)) (cond (ltb size (length (file_of p))) (Err ShortBuffer) (Ok tt)) (refused (file_form p))

-- "and writes nothing in those cases"; "bytes past it stay"
unfoldable pub write_buffer_of : Parts → List ℕ → List ℕ
write_buffer_of p out = cond (wrote (write_answer_of p (length out))) (over_front (file_of p) out) out

-- "Exactly the written file is returned as the front part of the lent buffer"; "a refusal gives an empty part"
unfoldable pub written_of : Parts → ℕ → List ℕ
written_of p size = cond (wrote (write_answer_of p size)) (file_of p) []
