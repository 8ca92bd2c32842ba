-- How an exported function hands back more than one number.
use Rattle.std.specs.Prelude.{cond, List, ℕ, ◌+◌, ◌*◌, Result, Ok, Err}
use Rattle.format.specs.Answers.{Verdict, fault_number, number_of, task_of, position_of, passed}
use Rattle.format.specs.Format.{start_at}
use Rattle.format.specs.Form.{script_answer}
use Rattle.format.specs.Limits.{enter_code, leave_code, delay_code, work_code, suspend_code, release_code, set_code, again_code}
use Rattle.format.specs.declared.Fault.{Fault}
use Rattle.rules.specs.declared.Priority.{Priority}
use Rattle.format.specs.declared.Step.{Step}
use Rattle.format.specs.declared.Step.TheVariants.{Enter, Leave, Delay, Work, Suspend, Release, Set, Again, Finish}
use Rattle.trace.specs.Answers as Run
use Rattle.trace.specs.Answers.{RunAnswer}
use Rattle.encoding.specs.Answers as Write
use Rattle.encoding.specs.Answers.{WriteAnswer}

-- a step's position is below 2 to the 16: a roster is shorter, and the writer's lengths have 16 bits
abbrev pub last_position : ℕ
last_position = 65535

-- an answer in one number: its own in the lowest byte, the task in the next, the step above
unfoldable pub packed : ℕ → ℕ → ℕ → ℕ
packed number task position = number + 256 * task + 65536 * position

abbrev pub packed_verdict : Verdict → ℕ
packed_verdict v = packed (number_of v) (task_of v) (position_of v)

abbrev pub packed_run : RunAnswer → ℕ
packed_run a = packed (Run.number_of a) (Run.task_of a) (Run.position_of a)

abbrev pub packed_write : WriteAnswer → ℕ
packed_write a = packed (Write.number_of a) (Write.task_of a) (Write.position_of a)

-- where a task's script starts, or 0 on a refusal; its length is that of the part
unfoldable pub script_start : List ℕ → ℕ → ℕ
script_start s t = cond (passed (script_answer s t)) (start_at s t) 0

-- what a reader finds, by its number: 0 and 256 times that, or the number of its refusal
abbrev pub packed_found : {A : Type 0} → (A → ℕ) → Result A Fault → ℕ
packed_found number (Ok x) = 256 * number x
packed_found number (Err f) = fault_number f

-- "A step has 4 bytes: code, a, b (2).": in one number, the code in its lowest byte; Finish, which no script has, is 0
abbrev pub step_word : ℕ → ℕ → ℕ → ℕ
step_word code a b = code + 256 * a + 65536 * b

abbrev pub word_of : Step → ℕ
word_of (Enter o) = step_word enter_code o 0
word_of (Leave o) = step_word leave_code o 0
word_of (Delay d) = step_word delay_code 0 d
word_of Work = step_word work_code 0 0
word_of Suspend = step_word suspend_code 0 0
word_of (Release t) = step_word release_code t 0
word_of (Set t p) = step_word set_code t p.0
word_of Again = step_word again_code 0 0
word_of Finish = 0

-- of a base or a ceiling, of how many steps there are, and of one of them
abbrev pub packed_priority : Result Priority Fault → ℕ
packed_priority found = packed_found (λ p. p.0) found

abbrev pub packed_count : Result ℕ Fault → ℕ
packed_count found = packed_found (λ n. n) found

abbrev pub packed_step : Result Step Fault → ℕ
packed_step found = packed_found word_of found
