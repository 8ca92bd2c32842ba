-- What a fresh start and an event make of a state in lent bytes: the number of the answer, the bytes afterwards, and an event's report.
use Rattle.std.specs.Prelude.{cond, List, ℕ, eqb, ltb, length, None, Option, Some, Err}
use Rattle.rules.specs.Answers.{number_of, report_number}
use Rattle.rules.specs.declared.Event.{Event}
use Rattle.rules.specs.declared.Report.TheVariants.{Unchanged}
use Rattle.rules.specs.declared.Refusal.TheVariants.{Unsound}
use Rattle.rules.specs.Model.{Model}
use Rattle.dispatch.specs.Sound.{sound_of}
use Rattle.rules.specs.Fresh.{Setup}
use Rattle.dispatch.specs.Methods.{applied_of, fresh_of, loaded_of}
use Rattle.dispatch.specs.declared.State.{State}
use Rattle.cells.specs.Sizes.{nobody_code, state_size}
use Rattle.cells.specs.Decode.{state_of_bytes}
use Rattle.cells.specs.InRange.{readable, unless_unreadable}
use Rattle.cells.specs.Encode.{with_state}

-- too few bytes for a state answer 10
abbrev pub unless_short : List ℕ → ℕ → ℕ
unless_short b n = cond (ltb (length b) state_size) (number_of (Err Unsound)) n

-- a state that is written beside the answer 0, "Any refusal returns the state unchanged."
abbrev pub if_done : ℕ → State → List ℕ → List ℕ
if_done n s b = cond (eqb n 0) (with_state s b) b

-- the Model of bytes that are a sound state's
unfoldable pub loaded_from : List ℕ → Option Model
loaded_from b = cond (readable b) (loaded_of (state_of_bytes b)) None

-- an event
unfoldable pub event_number : List ℕ → Event → ℕ
event_number b e = unless_unreadable b (number_of (applied_of (state_of_bytes b) e).answer)

unfoldable pub event_bytes : List ℕ → Event → List ℕ
event_bytes b e = if_done (event_number b e) (applied_of (state_of_bytes b) e).state b

-- 2026-10: why the processor changed hands; "A refused event reports 0."
unfoldable pub event_report : List ℕ → Event → ℕ
event_report b e = cond (readable b) (report_number (applied_of (state_of_bytes b) e).report) (report_number Unchanged)

-- a fresh start: "the state beside that answer" is written too
unfoldable pub fresh_number : Setup → List ℕ → ℕ
fresh_number s b = unless_short b (number_of (fresh_of s).answer)

unfoldable pub fresh_bytes : Setup → List ℕ → List ℕ
fresh_bytes s b = with_state (fresh_of s).state b

-- 0, or 10 for an unsound state
unfoldable pub sound_number : List ℕ → ℕ
sound_number b = unless_unreadable b (cond (sound_of (state_of_bytes b)) 0 (number_of (Err Unsound)))

-- who runs; 255 is nobody, and so is a number that is none of n tasks
abbrev pub listed_code : ℕ → Option ℕ → ℕ
listed_code n None = nobody_code
listed_code n (Some t) = cond (ltb t n) t nobody_code

unfoldable pub running_number : List ℕ → ℕ
running_number b = cond (readable b) (listed_code (state_of_bytes b).task_count (state_of_bytes b).running) nobody_code
