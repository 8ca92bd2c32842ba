-- What the methods give back: the answer, the report, and the state beside them.
use Rattle.std.specs.Prelude.{cond, ℕ, eqb, Option, Some, None, Err}
use Rattle.rules.specs.Answers.{number_of}
use Rattle.rules.specs.Model.{Model}
use Rattle.rules.specs.Moved.{Moved}
use Rattle.rules.specs.Events.{apply}
use Rattle.rules.specs.Fresh.{Setup, Begun, fresh}
use Rattle.rules.specs.declared.Priority.{Priority}
use Rattle.rules.specs.declared.Event.{Event}
use Rattle.rules.specs.declared.Event.TheVariants.{Enter, Leave, Delay, Suspend, Release, Clock, Set, Work, Finish}
use Rattle.rules.specs.declared.Report.TheVariants.{Unchanged}
use Rattle.rules.specs.declared.Refusal.TheVariants.{Unsound}
use Rattle.dispatch.specs.declared.State.{State}
use Rattle.dispatch.specs.declared.Started.{Started}
use Rattle.dispatch.specs.declared.Stepped.{Stepped}
use Rattle.dispatch.specs.State.{view, encode}
use Rattle.dispatch.specs.Sound.{sound_of}

-- 0 with the state for the rule's Model; "Any refusal returns the state unchanged."
unfoldable pub answered : State → Moved → Stepped
answered s r =
    record { answer = r.answer; report = r.report; state = cond (eqb (number_of r.answer) 0) (encode r.model) s }

-- 10, "unsound state"; 2026-10: "A refused event reports 0."
abbrev pub unsound : State → Stepped
unsound s = record { answer = Err Unsound; report = Unchanged; state = s }

-- "10 is tested first"; then what the rule says
unfoldable pub applied_of : State → Event → Stepped
applied_of s e = cond (sound_of s) (answered s (apply (view s) e)) (unsound s)

-- the Model of a state that is sound
unfoldable pub loaded_of : State → Option Model
loaded_of s = cond (sound_of s) (Some (view s)) None

-- each method
abbrev pub enter_of : State → ℕ → Stepped
enter_of s o = applied_of s (Enter o)

abbrev pub leave_of : State → ℕ → Stepped
leave_of s o = applied_of s (Leave o)

abbrev pub delay_of : State → ℕ → Stepped
delay_of s d = applied_of s (Delay d)

abbrev pub suspend_of : State → Stepped
suspend_of s = applied_of s Suspend

abbrev pub release_of : State → ℕ → Stepped
release_of s t = applied_of s (Release t)

abbrev pub clock_of : State → ℕ → Stepped
clock_of s r = applied_of s (Clock r)

abbrev pub set_of : State → ℕ → Priority → Stepped
set_of s t p = applied_of s (Set t p)

abbrev pub work_of : State → Stepped
work_of s = applied_of s Work

abbrev pub finish_of : State → Stepped
finish_of s = applied_of s Finish

-- what is given back with an answer and a Model
abbrev pub beside : Begun → Started
beside r = record { answer = r.answer; state = encode r.model }

-- "A fresh start is refused with 13 .., else with 15 ..; the state beside that answer is the fresh one of a single task"
unfoldable pub fresh_of : Setup → Started
fresh_of s = beside (fresh s)
