-- What a run writes is what the claim speaks of: of the three bytes of each event, the answer of a Step, the task and the report.
use Rattle.std.specs.Prelude.{◌≡◌, ◌↔◌, List, [], ◌∷◌, ◌++◌, map, ℕ, ◌+◌, ◌*◌, length, get_or, Ok}
use Rattle.words.specs.Words.{Bytes}
use Rattle.format.specs.Roster.{roster_of}
use Rattle.rules.specs.Answers.{report_number}
use Rattle.trace.specs.Limits.{reply_size}
use Rattle.trace.specs.Config.{happen}
use Rattle.trace.specs.Inputs.{inputs_of}
use Rattle.trace.specs.Run.{answer_of, running_byte, buffer_of}
use Rattle.safety.specs.History.{Event, step, input_of, after}
use Rattle.safety.specs.Safe.{running, Idle}

-- the buffer after a run of the events es that is not refused
pub record Wrote (s ev buffer : List ℕ) (es : List Event) : Type 0 where
  -- the answer byte of a Step is not 0 exactly when nobody was running or ready just before it
  pub answer : (before behind : List Event) → es ≡ before ++ (step ∷ behind) →
      (get_or (buffer_of s ev buffer) (reply_size * length before) 0 ≡ 0 → ⊥) ↔ Idle (roster_of s) before
  -- the task byte of an event names the task that the claim calls running after it, or nobody
  pub task : (before behind : List Event) (e : Event) → es ≡ before ++ (e ∷ behind) →
      get_or (buffer_of s ev buffer) (reply_size * length before + 1) 0 ≡ running_byte (running (roster_of s) (before ++ (e ∷ [])))
  -- the report byte is the event's own report, of the state that the events before it left
  pub report : (before behind : List Event) (e : Event) → es ≡ before ++ (e ∷ behind) →
      get_or (buffer_of s ev buffer) (reply_size * length before + 2) 0 ≡
      report_number (happen (roster_of s) (after (roster_of s) before) (input_of e)).report

-- every run that is done, with no Set from outside: a roster's bytes, the events' bytes and what they say, a lent buffer
abbrev pub RunWrites : Type 0
RunWrites =
    (s ev buffer : List ℕ) (es : List Event) → Bytes s → answer_of s ev (length buffer) ≡ Ok tt → inputs_of ev ≡ map input_of es →
    Wrote s ev buffer es
