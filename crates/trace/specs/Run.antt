-- A run: what it answers and what it writes.
use Rattle.std.specs.Prelude.{cond, not, List, [], ◌∷◌, ◌++◌, ℕ, ◌*◌, ltb, length, drop, None, Option, Some, Ok, Err}
use Rattle.rules.specs.Answers.{number_of, report_number}
use Rattle.format.specs.Answers.{Verdict}
use Rattle.format.specs.Roster.{Roster, roster_of}
use Rattle.format.specs.Check.{check_of}
use Rattle.trace.specs.Limits.{reply_size, nobody_byte}
use Rattle.trace.specs.Config.{Config, Outcome, start_of, happen}
use Rattle.trace.specs.Inputs.{event_count, events_good, inputs_of}
use Rattle.trace.specs.Answers.{RunAnswer, ran}
use Rattle.trace.specs.declared.Input.{Input}
use Rattle.trace.specs.declared.RunError.TheVariants.{BadRoster, BadEvents, ShortBuffer}

-- what the roster's check found, or else the answer of the tests after it
abbrev pub after_check : Verdict → RunAnswer → RunAnswer
after_check (Err f) a = Err (BadRoster f)
after_check (Ok done) a = a

-- "It refuses with 11 to 20; then 21 (..); then 22 (buffer shorter than needed)": of a buffer of size bytes; 2026-10: "22 is reckoned on
-- three"
unfoldable pub answer_of : List ℕ → List ℕ → ℕ → RunAnswer
answer_of roster events size =
    after_check (check_of roster)
    (cond (not (events_good events)) (Err BadEvents)
    (cond (ltb size (reply_size * event_count events)) (Err ShortBuffer)
    (Ok tt)))

-- "answer, then running task or 255", and since 2026-10 the report
unfoldable pub running_byte : Option ℕ → ℕ
running_byte None = nobody_byte
running_byte (Some t) = t

unfoldable pub reply_of : Outcome → List ℕ
reply_of o = number_of o.answer ∷ running_byte o.config.model.running ∷ report_number o.report ∷ []

-- "writes three bytes per event": what events write from a configuration on, each getting what the last one returned
unfoldable pub replies_from : Roster → Config → List Input → List ℕ
replies_from r c [] = []
replies_from r c (e ∷ es) = reply_of (happen r c e) ++ replies_from r (happen r c e).config es

-- .. from "the fresh state .., with every script at its start"
unfoldable pub replies_of : List ℕ → List ℕ → List ℕ
replies_of roster events = replies_from (roster_of roster) (start_of (roster_of roster)) (inputs_of events)

-- "A refused run writes nothing; bytes past the last pair stay." Pairs are replies since 2026-10.
unfoldable pub buffer_of : List ℕ → List ℕ → List ℕ → List ℕ
buffer_of roster events buffer =
    cond (ran (answer_of roster events (length buffer)))
    (replies_of roster events ++ drop (length (replies_of roster events)) buffer)
    buffer
