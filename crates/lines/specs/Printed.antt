-- A run and the lines that are printed of it.
use Rattle.std.specs.Prelude.{cond, not, List, [], ℕ, ◌+◌, ◌*◌, ◌/◌}
use Rattle.format.specs.Answers as Roster
use Rattle.format.specs.Check.{check_of}
use Rattle.trace.specs.Limits.{event_size, largest_events, reply_size}
use Rattle.trace.specs.Inputs.{events_good}
use Rattle.trace.specs.Answers.{ran}
use Rattle.trace.specs.Run.{answer_of, replies_of}
use Rattle.lines.specs.Lines.{refused_line, passed_lines, reply_room, other_room, lines_buffer, lines_size}

-- what a run writes into a buffer of size bytes; "A refused run writes nothing"
unfoldable pub replies_written : List ℕ → List ℕ → ℕ → List ℕ
replies_written roster events size = cond (ran (answer_of roster events size)) (replies_of roster events) []

-- the lines of a run with a buffer of size bytes, at the start of out, and how many bytes they are
unfoldable pub printed_buffer : List ℕ → List ℕ → ℕ → List ℕ → List ℕ
printed_buffer roster events size out = lines_buffer (answer_of roster events size) (replies_written roster events size) out

unfoldable pub printed_size : List ℕ → List ℕ → ℕ → List ℕ → ℕ
printed_size roster events size out = lines_size (answer_of roster events size) (replies_written roster events size) out

-- buffers of so many bytes are long enough for the replies and for the lines of every run
abbrev pub replies_enough : ℕ
replies_enough = reply_size * (largest_events / event_size)

abbrev pub lines_enough : ℕ
lines_enough = other_room + reply_room * (largest_events / event_size)

-- what is then printed: the one line of a roster that fails, "then 21 (..)", or `passed`, a line for each event, `end`
unfoldable pub printed : List ℕ → List ℕ → List ℕ
printed roster events =
    cond (not (Roster.passed (check_of roster)))
    (refused_line (Roster.number_of (check_of roster)) (Roster.task_of (check_of roster)) (Roster.position_of (check_of roster)))
    (cond (not (events_good events)) (refused_line 21 0 0)
    (passed_lines (replies_of roster events)))
