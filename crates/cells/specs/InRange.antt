-- "a count or number out of range", of bytes: the numbers that no State can hold, since Decode.antt reads them as others.
use Rattle.std.specs.Prelude.{Bool, cond, ◌&&◌, List, ℕ, ◌+◌, ◌*◌, leb, length, Err}
use Rattle.rules.specs.Limits.{task_limit}
use Rattle.rules.specs.Lists.{below}
use Rattle.rules.specs.Answers.{number_of}
use Rattle.rules.specs.declared.Refusal.TheVariants.{Unsound}
use Rattle.rules.specs.Kinds.{ended_code}
use Rattle.words.specs.Words.{byte_at}
use Rattle.cells.specs.Sizes.{task_count_at, tasks_start, task_size, kind_offset, waits_offset, permit_offset, state_size}

-- the task row that starts at i: a place kind of the five, and two flags of 0 or 1
unfoldable pub row_in_range : List ℕ → ℕ → Bool
row_in_range s i =
    leb (byte_at s (i + kind_offset)) ended_code && leb (byte_at s (i + waits_offset)) 1 && leb (byte_at s (i + permit_offset)) 1

-- no more tasks than there may be, and such a row for each of those that the count lists
unfoldable pub rows_in_range : List ℕ → Bool
rows_in_range s = leb (byte_at s task_count_at) task_limit &&
    below (byte_at s task_count_at) (λ t. row_in_range s (tasks_start + task_size * t))

-- enough bytes for a state, and none of these numbers
abbrev pub readable : List ℕ → Bool
readable s = leb state_size (length s) && rows_in_range s

-- bytes that are not readable answer 10
abbrev pub unless_unreadable : List ℕ → ℕ → ℕ
unless_unreadable b n = cond (readable b) n (number_of (Err Unsound))
