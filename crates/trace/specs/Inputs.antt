-- The events of a run, from their bytes.
use Rattle.std.specs.Prelude.{Bool, cond, ◌&&◌, List, ℕ, ◌+◌, ◌*◌, ◌/◌, ◌%◌, eqb, leb, length, None, Option, Some, is_some, unwrap_or}
use Rattle.rules.specs.Lists.{below}
use Rattle.words.specs.Words.{byte_at, word_at}
use Rattle.words.specs.Words.{tabulate}
use Rattle.trace.specs.Limits.{event_size, largest_events, clock_kind, release_kind, step_kind, set_kind}
use Rattle.trace.specs.declared.Input.{Input}
use Rattle.trace.specs.declared.Input.TheVariants.{Clock, Release, Step, Set}

-- "Unused fields are 0.": an event, if its unused fields are
abbrev pub if_unused : Bool → Input → Option Input
if_unused zeros x = cond zeros (Some x) None

-- "1 Clock value; 2 Release a; 3 Step; 4 Set a, value"; else "an unknown kind"
unfoldable pub decode : ℕ → ℕ → ℕ → Option Input
decode kind a value =
    cond (eqb kind clock_kind) (if_unused (eqb a 0) (Clock value))
    (cond (eqb kind release_kind) (if_unused (eqb value 0) (Release a))
    (cond (eqb kind step_kind) (if_unused (eqb a 0 && eqb value 0) Step)
    (cond (eqb kind set_kind) (Some (Set a value))
    None)))

-- "Events have 8 bytes: kind, a, value (6)": the fields of event i, the value little-endian
abbrev pub kind_at : List ℕ → ℕ → ℕ
kind_at s i = byte_at s (event_size * i)

abbrev pub operand_at : List ℕ → ℕ → ℕ
operand_at s i = byte_at s (event_size * i + 1)

unfoldable pub value_at : List ℕ → ℕ → ℕ
value_at s i = word_at s (event_size * i + 2) + 65536 * (word_at s (event_size * i + 4) + 65536 * word_at s (event_size * i + 6))

unfoldable pub decoded_at : List ℕ → ℕ → Option Input
decoded_at s i = decode (kind_at s i) (operand_at s i) (value_at s i)

-- 21 "length no multiple of 8, over 32,768, an unknown kind, an unused field not 0"
abbrev pub event_count : List ℕ → ℕ
event_count s = length s / event_size

unfoldable pub event_good : List ℕ → ℕ → Bool
event_good s i = is_some (decoded_at s i)

unfoldable pub events_good : List ℕ → Bool
events_good s = eqb (length s % event_size) 0 && leb (length s) largest_events && below (event_count s) (event_good s)

-- the events of good bytes; a bad record, which 21 refuses, reads as a Step
unfoldable pub input_at : List ℕ → ℕ → Input
input_at s i = unwrap_or (decoded_at s i) Step

unfoldable pub inputs_of : List ℕ → List Input
inputs_of s = tabulate (event_count s) (input_at s)
