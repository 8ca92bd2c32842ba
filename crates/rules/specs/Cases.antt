-- Document 01's marked cases A to L, of the rules themselves: one list, one claim.
use Rattle.std.specs.Prelude.{◌≡◌, List, [], ◌∷◌, ◌++◌, map, ℕ, ◌-◌, set, replicate, None, Option, Some}
use Rattle.rules.specs.Limits.{last_priority}
use Rattle.rules.specs.Answers.{number_of}
use Rattle.rules.specs.Model.{Model}
use Rattle.rules.specs.Fresh.{Setup, fresh_model}
use Rattle.rules.specs.Events.{apply}
use Rattle.rules.specs.declared.Priority.{Priority}
use Rattle.rules.specs.declared.Event.{Event}
use Rattle.rules.specs.declared.Event.TheVariants.{Enter, Leave, Delay, Suspend, Release, Clock, Set}

-- the letters of "Marked cases"
pub data Letter : Type 0 where
  A B C D E F G H I J K L : Letter

-- a ready queue: its priority, and its tasks from the head on
pub record Queue : Type 0 where
  pub priority : ℕ
  pub tasks : List ℕ

-- the answer of each event; who runs, and the 32 ready queues, after the last
pub record Outcome : Type 0 where
  pub answers : List ℕ
  pub running : Option ℕ
  pub ready : List (List ℕ)

-- what the start is made from, the events, and what is expected of them; the queues that are not named are empty
pub record Case : Type 0 where
  pub letter : Letter
  pub setup : Setup
  pub events : List Event
  pub answers : List ℕ
  pub running : Option ℕ
  pub queues : List Queue

-- what events come to from a Model on, behind the answers so far
unfoldable pub outcome_from : Model → List Event → List ℕ → Outcome
outcome_from m [] answers = record { answers = answers; running = m.running; ready = m.ready }
outcome_from m (e ∷ es) answers = outcome_from (apply m e).model es (answers ++ (number_of (apply m e).answer ∷ []))

-- what a case comes to, started fresh
unfoldable pub outcome : Case → Outcome
outcome c = outcome_from (fresh_model c.setup) c.events []

-- the 32 queues, those named and the empty ones
unfoldable pub queues_of : List Queue → List (List ℕ)
queues_of [] = replicate last_priority []
queues_of (q ∷ qs) = set (queues_of qs) (q.priority - 1) q.tasks

-- what document 01 expects of a case
unfoldable pub expected : Case → Outcome
expected c = record { answers = c.answers; running = c.running; ready = queues_of c.queues }

-- a case written in one line; a queue; a priority to set
unfoldable pub case : Letter → List ℕ → List ℕ → List Event → List ℕ → Option ℕ → List Queue → Case
case x bs cs es ns w qs =
    record {
      letter = x;
      setup = record { bases = bs; ceilings = cs };
      events = es;
      answers = ns;
      running = w;
      queues = qs;
    }

abbrev pub at : ℕ → List ℕ → List Queue
at p ts = record { priority = p; tasks = ts } ∷ []

abbrev pub to : ℕ → Priority
to p = record { 0 = p }

-- letter, bases, ceilings, events, answers, who runs, queues
unfoldable pub marked_cases : List Case
marked_cases =
    -- "bases 10, 20, 10 fresh: 1 runs, queue 10 is 0, 2"
    case A (10 ∷ 20 ∷ 10 ∷ []) [] [] [] (Some 1) (at 10 (0 ∷ 2 ∷ [])) ∷
    -- "A then Set 1, 10: 0 runs, queue 2, 1"
    case B (10 ∷ 20 ∷ 10 ∷ []) [] (Set 1 (to 10) ∷ []) (0 ∷ []) (Some 0) (at 10 (2 ∷ 1 ∷ [])) ∷
    -- "A then Set 0, 10": since 2026-04 "1 runs, queue 10 is 2, 0"
    case C (10 ∷ 20 ∷ 10 ∷ []) [] (Set 0 (to 10) ∷ []) (0 ∷ []) (Some 1) (at 10 (2 ∷ 0 ∷ [])) ∷
    -- "Enter at the ceiling: 0; one above: 8"
    case D (10 ∷ []) (10 ∷ []) (Enter 0 ∷ []) (0 ∷ []) (Some 0) [] ∷
    case D (11 ∷ []) (10 ∷ []) (Enter 0 ∷ []) (8 ∷ []) (Some 0) [] ∷
    -- "bases 10, 10, Delay 0: 1 runs, queue 0"
    case E (10 ∷ 10 ∷ []) [] (Delay 0 ∷ []) (0 ∷ []) (Some 1) (at 10 (0 ∷ [])) ∷
    -- "due 5: Clock 4 wakes nobody, 5 does"
    case F (10 ∷ []) [] (Delay 5 ∷ Clock 4 ∷ []) (0 ∷ 0 ∷ []) None [] ∷
    case F (10 ∷ []) [] (Delay 5 ∷ Clock 5 ∷ []) (0 ∷ 0 ∷ []) (Some 0) [] ∷
    -- "Clock now: 0; now - 1: 4"
    case G (10 ∷ []) [] (Clock 5 ∷ Clock 5 ∷ Clock 4 ∷ []) (0 ∷ 0 ∷ 4 ∷ []) (Some 0) [] ∷
    -- since 2026-08 "more than 86,400,000 ticks past now": 4; "Exactly that many is taken", from a fresh start and later
    case G (10 ∷ []) [] (Clock 86400001 ∷ Clock 86400000 ∷ []) (4 ∷ 0 ∷ []) (Some 0) [] ∷
    case G (10 ∷ []) [] (Clock 7 ∷ Clock 86400008 ∷ Clock 86400007 ∷ []) (0 ∷ 4 ∷ 0 ∷ []) (Some 0) [] ∷
    -- a leap wakes nobody, though one is due
    case G (10 ∷ []) [] (Delay 5 ∷ Clock 86400001 ∷ []) (0 ∷ 4 ∷ []) None [] ∷
    -- "Delay 0 inside: 7"
    case H (10 ∷ []) (20 ∷ []) (Enter 0 ∷ Delay 0 ∷ []) (0 ∷ 7 ∷ []) (Some 0) [] ∷
    -- "Suspend with permit runs on"
    case I (10 ∷ 10 ∷ []) [] (Release 0 ∷ Suspend ∷ []) (0 ∷ 0 ∷ []) (Some 0) (at 10 (1 ∷ [])) ∷
    -- "outer object left first: 9"
    case J (10 ∷ []) (20 ∷ 20 ∷ []) (Enter 0 ∷ Enter 1 ∷ Leave 0 ∷ []) (0 ∷ 0 ∷ 9 ∷ []) (Some 0) [] ∷
    -- "bases 10, 10, ceiling 20: Enter, Set 0, 10, Leave: 1 runs, queue 0"
    case K (10 ∷ 10 ∷ []) (20 ∷ []) (Enter 0 ∷ Set 0 (to 10) ∷ Leave 0 ∷ []) (0 ∷ 0 ∷ 0 ∷ []) (Some 1) (at 10 (0 ∷ [])) ∷
    -- "Set to 32: 0; to 33 or 0: 3"
    case L (10 ∷ []) [] (Set 0 (to 32) ∷ Set 0 (to 33) ∷ Set 0 (to 0) ∷ []) (0 ∷ 3 ∷ 3 ∷ []) (Some 0) [] ∷
    []

-- every case comes out as expected
abbrev pub CasesClaim : Type 0
CasesClaim = map outcome marked_cases ≡ map expected marked_cases
