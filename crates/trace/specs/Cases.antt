-- Runs worked out: document 01's whole case, and runs that are refused, wake, leap, release, go back and try a refused step again.
use Rattle.std.specs.Prelude.{◌≡◌, false, List, [], ◌∷◌, ◌++◌, map, ℕ, ◌<◌, length, replicate}
use Rattle.format.specs.Cases.{whole_case, enter, leave, work, suspend, again, alone, two}
use Rattle.trace.specs.Inputs.{events_good}
use Rattle.trace.specs.Answers.{number_of, task_of, position_of}
use Rattle.trace.specs.Run.{answer_of, buffer_of}

-- "Events have 8 bytes: kind, a, value (6)": values below 256
abbrev pub clock : ℕ → List ℕ
clock r = 1 ∷ 0 ∷ r ∷ 0 ∷ 0 ∷ 0 ∷ 0 ∷ 0 ∷ []

abbrev pub release : ℕ → List ℕ
release t = 2 ∷ t ∷ 0 ∷ 0 ∷ 0 ∷ 0 ∷ 0 ∷ 0 ∷ []

abbrev pub step : List ℕ
step = 3 ∷ 0 ∷ 0 ∷ 0 ∷ 0 ∷ 0 ∷ 0 ∷ 0 ∷ []

abbrev pub set : ℕ → ℕ → List ℕ
set t p = 4 ∷ t ∷ p ∷ 0 ∷ 0 ∷ 0 ∷ 0 ∷ 0 ∷ []

-- a Clock whose value has the highest of its six bytes: a leap
abbrev pub late_clock : List ℕ
late_clock = 1 ∷ 0 ∷ 0 ∷ 0 ∷ 0 ∷ 0 ∷ 0 ∷ 1 ∷ []

-- Clocks of 86,400,000 (05265C00 hex), which is the longest advance from 0, and of twice as much; each with more ticks, below 256
abbrev pub longest : ℕ → List ℕ
longest more = 1 ∷ 0 ∷ more ∷ 92 ∷ 38 ∷ 5 ∷ 0 ∷ 0 ∷ []

abbrev pub twice : ℕ → List ℕ
twice more = 1 ∷ 0 ∷ more ∷ 184 ∷ 76 ∷ 10 ∷ 0 ∷ 0 ∷ []

-- "Events: Step, Step, Clock 5, Step, Step, Step, Clock 4, Step, Step, Step, Step."
abbrev pub whole_events : List ℕ
whole_events = step ++ step ++ clock 5 ++ step ++ step ++ step ++ clock 4 ++ step ++ step ++ step ++ step

-- "`0 0`, `0 0`, `0 0`, `0 0`, `0 1`, `0 1`, `4 1`, `0 1`, `0 0`, `0 -`, `5 -`", each with its report: task 1 is delayed, which is 2;
-- at 0's Leave it preempts, which is 1; it finishes and then 0 does, which is 2 both times; all the others are 0
abbrev pub whole_replies : List ℕ
whole_replies =
    0 ∷ 0 ∷ 2 ∷ 0 ∷ 0 ∷ 0 ∷ 0 ∷ 0 ∷ 0 ∷ 0 ∷ 0 ∷ 0 ∷ 0 ∷ 1 ∷ 1 ∷ 0 ∷ 1 ∷ 0 ∷
    4 ∷ 1 ∷ 0 ∷ 0 ∷ 1 ∷ 0 ∷ 0 ∷ 0 ∷ 2 ∷ 0 ∷ 255 ∷ 2 ∷ 5 ∷ 255 ∷ 0 ∷ []

-- a roster, events, a lent buffer, the answer's number, task and step, and the buffer afterwards
pub record Case : Type 0 where
  pub roster : List ℕ
  pub events : List ℕ
  pub buffer : List ℕ
  pub says : List ℕ
  pub after : List ℕ

-- a run that is done: two bytes more than it writes stay
abbrev pub done : List ℕ → List ℕ → List ℕ → Case
done roster events replies =
    record {
      roster = roster;
      events = events;
      buffer = replicate (length replies) 7 ++ (8 ∷ 9 ∷ []);
      says = 0 ∷ 0 ∷ 0 ∷ [];
      after = replies ++ (8 ∷ 9 ∷ []);
    }

-- one that is refused: all bytes of a buffer of size bytes stay
abbrev pub refused : List ℕ → List ℕ → ℕ → ℕ → ℕ → ℕ → Case
refused roster events size number task position =
    record {
      roster = roster;
      events = events;
      buffer = replicate size 7;
      says = number ∷ task ∷ position ∷ [];
      after = replicate size 7;
    }

unfoldable pub cases : List Case
cases =
    done (whole_case 20) whole_events whole_replies ∷
    -- "With ceiling 19 .. `refused 18 1 1`"
    refused (whole_case 19) whole_events 33 18 1 1 ∷
    -- no events: nothing is written
    done (whole_case 20) [] [] ∷
    -- "It refuses with 11 to 20; then 21 (..); then 22 (buffer shorter than needed)."
    refused (whole_case 19) (9 ∷ []) 0 18 1 1 ∷
    refused (whole_case 20) (step ++ (5 ∷ 0 ∷ 0 ∷ 0 ∷ 0 ∷ 0 ∷ 0 ∷ 0 ∷ [])) 0 21 0 0 ∷
    refused (whole_case 20) (step ++ step) 5 22 0 0 ∷
    refused (whole_case 20) whole_events 22 22 0 0 ∷
    -- 21 "length no multiple of 8, .., an unknown kind, an unused field not 0"
    refused (whole_case 20) (step ++ (3 ∷ [])) 6 21 0 0 ∷
    refused (whole_case 20) (0 ∷ 0 ∷ 0 ∷ 0 ∷ 0 ∷ 0 ∷ 0 ∷ 0 ∷ []) 3 21 0 0 ∷
    refused (whole_case 20) (1 ∷ 1 ∷ 0 ∷ 0 ∷ 0 ∷ 0 ∷ 0 ∷ 0 ∷ []) 3 21 0 0 ∷
    refused (whole_case 20) (2 ∷ 0 ∷ 0 ∷ 0 ∷ 0 ∷ 0 ∷ 0 ∷ 1 ∷ []) 3 21 0 0 ∷
    refused (whole_case 20) (3 ∷ 1 ∷ 0 ∷ 0 ∷ 0 ∷ 0 ∷ 0 ∷ 0 ∷ []) 3 21 0 0 ∷
    refused (whole_case 20) (3 ∷ 0 ∷ 0 ∷ 0 ∷ 0 ∷ 0 ∷ 0 ∷ 1 ∷ []) 3 21 0 0 ∷
    -- all six bytes of a value count
    done (whole_case 20) (late_clock ++ clock 255) (4 ∷ 1 ∷ 0 ∷ 0 ∷ 1 ∷ 0 ∷ []) ∷
    done (whole_case 20) (4 ∷ 1 ∷ 10 ∷ 0 ∷ 0 ∷ 0 ∷ 0 ∷ 1 ∷ []) (3 ∷ 1 ∷ 0 ∷ []) ∷
    -- 2026-08: a leap is 4 and wakes nobody, task 1 being due from 5 on; the next reading is measured from the old now
    done (whole_case 20) (step ++ longest 1 ++ clock 5 ++ longest 6 ++ longest 5 ++ twice 6 ++ twice 5)
    (0 ∷ 0 ∷ 2 ∷ 4 ∷ 0 ∷ 0 ∷ 0 ∷ 1 ∷ 1 ∷ 4 ∷ 1 ∷ 0 ∷ 0 ∷ 1 ∷ 0 ∷ 4 ∷ 1 ∷ 0 ∷ 0 ∷ 1 ∷ 0 ∷ []) ∷
    -- a Release of the task that it names; of none
    done (two suspend suspend) (step ++ step ++ release 1 ++ release 2) (0 ∷ 1 ∷ 2 ∷ 0 ∷ 255 ∷ 2 ∷ 0 ∷ 1 ∷ 2 ∷ 1 ∷ 1 ∷ 0 ∷ []) ∷
    -- Again: "the place goes back to the first step"; "A step asked at the script's end is Finish."
    done (alone (work ++ again) 10 10 20) (step ++ step ++ step) (0 ∷ 0 ∷ 0 ∷ 0 ∷ 0 ∷ 0 ∷ 0 ∷ 0 ∷ 0 ∷ []) ∷
    done (alone work 10 10 20) (step ++ step) (0 ∷ 0 ∷ 0 ∷ 0 ∷ 255 ∷ 2 ∷ []) ∷
    -- "One step moves its task's place on, if accepted": a refused one is tried again
    done (alone (enter 0 ++ leave 0) 10 10 20) (set 0 30 ++ step ++ set 0 10 ++ step ++ step)
    (0 ∷ 0 ∷ 0 ∷ 8 ∷ 0 ∷ 0 ∷ 0 ∷ 0 ∷ 0 ∷ 0 ∷ 0 ∷ 0 ∷ 0 ∷ 0 ∷ 0 ∷ []) ∷
    -- 2026-10: another preempts; it goes to a tail and a higher one replaces it; that one goes to a tail and is picked again; away, away,
    -- back, a lower one back, the end
    done (two suspend suspend) (set 1 30 ++ set 1 1 ++ set 0 5 ++ step ++ step ++ release 0 ++ release 1 ++ step)
    (0 ∷ 1 ∷ 1 ∷ 0 ∷ 0 ∷ 2 ∷ 0 ∷ 0 ∷ 0 ∷ 0 ∷ 1 ∷ 2 ∷ 0 ∷ 255 ∷ 2 ∷ 0 ∷ 0 ∷ 2 ∷ 0 ∷ 0 ∷ 0 ∷ 0 ∷ 1 ∷ 2 ∷ []) ∷
    []

-- what a run answers, and the buffer afterwards
abbrev pub answered : Case → List ℕ
answered c =
    number_of (answer_of c.roster c.events (length c.buffer)) ∷ task_of (answer_of c.roster c.events (length c.buffer)) ∷
    position_of (answer_of c.roster c.events (length c.buffer)) ∷ buffer_of c.roster c.events c.buffer

-- every run does so
abbrev pub Traced : Type 0
Traced = map answered cases ≡ map (λ (c : Case). c.says ++ c.after) cases

-- 21 "over 32,768"
abbrev pub LongEventsRefused : Type 0
LongEventsRefused = (events : List ℕ) → 32768 < length events → events_good events ≡ false
