-- Rosters worked out: document 01's whole case, and rosters with one fault or several, each with what the check answers.
use Rattle.std.specs.Prelude.{◌≡◌, List, [], ◌∷◌, ◌++◌, map, ℕ, ◌+◌, ◌<◌, length, set, replicate, Ok, Err}
use Rattle.format.specs.Answers.{number_of, task_of, position_of}
use Rattle.format.specs.Form.{script_answer, script_part}
use Rattle.format.specs.Readers.{base_found, ceiling_found, count_found, step_found}
use Rattle.format.specs.Check.{check_of}
use Rattle.rules.specs.declared.Priority.{Priority}
use Rattle.format.specs.declared.Step.TheVariants.{Delay, Finish}
use Rattle.format.specs.declared.Fault.TheVariants.{NoSuchTask, NoSuchObject, BadLength, BadMark}

-- "Whole case, roster of 46 bytes", with a ceiling: two scripts, the task table, the object table, the trailer
abbrev pub whole_case : ℕ → List ℕ
whole_case ceiling =
    1 ∷ 0 ∷ 0 ∷ 0 ∷ 4 ∷ 0 ∷ 0 ∷ 0 ∷ 2 ∷ 0 ∷ 0 ∷ 0 ∷
    3 ∷ 0 ∷ 5 ∷ 0 ∷ 1 ∷ 0 ∷ 0 ∷ 0 ∷ 2 ∷ 0 ∷ 0 ∷ 0 ∷
    10 ∷ 0 ∷ 0 ∷ 0 ∷ 12 ∷ 0 ∷ 20 ∷ 0 ∷ 12 ∷ 0 ∷ 12 ∷ 0 ∷
    ceiling ∷ 0 ∷
    82 ∷ 53 ∷ 2 ∷ 1 ∷ 36 ∷ 0 ∷ 24 ∷ 0 ∷ []

-- a step: code, a, and b below 256
abbrev pub step_bytes : ℕ → ℕ → ℕ → List ℕ
step_bytes code a b = code ∷ a ∷ b ∷ 0 ∷ []

abbrev pub enter : ℕ → List ℕ
enter o = step_bytes 1 o 0

abbrev pub leave : ℕ → List ℕ
leave o = step_bytes 2 o 0

abbrev pub delay : ℕ → List ℕ
delay d = step_bytes 3 0 d

abbrev pub work : List ℕ
work = step_bytes 4 0 0

abbrev pub suspend : List ℕ
suspend = step_bytes 5 0 0

abbrev pub set_to : ℕ → ℕ → List ℕ
set_to t p = step_bytes 7 t p

abbrev pub again : List ℕ
again = step_bytes 8 0 0

-- one task and two objects, with a script; two tasks of base 10 and one object of ceiling 10, with two scripts
abbrev pub alone : List ℕ → ℕ → ℕ → ℕ → List ℕ
alone script base low high =
    script ++ (base ∷ 0 ∷ 0 ∷ 0 ∷ length script ∷ 0 ∷ low ∷ 0 ∷ high ∷ 0 ∷
    82 ∷ 53 ∷ 1 ∷ 2 ∷ (length script + 6) ∷ 0 ∷ length script ∷ 0 ∷ [])

abbrev pub two : List ℕ → List ℕ → List ℕ
two one other =
    one ++ other ++ (10 ∷ 0 ∷ 0 ∷ 0 ∷ length one ∷ 0 ∷ 10 ∷ 0 ∷ length one ∷ 0 ∷ length other ∷ 0 ∷ 10 ∷ 0 ∷
    82 ∷ 53 ∷ 2 ∷ 1 ∷ (length one + length other + 12) ∷ 0 ∷ (length one + length other) ∷ 0 ∷ [])

-- 26 bytes that pass: the script 0 to 7, the task's row from 8, the objects' from 14, the trailer from 18
abbrev pub plain : List ℕ
plain = alone (enter 0 ++ leave 0) 10 10 20

-- a script of one step for the second of two tasks
abbrev pub second : List ℕ → List ℕ
second step = two [] step

-- a roster, and number, task and step of the answer
pub record Case : Type 0 where
  pub roster : List ℕ
  pub says : List ℕ

abbrev pub case : List ℕ → ℕ → ℕ → ℕ → Case
case s number task step = record { roster = s; says = number ∷ task ∷ step ∷ [] }

unfoldable pub cases : List Case
cases =
    case (whole_case 20) 0 0 0 ∷
    case (whole_case 19) 18 1 1 ∷
    case plain 0 0 0 ∷
    -- "11 to 15: lowest wins": each with a later fault as well
    case (replicate 13 0) 11 0 0 ∷
    case (set (set plain 18 53) 20 0) 12 0 0 ∷
    case (set plain 19 52) 12 0 0 ∷
    case (set plain 20 0) 13 0 0 ∷
    case (set plain 20 65) 13 0 0 ∷
    case (set plain 21 33) 13 0 0 ∷
    case (set (set plain 10 4) 8 0) 14 0 0 ∷
    case (set plain 22 15) 14 0 0 ∷
    case (set (set plain 8 33) 0 9) 15 0 0 ∷
    case (set plain 8 0) 15 0 0 ∷
    case (set plain 9 1) 15 0 0 ∷
    case (set plain 14 0) 15 0 0 ∷
    case (set plain 17 1) 15 0 0 ∷
    -- 16 "a step that breaks the lines above": a code that is none
    case (second (step_bytes 0 0 0)) 16 1 0 ∷
    case (second (step_bytes 9 0 0)) 16 1 0 ∷
    -- "Unused operands are 0."
    case (second (step_bytes 1 0 1)) 16 1 0 ∷
    case (second (step_bytes 2 0 1)) 16 1 0 ∷
    case (second (step_bytes 3 1 0)) 16 1 0 ∷
    case (second (step_bytes 4 0 1)) 16 1 0 ∷
    case (second (step_bytes 5 1 0)) 16 1 0 ∷
    case (second (step_bytes 6 0 1)) 16 1 0 ∷
    case (second (step_bytes 8 0 1)) 16 1 0 ∷
    -- "names no listed object or task"
    case (second (enter 1)) 16 1 0 ∷
    case (second (leave 1)) 16 1 0 ∷
    case (second (step_bytes 6 2 0)) 16 1 0 ∷
    case (second (set_to 2 10)) 16 1 0 ∷
    -- "Again (.. only as a script's last)"
    case (second (again ++ work)) 16 1 0 ∷
    -- "sets a base outside 1 to 32"
    case (second (set_to 1 0)) 16 1 0 ∷
    case (second (set_to 1 33)) 16 1 0 ∷
    -- a 16 in a later task comes before a 17
    case (two (enter 0) (step_bytes 9 0 0)) 16 1 0 ∷
    -- 17
    case (second (enter 0 ++ delay 1)) 17 1 1 ∷
    case (second (enter 0 ++ suspend)) 17 1 1 ∷
    case (second (enter 0 ++ again)) 17 1 1 ∷
    case (two (enter 0) []) 17 0 1 ∷
    -- .. an Enter of a held object, its ceiling being too low as well
    case (alone (enter 0 ++ enter 1 ++ enter 0) 10 10 20) 17 0 2 ∷
    -- 18: the base, a Set that comes later, a held ceiling
    case (alone (work ++ enter 0 ++ leave 0) 11 10 20) 18 0 1 ∷
    case (alone (work ++ enter 0 ++ leave 0 ++ set_to 0 11) 10 10 20) 18 0 1 ∷
    case (alone (enter 1 ++ enter 0 ++ leave 0 ++ leave 1) 10 10 20) 18 0 1 ∷
    -- 19: the outer one, one that is not held
    case (alone (enter 0 ++ enter 1 ++ leave 0 ++ leave 1) 10 10 20) 19 0 2 ∷
    case (alone (work ++ leave 0) 10 10 20) 19 0 1 ∷
    -- 20
    case (two (work ++ set_to 1 10) []) 20 0 1 ∷
    case (two (set_to 0 10) (set_to 1 10)) 0 0 0 ∷
    []

abbrev pub answered : List ℕ → List ℕ
answered s = number_of (check_of s) ∷ task_of (check_of s) ∷ position_of (check_of s) ∷ []

-- the check answers so
abbrev pub Judged : Type 0
Judged = map (λ (c : Case). answered c.roster) cases ≡ map (λ (c : Case). c.says) cases

-- 11 "roster up to 60,000 bytes" (2026-07)
abbrev pub LongRosterRefused : Type 0
LongRosterRefused = (s : List ℕ) → 60000 < length s → check_of s ≡ Err BadLength

-- a roster, a task, and the number and the part that its script's reader gives
pub record Lookup : Type 0 where
  pub roster : List ℕ
  pub task : ℕ
  pub number : ℕ
  pub part : List ℕ

abbrev pub lookup : List ℕ → ℕ → ℕ → List ℕ → Lookup
lookup s t number part = record { roster = s; task = t; number = number; part = part }

unfoldable pub lookups : List Lookup
lookups =
    lookup (whole_case 20) 0 0 (enter 0 ++ work ++ leave 0) ∷
    lookup (whole_case 20) 1 0 (delay 5 ++ enter 0 ++ leave 0) ∷
    -- "11 to 16, then 1", and not 17 to 20
    lookup (whole_case 19) 1 0 (delay 5 ++ enter 0 ++ leave 0) ∷
    lookup (whole_case 20) 2 1 [] ∷
    lookup (set plain 18 53) 9 12 [] ∷
    []

-- the other readers, of the whole case and of one that has no form
abbrev pub found : ℕ → Priority
found p = record { 0 = p }

pub record Read : Type 0 where
  pub base : base_found (whole_case 20) 1 ≡ Ok (found 20)
  pub no_task : base_found (whole_case 20) 2 ≡ Err NoSuchTask
  pub no_form : base_found (set plain 18 53) 9 ≡ Err BadMark
  pub ceiling : ceiling_found (whole_case 19) 0 ≡ Ok (found 19)
  pub second_ceiling : ceiling_found plain 1 ≡ Ok (found 20)
  pub no_object : ceiling_found (whole_case 20) 1 ≡ Err NoSuchObject
  pub form_first : ceiling_found (set plain 18 53) 9 ≡ Err BadMark
  pub count : count_found (whole_case 20) 1 ≡ Ok 3
  pub count_of_none : count_found (whole_case 20) 2 ≡ Err NoSuchTask
  pub step : step_found (whole_case 20) 1 0 ≡ Ok (Delay 5)
  pub at_the_end : step_found (whole_case 20) 1 3 ≡ Ok Finish
  pub step_of_none : step_found (whole_case 20) 2 0 ≡ Err NoSuchTask

-- the reader gives so
abbrev pub Looked : Type 0
Looked =
    map (λ (c : Lookup). number_of (script_answer c.roster c.task) ∷ script_part c.roster c.task) lookups ≡
    map (λ (c : Lookup). c.number ∷ c.part) lookups
