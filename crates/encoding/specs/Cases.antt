-- Written rosters worked out: document 01's whole case from its parts, and what is refused, each with its answer.
use Rattle.std.specs.Prelude.{◌≡◌, List, [], ◌∷◌, ◌++◌, map, ℕ, replicate}
use Rattle.format.specs.Cases.{whole_case, step_bytes, enter, leave, delay, work, set_to, again}
use Rattle.encoding.specs.File.{Parts, parts, file_of}
use Rattle.encoding.specs.Answers.{number_of, task_of, position_of, write_answer_of, write_buffer_of, written_of}

-- the whole case's steps, and its parts with a ceiling
abbrev pub whole_steps : List ℕ
whole_steps = enter 0 ++ work ++ leave 0 ++ delay 5 ++ enter 0 ++ leave 0

abbrev pub whole : List ℕ → List ℕ → List ℕ → Parts
whole bases ceilings lengths = parts bases ceilings lengths whole_steps

-- two tasks of base 10 and an object of ceiling 10, with a script of one step for the second
abbrev pub second_steps : List ℕ → Parts
second_steps step = parts (10 ∷ 10 ∷ []) (10 ∷ []) (0 ∷ 1 ∷ []) step

-- parts, the room in bytes, and number, task and step of the answer
pub record Case : Type 0 where
  pub given : Parts
  pub room : ℕ
  pub says : List ℕ

abbrev pub case : Parts → ℕ → ℕ → ℕ → ℕ → Case
case p room number task step = record { given = p; room = room; says = number ∷ task ∷ step ∷ [] }

unfoldable pub cases : List Case
cases =
    case (whole (10 ∷ 20 ∷ []) (20 ∷ []) (3 ∷ 3 ∷ [])) 46 0 0 0 ∷
    case (whole (10 ∷ 20 ∷ []) (20 ∷ []) (0 ∷ 6 ∷ [])) 46 0 0 0 ∷
    case (parts (1 ∷ []) [] (0 ∷ []) []) 14 0 0 0 ∷
    -- 17 to 20 are not applied: Leave of what is not held, Set of another task
    case (second_steps (leave 0)) 30 0 0 0 ∷
    case (second_steps (set_to 0 32)) 30 0 0 0 ∷
    -- 22: one byte less room
    case (whole (10 ∷ 20 ∷ []) (20 ∷ []) (3 ∷ 3 ∷ [])) 45 22 0 0 ∷
    -- 13, though 14 applies too: no bases, 65, 33 ceilings
    case (whole [] (20 ∷ []) (3 ∷ 3 ∷ [])) 46 13 0 0 ∷
    case (whole (replicate 65 10) (20 ∷ []) (3 ∷ 3 ∷ [])) 46 13 0 0 ∷
    case (whole (10 ∷ 20 ∷ []) (replicate 33 20) (3 ∷ 2 ∷ [])) 46 13 0 0 ∷
    -- 14, though 15 applies too: a length too few, one too many, a step too few, a step too many, bytes that are no step
    case (whole (10 ∷ 33 ∷ []) (20 ∷ []) (6 ∷ [])) 46 14 0 0 ∷
    case (whole (10 ∷ 33 ∷ []) (20 ∷ []) (3 ∷ 3 ∷ 0 ∷ [])) 46 14 0 0 ∷
    case (whole (10 ∷ 33 ∷ []) (20 ∷ []) (3 ∷ 2 ∷ [])) 46 14 0 0 ∷
    case (whole (10 ∷ 33 ∷ []) (20 ∷ []) (3 ∷ 4 ∷ [])) 46 14 0 0 ∷
    case (parts (10 ∷ []) (33 ∷ []) (1 ∷ []) (4 ∷ 0 ∷ 0 ∷ [])) 46 14 0 0 ∷
    -- 15, though 16 applies too
    case (parts (33 ∷ []) [] (1 ∷ []) (enter 0)) 46 15 0 0 ∷
    case (parts (0 ∷ []) [] (1 ∷ []) (enter 0)) 46 15 0 0 ∷
    case (parts (10 ∷ []) (33 ∷ []) (1 ∷ []) (enter 1)) 46 15 0 0 ∷
    case (parts (10 ∷ []) (0 ∷ []) (1 ∷ []) (enter 1)) 46 15 0 0 ∷
    -- 16, though 22 applies too: no objects, so that Enter 0 names none; with an empty first script it is task 1's
    case (whole (10 ∷ 20 ∷ []) [] (3 ∷ 3 ∷ [])) 0 16 0 0 ∷
    case (whole (10 ∷ 20 ∷ []) [] (0 ∷ 6 ∷ [])) 0 16 1 0 ∷
    case (second_steps (step_bytes 0 0 0)) 0 16 1 0 ∷
    case (second_steps (step_bytes 9 0 0)) 0 16 1 0 ∷
    case (second_steps (step_bytes 4 0 1)) 0 16 1 0 ∷
    case (second_steps (step_bytes 6 2 0)) 0 16 1 0 ∷
    case (second_steps (set_to 0 33)) 0 16 1 0 ∷
    case (parts (10 ∷ 10 ∷ []) [] (1 ∷ 2 ∷ []) (again ++ work ++ step_bytes 4 1 0)) 0 16 1 1 ∷
    case (parts (10 ∷ 10 ∷ []) [] (2 ∷ 0 ∷ []) (again ++ again)) 0 16 0 0 ∷
    []

abbrev pub answered : Case → List ℕ
answered c = let a = write_answer_of c.given c.room in number_of a ∷ task_of a ∷ position_of a ∷ []

-- each case is answered as it says
abbrev pub WritingsAnswered : Type 0
WritingsAnswered = map answered cases ≡ map (λ (c : Case). c.says) cases

-- the roster of 46 bytes, written into 48: two bytes stay; into 45: all stay, and the part is empty
pub record WholeWritten : Type 0 where
  pub file : file_of (whole (10 ∷ 20 ∷ []) (20 ∷ []) (3 ∷ 3 ∷ [])) ≡ whole_case 20
  pub buffer : write_buffer_of (whole (10 ∷ 20 ∷ []) (20 ∷ []) (3 ∷ 3 ∷ [])) (replicate 48 7) ≡ whole_case 20 ++ replicate 2 7
  pub part : written_of (whole (10 ∷ 20 ∷ []) (20 ∷ []) (3 ∷ 3 ∷ [])) 48 ≡ whole_case 20
  pub kept : write_buffer_of (whole (10 ∷ 20 ∷ []) (20 ∷ []) (3 ∷ 3 ∷ [])) (replicate 45 7) ≡ replicate 45 7
  pub none : written_of (whole (10 ∷ 20 ∷ []) (20 ∷ []) (3 ∷ 3 ∷ [])) 45 ≡ []
