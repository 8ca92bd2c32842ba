-- The steps of a script, from its bytes.
use Rattle.std.specs.Prelude.{cond, List, ℕ, ◌+◌, ◌*◌, ◌/◌, eqb, length, get_or, None, Option, Some}
use Rattle.rules.specs.Priorities.{checked_of}
use Rattle.rules.specs.declared.Priority.{Priority}
use Rattle.words.specs.Words.{tabulate}
use Rattle.format.specs.Limits.{step_size, enter_code, leave_code, delay_code, work_code, suspend_code, release_code, set_code, again_code}
use Rattle.words.specs.Words.{byte_at, word_at}
use Rattle.format.specs.declared.Step.{Step}
use Rattle.format.specs.declared.Step.TheVariants.{Enter, Leave, Delay, Work, Suspend, Release, Set, Again, Finish}

-- "7 Set a, b": a value outside 1 to 32 is no base to set
unfoldable pub set_step : ℕ → Option Priority → Step
set_step a (Some p) = Set a p
set_step a None = Finish

-- "Codes: 1 Enter a; 2 Leave a; 3 Delay b; 4 Work; 5 Suspend; 6 Release a; 7 Set a, b; 8 Again"; what is none of these reads as
-- Finish, which is no step of a script: is_step in Form.antt
unfoldable pub step_of : ℕ → ℕ → ℕ → Step
step_of code a b =
    cond (eqb code enter_code) (Enter a)
    (cond (eqb code leave_code) (Leave a)
    (cond (eqb code delay_code) (Delay b)
    (cond (eqb code work_code) Work
    (cond (eqb code suspend_code) Suspend
    (cond (eqb code release_code) (Release a)
    (cond (eqb code set_code) (set_step a (checked_of b))
    (cond (eqb code again_code) Again
    Finish)))))))

-- "A step has 4 bytes: code, a, b (2)."
unfoldable pub code_at : List ℕ → ℕ → ℕ
code_at part k = byte_at part (step_size * k)

unfoldable pub a_at : List ℕ → ℕ → ℕ
a_at part k = byte_at part (step_size * k + 1)

unfoldable pub b_at : List ℕ → ℕ → ℕ
b_at part k = word_at part (step_size * k + 2)

unfoldable pub step_at : List ℕ → ℕ → Step
step_at part k = step_of (code_at part k) (a_at part k) (b_at part k)

-- the steps of a script's bytes
abbrev pub step_count : List ℕ → ℕ
step_count part = length part / step_size

unfoldable pub steps_of : List ℕ → List Step
steps_of part = tabulate (step_count part) (step_at part)

-- "A step asked at the script's end is Finish."
abbrev pub step_in : List Step → ℕ → Step
step_in steps k = get_or steps k Finish
