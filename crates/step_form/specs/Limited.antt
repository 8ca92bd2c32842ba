-- The table of limits by which the form tests most steps.
use Rattle.std.specs.Prelude.{◌≡◌, Bool, cond, ◌&&◌, List, ℕ, eqb, ltb, length, get_or}
use Rattle.format.specs.Limits.{enter_code, leave_code, work_code, suspend_code, release_code}

-- a code is a byte
abbrev pub code_range : ℕ
code_range = 256

-- what the first operand has to be below where the second is 0, of n tasks and m objects; 0 where a step needs another test
unfoldable pub limit_of : ℕ → ℕ → ℕ → ℕ
limit_of n m code =
    cond (eqb code enter_code) m
    (cond (eqb code leave_code) m
    (cond (eqb code work_code) 1
    (cond (eqb code suspend_code) 1
    (cond (eqb code release_code) n
    0))))

-- a table of them
pub record Limited (n m : ℕ) (limits : List ℕ) : Type 0 where
  pub room : length limits ≡ code_range
  pub at : (code : ℕ) → get_or limits code 0 ≡ limit_of n m code

-- a step that needs no other test than its limit
abbrev pub is_within : List ℕ → ℕ → ℕ → ℕ → Bool
is_within limits code a b = eqb b 0 && ltb a (get_or limits code 0)
