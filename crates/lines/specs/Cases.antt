-- What the program prints of document 01's whole case, in ASCII.
use Rattle.std.specs.Prelude.{◌≡◌, List, [], ◌∷◌, ℕ}
use Rattle.format.specs.Cases.{whole_case}
use Rattle.trace.specs.Cases.{whole_events}
use Rattle.lines.specs.Printed.{printed}

-- "`passed`, `0 0`, `0 0`, `0 0`, `0 0`, `0 1`, `0 1`, `4 1`, `0 1`, `0 0`, `0 -`, `5 -`, `end`", one line each, and with the reports of
-- 2026-10 `0 0 2`, `0 0 0`, `0 0 0`, `0 0 0`, `0 1 1`, `0 1 0`, `4 1 0`, `0 1 0`, `0 0 2`, `0 - 2`, `5 - 0`
abbrev pub whole_text : List ℕ
whole_text =
    112 ∷ 97 ∷ 115 ∷ 115 ∷ 101 ∷ 100 ∷ 10 ∷
    48 ∷ 32 ∷ 48 ∷ 32 ∷ 50 ∷ 10 ∷ 48 ∷ 32 ∷ 48 ∷ 32 ∷ 48 ∷ 10 ∷ 48 ∷ 32 ∷ 48 ∷ 32 ∷ 48 ∷ 10 ∷
    48 ∷ 32 ∷ 48 ∷ 32 ∷ 48 ∷ 10 ∷ 48 ∷ 32 ∷ 49 ∷ 32 ∷ 49 ∷ 10 ∷ 48 ∷ 32 ∷ 49 ∷ 32 ∷ 48 ∷ 10 ∷
    52 ∷ 32 ∷ 49 ∷ 32 ∷ 48 ∷ 10 ∷ 48 ∷ 32 ∷ 49 ∷ 32 ∷ 48 ∷ 10 ∷ 48 ∷ 32 ∷ 48 ∷ 32 ∷ 50 ∷ 10 ∷
    48 ∷ 32 ∷ 45 ∷ 32 ∷ 50 ∷ 10 ∷ 53 ∷ 32 ∷ 45 ∷ 32 ∷ 48 ∷ 10 ∷
    101 ∷ 110 ∷ 100 ∷ 10 ∷ []

-- "With ceiling 19 (13 hex) the output is the one line `refused 18 1 1`."
abbrev pub refused_text : List ℕ
refused_text =
    114 ∷ 101 ∷ 102 ∷ 117 ∷ 115 ∷ 101 ∷ 100 ∷ 32 ∷ 49 ∷ 56 ∷ 32 ∷ 49 ∷ 32 ∷ 49 ∷ 10 ∷ []

pub record WholePrinted : Type 0 where
  pub whole : printed (whole_case 20) whole_events ≡ whole_text
  pub refused : printed (whole_case 19) whole_events ≡ refused_text
