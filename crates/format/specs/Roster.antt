-- What a roster says: bases, ceilings and scripts.
use Rattle.std.specs.Prelude.{List, [], ℕ, get_or}
use Rattle.format.specs.Format.{task_count, object_count, base_at, ceiling_at, part_at}
use Rattle.rules.specs.Fresh.{Setup}
use Rattle.words.specs.Words.{tabulate}
use Rattle.format.specs.Steps.{steps_of}
use Rattle.format.specs.declared.Step.{Step}

pub record Roster : Type 0 where
  pub bases : List ℕ
  pub ceilings : List ℕ
  pub scripts : List (List Step)

-- from its bytes; a reader that wants their form asks for it first
unfoldable pub roster_of : List ℕ → Roster
roster_of s =
    record {
      bases = tabulate (task_count s) (base_at s);
      ceilings = tabulate (object_count s) (ceiling_at s);
      scripts = tabulate (task_count s) (λ t. steps_of (part_at s t));
    }

-- what a fresh start of it is made from
abbrev pub setup_of : Roster → Setup
setup_of r = record { bases = r.bases; ceilings = r.ceilings }

-- the base and the script of a task
abbrev pub base_of : Roster → ℕ → ℕ
base_of r t = get_or r.bases t 0

abbrev pub script_of : Roster → ℕ → List Step
script_of r t = get_or r.scripts t []
