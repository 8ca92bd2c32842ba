-- What the scripts of a run mean: the bytes of the roster that they are of.
use Rattle.std.specs.Prelude.{◌≡◌, List, ℕ, ◌≤◌, ◌<◌, length, get_or}
use Rattle.rules.specs.Limits.{task_limit}
use Rattle.format.specs.Format.{task_count, start_at, length_at}
use Rattle.turns.specs.declared.scripts.Part.{Part}
use Rattle.turns.specs.declared.scripts.Scripts.TheInside.{Inside}

abbrev pub bytes_in : Inside → List ℕ
bytes_in a = a.roster.now

-- where a task's script lies, by the task table
abbrev pub part_of : List ℕ → ℕ → Part
part_of s t = record { start = start_at s t; length = length_at s t }

abbrev pub no_part : Part
no_part = record { start = 0; length = 0 }

-- where the scripts lie; behind the last task's there may be anything
pub record Found (a : Inside) : Type 0 where
  pub room : length a.parts ≡ task_limit
  pub few : task_count a.roster.now ≤ task_limit
  pub each : (t : ℕ) → t < task_count a.roster.now → get_or a.parts t no_part ≡ part_of a.roster.now t
