-- What the form keeps for the check's walk: of each task the highest of its base and its own Set values.
use Rattle.std.specs.Prelude.{◌≡◌, List, ℕ, ◌≤◌, ◌<◌, length, get_or}
use Rattle.rules.specs.declared.Priority.{Priority}
use Rattle.format.specs.Format.{task_count}
use Rattle.format.specs.Roster.{roster_of}
use Rattle.format.specs.Check.{top_at}

-- of the first n tasks of a roster s
pub record ToppedTo (s : List ℕ) (n : ℕ) (tops : List Priority) : Type 0 where
  pub room : n ≤ length tops
  pub at : (t : ℕ) → t < n → (get_or tops t (record { 0 = 0 })).0 ≡ top_at (roster_of s) t

abbrev pub Topped : List ℕ → List Priority → Type 0
Topped s tops = ToppedTo s (task_count s) tops
