-- How the records are read that are written in front of a state's lists.
use Rattle.std.specs.Prelude.{◌≡◌, List, ℕ, ◌<◌, length, get_or}
use Rattle.rules.specs.Limits.{task_limit}
use Rattle.rules.specs.declared.Task.{Task}
use Rattle.memory.specs.Memory.{blank_task}

-- the records ks, one for each task that there may be, each given by a closure
pub record TasksGiven (post : ℕ → Task → Type 0) (ks : List Task) : Type 0 where
  pub count : length ks ≡ task_limit
  pub same : (t : ℕ) (k : Task) → t < task_limit → post t k → k ≡ get_or ks t blank_task
