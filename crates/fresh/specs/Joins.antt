-- What a fresh start needs of the tasks that have not joined a queue yet.
use Rattle.std.specs.Prelude.{ℕ, ◌<◌, length}
use Rattle.rules.specs.Model.{Model}
use Rattle.rules.specs.Fresh.{join_from}
use Rattle.moves.specs.Room.{Arrives}

-- the tasks can join their queues in number order
pub record JoinAll (m : Model) : Type 0 where
  pub next : (t : ℕ) → t < length m.tasks → Arrives (join_from 0 t m) t
