-- What the loop of `memory::queues::empty` keeps.
use Rattle.std.proofs.Common.{◌≡◌, ℕ, ◌<◌, [], length, get_or}
use Rattle.memory.proofs.queues.empty.Given as goal

abbrev pub invariant-loop-row : goal.invariant-loop-row
invariant-loop-row l = (length l.queues ≡ 32) × ((k : ℕ) → k < l.row-index → get_or l.queues k [] ≡ [])
