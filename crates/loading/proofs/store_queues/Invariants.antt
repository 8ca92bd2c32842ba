-- What the loop of `loading::store_queues` keeps.
use Rattle.std.proofs.Common.{◌≡◌, ◌*◌, take}
use mathlib.Core.List.{flat_map}
use Rattle.memory.specs.Rows.{row_for, queue_width}
use Rattle.loading.proofs.store_queues.Given as goal

abbrev pub invariant-loop-i : goal.invariant-loop-i
invariant-loop-i l = take (l.i * queue_width) l.queues ≡ flat_map (row_for queue_width) (take l.i l.memory.ready)
