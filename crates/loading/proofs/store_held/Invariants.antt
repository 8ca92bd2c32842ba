-- What the loop of `loading::store_held` keeps.
use Rattle.std.proofs.Common.{◌≡◌, ◌*◌, take, map}
use mathlib.Core.List.{flat_map}
use Rattle.memory.specs.Rows.{row_for, held_width}
use Rattle.loading.specs.Loading.{holding}
use Rattle.loading.proofs.store_held.Given as goal

abbrev pub invariant-loop-t : goal.invariant-loop-t
invariant-loop-t l = take (l.t * held_width) l.held ≡ flat_map (row_for held_width) (take l.t (map holding l.memory.tasks))
