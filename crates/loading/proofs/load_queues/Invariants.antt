-- What the loop of `loading::load_queues` keeps.
use Rattle.std.proofs.Common.{◌≡◌, ◌++◌, take, drop}
use Rattle.rules.specs.Model.{with_ready}
use Rattle.memory.specs.Rows.{queues_in}
use Rattle.loading.proofs.load_queues.Given as goal

abbrev pub invariant-loop-i : goal.invariant-loop-i
invariant-loop-i l = l.memory ≡ with_ready l.fn.memory (take l.i (queues_in l.queues) ++ drop l.i l.fn.memory.ready)
