-- What the loop of `cells::front::put_front` keeps: the rows so far are put, and those to come belong behind them.
use mathlib.Core.List.{List, flat_map}
use Rattle.std.proofs.Common.{◌≡◌, ◌+◌, ◌*◌, drop}
use lib.Seq.{sets}
use Rattle.rules.specs.declared.Task.{Task}
use Rattle.cells.specs.Sizes.{tasks_start, task_size}
use Rattle.cells.specs.Encode.{task_bytes}
use Rattle.cells.specs.Front.{TasksGiven}
use Rattle.cells.specs.contracts.front.put_front.T-Fn as fn
use Rattle.cells.proofs.front.put_front.Given as goal

abbrev pub invariant-loop-t : goal.invariant-loop-t
invariant-loop-t g l =
    (ks : List Task) → TasksGiven ((fn.words g.row.T g.T.Fn).post l.fn.task) ks →
    sets l.initial.bytes tasks_start (flat_map task_bytes ks) ≡
    sets l.bytes (tasks_start + task_size * l.t) (flat_map task_bytes (drop l.t ks))
