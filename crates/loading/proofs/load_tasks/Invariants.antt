-- What the loop of `loading::load_tasks` keeps.
use Rattle.std.proofs.Common.{◌≡◌}
use Rattle.rules.specs.Model.{with_tasks, blank}
use Rattle.loading.specs.Loading.{Each, TaskFrom}
use Rattle.loading.proofs.load_tasks.Given as goal

abbrev pub invariant-loop-t : goal.invariant-loop-t
invariant-loop-t g l = record {
  rest : l.memory ≡ with_tasks l.fn.memory l.memory.tasks;
  each : Each (TaskFrom (goal.T-post g l.task) l.held) blank l.t l.memory.tasks;
}
