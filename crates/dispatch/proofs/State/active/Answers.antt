-- `dispatch::State::active` meets its contract.
use Rattle.std.proofs.Common.{◌∙◌, ap}
use Rattle.rules.specs.Priorities.{priority}
use Rattle.dispatch.specs.Readers.{active_priority_of, task_record_of, held_of}
use Rattle.dispatch.proofs.State.active.Goals as goal

pub returns : goal.returns
unfolding active_priority_of task_record_of held_of
returns c = ap priority (c.highest_of.ensures ∙ rw (c.ceilings.ensures, c.task.ensures, c.held.ensures))
