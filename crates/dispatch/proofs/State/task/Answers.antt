-- `dispatch::State::task` meets its contract.
use Rattle.std.proofs.Common.{◌∙◌, ◌<◌, sym, arith, rules}
use borrow.Author.Tests.{ltb-true, ltb-false}
use Rattle.rules.specs.Limits.{task_limit}
use Rattle.memory.specs.Memory.{blank_task}
use Rattle.std.proofs.lemmas.List.{get_or_default}
use Rattle.dispatch.proofs.Known.{Shaped}
use Rattle.dispatch.proofs.ReaderLaws.{there, task-is, task-none}
use Rattle.dispatch.proofs.State.task.Goals as goal

pub offset_bounds-self-t : goal.offset_bounds-self-t
offset_bounds-self-t c =
    let s = c.args.self.now in
    let shape : Shaped s = record { tasks = search rules; held = search rules; ceilings = search rules; queues = search rules } in
    let low : c.args.t < task_limit = there s shape c.args.t (ltb-true _ _ (sym c.has_task.ensures ∙ c.if-has_task.true)) in
    omega arith

pub bounds-self-t : goal.bounds-self-t
bounds-self-t c =
    let s = c.args.self.now in
    let shape : Shaped s = record { tasks = search rules; held = search rules; ceilings = search rules; queues = search rules } in
    there s shape c.args.t (ltb-true _ _ (sym c.has_task.ensures ∙ c.if-has_task.true))

pub returns-then-has_task : goal.returns-then-has_task
returns-then-has_task c =
    let s = c.args.self.now in
    let shape : Shaped s = record { tasks = search rules; held = search rules; ceilings = search rules; queues = search rules } in
    let low = ltb-true _ _ (sym c.has_task.ensures ∙ c.if-has_task.true) in
    get_or_default s.tasks c.args.t _ blank_task (omega (arith, shape.tasks, there s shape c.args.t low)) ∙ task-is s shape c.args.t low

pub returns-else-has_task : goal.returns-else-has_task
returns-else-has_task c = task-none c.args.self.now c.args.t (ltb-false _ _ (sym c.has_task.ensures ∙ c.if-has_task.false))
