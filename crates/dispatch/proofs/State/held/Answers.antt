-- `dispatch::State::held` meets its contract.
use Rattle.std.proofs.Common.{◌∙◌, ◌<◌, sym, arith, rules}
use borrow.Author.Tests.{ltb-true, ltb-false}
use Rattle.rules.specs.Limits.{task_limit}
use Rattle.dispatch.proofs.Known.{Shaped}
use Rattle.dispatch.proofs.ReaderLaws.{there, held-is, held_none}
use Rattle.dispatch.proofs.State.held.Goals as goal

pub returns-then-not-has_task : goal.returns-then-not-has_task
returns-then-not-has_task c =
    held_none c.args.self.now c.args.t (ltb-false _ _ (sym c.has_task.ensures ∙ c.if-not-has_task.true))

pub overflow_mul-b : goal.overflow_mul-b
overflow_mul-b c =
    let s = c.args.self.now in
    let shape : Shaped s = record { tasks = search rules; held = search rules; ceilings = search rules; queues = search rules } in
    let low : c.args.t < task_limit = there s shape c.args.t (ltb-true _ _ (sym c.has_task.ensures ∙ c.if-not-has_task.false)) in
    omega arith

pub overflow_add-b : goal.overflow_add-b
overflow_add-b c =
    let s = c.args.self.now in
    let shape : Shaped s = record { tasks = search rules; held = search rules; ceilings = search rules; queues = search rules } in
    let low : c.args.t < task_limit = there s shape c.args.t (ltb-true _ _ (sym c.has_task.ensures ∙ c.if-not-has_task.false)) in
    omega arith

pub slice_bounds-list-end : goal.slice_bounds-list-end
slice_bounds-list-end c =
    let s = c.args.self.now in
    let shape : Shaped s = record { tasks = search rules; held = search rules; ceilings = search rules; queues = search rules } in
    let low : c.args.t < task_limit = there s shape c.args.t (ltb-true _ _ (sym c.has_task.ensures ∙ c.if-not-has_task.false)) in
    search rules

pub returns : goal.returns
returns c =
    let s = c.args.self.now in
    let shape : Shaped s = record { tasks = search rules; held = search rules; ceilings = search rules; queues = search rules } in
    c.list.ensures ∙ held-is s shape c.args.t (ltb-true _ _ (sym c.has_task.ensures ∙ c.if-not-has_task.false))
