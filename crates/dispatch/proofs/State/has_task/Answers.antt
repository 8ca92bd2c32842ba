-- `dispatch::State::has_task` meets its contract.
use Rattle.std.proofs.Common.{arith, rules}
use Rattle.std.proofs.lemmas.Bool.Decides.{nat_tests}
use Rattle.dispatch.proofs.Known.{Shaped}
use Rattle.dispatch.proofs.LoadLaws.{tasks-are}
use Rattle.dispatch.proofs.State.has_task.Goals as goal

pub returns-then-t-self : goal.returns-then-t-self
returns-then-t-self c =
    let s = c.args.self.now in
    let shape : Shaped s = record { tasks = search rules; held = search rules; ceilings = search rules; queues = search rules } in
    let count = tasks-are s shape in
    grind (arith, nat_tests)

pub returns-else-t-self : goal.returns-else-t-self
returns-else-t-self c =
    let s = c.args.self.now in
    let shape : Shaped s = record { tasks = search rules; held = search rules; ceilings = search rules; queues = search rules } in
    let count = tasks-are s shape in
    grind (arith, nat_tests)
