-- `dispatch::State::queue` meets its contract.
use Rattle.std.proofs.Common.{◌∙◌, sym, rules}
use Rattle.dispatch.proofs.Known.{Shaped}
use Rattle.dispatch.proofs.ReaderLaws.{queue-is, queue-none}
use Rattle.dispatch.proofs.State.queue.Goals as goal

pub returns-then-not-in_range : goal.returns-then-not-in_range
returns-then-not-in_range c = queue-none c.args.self.now c.args.p (sym c.in_range.ensures ∙ c.if-not-in_range.true)

pub returns : goal.returns
returns c =
    let s = c.args.self.now in
    let shape : Shaped s = record { tasks = search rules; held = search rules; ceilings = search rules; queues = search rules } in
    c.list.ensures ∙ queue-is s shape c.args.p (sym c.in_range.ensures ∙ c.if-not-in_range.false)
