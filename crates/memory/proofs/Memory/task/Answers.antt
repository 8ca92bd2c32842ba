-- `memory::Memory::task` meets its contract.
use Rattle.std.proofs.Common.{ap, sym, arith}
use Rattle.memory.specs.Memory.{waiting_for, task_for}
use Rattle.memory.proofs.SlotLaws.{slot-task, past, count-is}
use Rattle.memory.proofs.Memory.task.Goals as goal

pub returns-then-t-self : goal.returns-then-t-self
returns-then-t-self c =
    let count = count-is c.self.inside _ c.self.view_is c.self.invariant in
    slot-task c.self.inside _ c.self.view_is c.args.t (omega (arith, count, c.if-t-self.true)) c.index-self-t.result

pub returns-else-t-self : goal.returns-else-t-self
unfolding waiting_for
returns-else-t-self c =
    let count = count-is c.self.inside _ c.self.view_is c.self.invariant in
    ap task_for (sym (past c.args.self.now c.args.t (omega (arith, count, c.if-t-self.false))))
