-- `memory::Memory::active` meets its contract.
use Rattle.std.proofs.Common.{ap, sym, arith}
use Rattle.rules.specs.Model.{highest_of, active_of}
use Rattle.memory.proofs.SlotLaws.{past}
use Rattle.memory.proofs.Memory.active.Goals as goal

pub returns-else-t-task_count : goal.returns-else-t-task_count
unfolding highest_of
returns-else-t-task_count c =
    let m = c.args.self.now in
    ap (active_of m.ceilings) (sym (past m c.args.t (omega (arith, c.task_count.ensures.value, c.if-t-task_count.false))))
