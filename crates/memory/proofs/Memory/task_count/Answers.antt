-- `memory::Memory::task_count` meets its contract.
use Rattle.std.proofs.Common.{sym}
use Rattle.memory.proofs.SlotLaws.{count-is}
use Rattle.memory.proofs.Memory.task_count.Goals as goal

pub returns-clause-value : goal.returns-clause-value
returns-clause-value c = sym (count-is c.self.inside _ c.self.view_is c.self.invariant)
