-- `memory::Memory::marks` meets its contract.
use Rattle.std.proofs.Common.{rules}
use Rattle.memory.proofs.QueueLaws.{marks-small}
use Rattle.memory.proofs.Memory.marks.Goals as goal

pub overflow_cast-result : goal.overflow_cast-result
overflow_cast-result c = search (rules, marks-small c.self.inside c.self.invariant)
