-- `memory::Memory::pop` meets its contract.
use Rattle.std.proofs.Common.{arith}
use Rattle.memory.proofs.QueueLaws.{ready-became}
use Rattle.memory.proofs.Memory.pop.Goals as goal

pub invariant_of-self : goal.invariant_of-self
invariant_of-self c =
    ready-became c.self.inside _ _ _ _ c.self.invariant (omega (arith, c.requires.low, c.requires.high))
    c.put-self-inside.ensures c.len.ensures
