-- `memory::Memory::write_held` meets its contract.
use Rattle.std.proofs.Common.{arith}
use Rattle.memory.specs.Rows.{row_for}
use Rattle.memory.proofs.SlotLaws.{past, count-is}
use Rattle.memory.proofs.Memory.write_held.Goals as goal

pub returns-else-t-self : goal.returns-else-t-self
unfolding row_for
returns-else-t-self c =
    let count = count-is c.self.inside _ c.self.view_is c.self.invariant in
    let none = past c.args.self.now c.args.t (omega (arith, count, c.if-t-self.false)) in
    rw none (rw c.requires at (c.fill.ensures.after (λ y e. e)))
