-- `memory::Memory::set_permit` meets its contract.
use Rattle.std.proofs.Common.{refl, ap}
use Rattle.rules.specs.Model.{TaskRecord, with_permit}
use Rattle.memory.proofs.SlotLaws.{slot-becomes, slot-read, slot-stays}
use Rattle.memory.proofs.Memory.set_permit.Goals as goal

pub invariant_of-self : goal.invariant_of-self
invariant_of-self c = slot-stays c.self.inside _ c.self.view_is c.args.t c.requires _ c.index-self-t.result c.self.invariant refl

pub returns : goal.returns
returns c =
    let read = slot-read c.self.inside _ c.self.view_is c.args.t c.requires c.index-self-t.result in
    slot-becomes c.self.inside _ c.self.view_is c.args.t c.requires _ _ (ap (λ (k : TaskRecord). with_permit k c.args.permit) read)
