-- `memory::Memory::give_up` meets its contract.
use Rattle.std.proofs.Common.{◌-◌, length, take, refl, ap, ◌∙◌}
use Rattle.rules.specs.Model.{TaskRecord, with_held}
use Rattle.memory.specs.Memory.{record_of}
use Rattle.memory.proofs.SlotLaws.{slot-becomes, slot-read, slot-stays}
use Rattle.memory.proofs.Memory.give_up.Goals as goal

pub invariant_of-self : goal.invariant_of-self
invariant_of-self c = slot-stays c.self.inside _ c.self.view_is c.args.t c.requires _ c.index-self-t.result c.self.invariant refl

pub returns : goal.returns
returns c =
    let read = slot-read c.self.inside _ c.self.view_is c.args.t c.requires c.index-self-t.result in
    slot-becomes c.self.inside _ c.self.view_is c.args.t c.requires _ _
    (ap (record_of _) c.pop.ensures ∙ ap (λ (k : TaskRecord). with_held k (take (length k.held - 1) k.held)) read)
