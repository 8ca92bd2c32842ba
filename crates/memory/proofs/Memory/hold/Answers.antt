-- `memory::Memory::hold` meets its contract.
use Rattle.std.proofs.Common.{[], ◌∷◌, ◌++◌, refl, ap, ◌∙◌}
use Rattle.rules.specs.Model.{TaskRecord, with_held}
use Rattle.memory.specs.Memory.{record_of}
use Rattle.memory.proofs.SlotLaws.{slot-becomes, slot-read, slot-stays}
use Rattle.memory.proofs.Memory.hold.Goals as goal

pub invariant_of-self : goal.invariant_of-self
invariant_of-self c = slot-stays c.self.inside _ c.self.view_is c.args.t c.requires.there _ c.index-self-t.result c.self.invariant refl

pub returns : goal.returns
returns c =
    let read = slot-read c.self.inside _ c.self.view_is c.args.t c.requires.there c.index-self-t.result in
    slot-becomes c.self.inside _ c.self.view_is c.args.t c.requires.there _ _
    (ap (record_of _) c.push.ensures ∙ ap (λ (k : TaskRecord). with_held k (k.held ++ (c.args.o ∷ []))) read)
