-- `memory::Memory::set_place` meets its contract.
use Rattle.std.proofs.Common.{ℕ, ap, ◌∙◌, sym, arith}
use Rattle.rules.specs.Model.{TaskRecord, with_place}
use Rattle.marks.specs.Marks.{bit_at}
use Rattle.marks.proofs.MarkLaws.{bit-made}
use Rattle.memory.proofs.SlotLaws.{slot-becomes, slot-read, slot-expected, none_noted, one_noted, due-of}
use Rattle.memory.proofs.Memory.set_place.Goals as goal

pub invariant_of-self : goal.invariant_of-self
invariant_of-self c =
    let a = c.self.inside in
    let word = c.with_bit-self-inside.ensures in
    slot-expected a _ c.self.view_is c.args.t c.requires _ _ _ c.self.invariant (omega arith)
    (one_noted a.delayed _ c.args.t word)
    (λ d i. (
      omega (arith, due-of _ _ (sym c.in-Delayed.is ∙ i)),
      ap (λ (w : ℕ). bit_at w c.args.t) word ∙ bit-made a.delayed c.args.t 1 (omega arith),
    ))

pub invariant_of-self-in_default : goal.invariant_of-self-in_default
invariant_of-self-in_default c =
    slot-expected c.self.inside _ c.self.view_is c.args.t c.requires _ _ _ c.self.invariant (omega arith) (none_noted _ _)
    (λ d i. absurd (c.in_default.not-Delayed d i))

pub returns-in-Delayed : goal.returns-in-Delayed
returns-in-Delayed c =
    let read = slot-read c.self.inside _ c.self.view_is c.args.t c.requires c.index-self-t.result in
    slot-becomes c.self.inside _ c.self.view_is c.args.t c.requires _ _ (ap (λ (k : TaskRecord). with_place k c.args.place) read)

pub returns-in_default : goal.returns-in_default
returns-in_default c =
    let read = slot-read c.self.inside _ c.self.view_is c.args.t c.requires c.index-self-t.result in
    slot-becomes c.self.inside _ c.self.view_is c.args.t c.requires _ _ (ap (λ (k : TaskRecord). with_place k c.args.place) read)
