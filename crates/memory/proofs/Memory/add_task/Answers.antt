-- `memory::Memory::add_task` meets its contract.
use Rattle.std.proofs.Common.{ℕ, ap, ◌∙◌, sym, arith}
use Rattle.marks.specs.Marks.{bit_at}
use Rattle.marks.proofs.MarkLaws.{bit-made}
use Rattle.memory.proofs.SlotLaws.{slot-added, none_noted, one_noted, due-of}
use Rattle.memory.proofs.Memory.add_task.Goals as goal

pub invariant_of-self : goal.invariant_of-self
invariant_of-self c =
    let a = c.self.inside in
    let word = c.with_bit-self-inside.ensures in
    slot-added a _ c.self.view_is c.requires c.self.invariant _ _ _ (omega arith)
    (one_noted a.delayed _ a.task_count word)
    (λ d i. (
      omega (arith, due-of _ _ (sym c.in-Delayed.is ∙ i)),
      ap (λ (w : ℕ). bit_at w a.task_count) word ∙ bit-made a.delayed a.task_count 1 (omega arith),
    ))

pub invariant_of-self-in_default : goal.invariant_of-self-in_default
invariant_of-self-in_default c =
    slot-added c.self.inside _ c.self.view_is c.requires c.self.invariant _ _ _ (omega arith) (none_noted _ _)
    (λ d i. absurd (c.in_default.not-Delayed d i))
