-- `memory::Memory::forget` meets its contract.
use Rattle.std.proofs.Common.{◌≡◌, ℕ, length, ap, ◌∙◌, sym, subst, arith}
use Rattle.rules.specs.Model.{Model, task_at}
use Rattle.rules.specs.declared.Place.TheVariants.{Delayed}
use Rattle.rules.proofs.Choices.{split}
use Rattle.marks.specs.Marks.{bit_at}
use Rattle.marks.proofs.MarkLaws.{bit_kept}
use Rattle.memory.specs.View.{view_of}
use Rattle.memory.proofs.SlotLaws.{next-law}
use Rattle.memory.proofs.Memory.forget.Goals as goal

pub invariant_of-self : goal.invariant_of-self
invariant_of-self c =
    let a = c.self.inside in
    let k = c.self.invariant in
    let kept : (u : ℕ) → (u ≡ c.args.t → ⊥) → bit_at _ u ≡ bit_at a.delayed u =
    λ u n. ap (λ (w : ℕ). bit_at w u) c.without_bit-self-inside.ensures ∙ bit_kept a.delayed c.args.t 0 u (omega arith) n in
    next-law a k a.next _ (record { each = k.next.each })
    (record {
      each = λ u d i.
          split u c.args.t
          (λ e. absurd (c.requires.awake d
          (sym (ap (λ (m : Model). (task_at m c.args.t).place) c.self.view_is) ∙
          subst (λ (x : ℕ). (task_at (view_of c.self.inside) x).place ≡ Delayed d) e i)))
          (λ n. kept u n ∙ k.delayed.each u d i);
      tasks = λ u i.
          split u c.args.t
          (λ e. rw e (omega (arith, c.requires.there, ap (λ (m : Model). length m.tasks) c.self.view_is)))
          (λ n. k.delayed.tasks u (sym (kept u n) ∙ i));
    })
