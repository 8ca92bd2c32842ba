-- `cells::states::store` meets its contract.
use mathlib.Core.Path.{◌≡◌, refl, ap, sym, ◌∙◌}
use native.Mathlib.Omega.{arith}
use lib.ListN.{length, length-take, length-drop}
use lib.Seq.{length-sets}
use borrow.Author.Rules.{rules}
use Prim.Native.Nat.{ℕ, ◌*◌}
use Rattle.rules.specs.Limits.{task_limit, last_priority}
use Rattle.memory.specs.Rows.{held_width, queue_width}
use Rattle.dispatch.specs.State.{encode}
use Rattle.words.proofs.CopyLaws.{part_copied}
use Rattle.cells.specs.Sizes.{held_start, queues_start}
use Rattle.cells.proofs.StateLaws.{task_there, tasks_count, levels_are, held_is, queues_are, shaped}
use Rattle.cells.proofs.WriteLaws.{state-put}
use Rattle.cells.proofs.states.store.Goals as goal

pub returns : goal.returns
returns c =
    let m = c.args.memory.now in
    let h = c.head.ensures in
    let s = encode m in
    let f =
    c.put_front.ensures s.tasks (record { count = tasks_count m h.tasks h.objects; same = λ t k l p. search (rules, task_there) }) in
    let held = c.store_held.ensures ∙ sym (held_is m) in
    let queues = c.store_queues.ensures ∙ sym (queues_are m) in
    let held_size : length s.held ≡ task_limit * held_width =
    sym (ap length held) ∙ c.store_held.auto.held ∙ simp (length-take, length-drop) (omega arith) in
    let put = part_copied c.put_front.new.bytes s.held _ held_start _ held (sym held_size) (omega (arith, held_size)) in
    let queues_size : length s.queues ≡ last_priority * queue_width =
    sym (ap length queues) ∙ c.store_queues.auto.queues ∙
    simp (length-take, length-drop) (omega (arith, ap length put, length-sets {A = ℕ})) in
    let levels = c.levels.ensures ∙ levels_are m h.tasks h.objects in
    state-put s (shaped m h.tasks h.objects held_size queues_size) c.args.bytes.now c.put_front.new.bytes _ _ c.requires
    (f ∙ rw (h.value, levels) refl) put
    (part_copied _ s.queues _ queues_start _ queues (sym queues_size) (omega (arith, queues_size, ap length put, length-sets {A = ℕ})))
