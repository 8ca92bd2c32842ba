-- Laws of the ready queues in the memory: the word of marks follows a change of one, and its highest mark is the highest queue.
use Rattle.std.proofs.Common.{◌≡◌, ℕ, ◌^◌, ◌<◌, List, [], length, get_or, set, replicate, refl, ap, sym, ◌∙◌, arith}
use Rattle.std.proofs.lemmas.List.{length-set, length-replicate, get_or-replicate, same_lists}
use Rattle.rules.specs.Limits.{last_priority}
use Rattle.rules.specs.Moves.{highest_to}
use Rattle.marks.specs.Marks.{with_bit, highest_on, mark_for}
use Rattle.marks.proofs.MarkLaws.{marks-fit, highest-same, marks-put}
use Rattle.rules.specs.Model.{with_ready}
use Rattle.memory.specs.View.{view_of, Kept}
use Rattle.memory.specs.declared.Memory.TheInside.{Inside}

-- the memory with other queues and marks
abbrev pub with_queues : Inside → List (List ℕ) → ℕ → Inside
with_queues a qs w =
    record {
      now = a.now;
      running = a.running;
      task_count = a.task_count;
      object_count = a.object_count;
      marks = w;
      next = a.next;
      delayed = a.delayed;
      slots = a.slots;
      ceilings = a.ceilings;
      queues = qs;
    }

-- the queue at i becomes q, of n tasks, and the word is w
pub ready-became : (a : Inside) (i w n : ℕ) (q : List ℕ) → Kept a → i < last_priority → w ≡ with_bit a.marks i (mark_for n) →
    n ≡ length q → Kept (with_queues a (set a.queues i q) w)
ready-became a i w n q k h e f =
    record {
      slots = k.slots;
      cells = k.cells;
      levels = length-set a.queues i q ∙ k.levels;
      tasks = k.tasks;
      objects = k.objects;
      marks = rw (e, k.marks, f) (sym (marks-put a.queues i q (omega (arith, k.levels))));
      next = record { each = k.next.each };
      delayed = record { each = k.delayed.each; tasks = k.delayed.tasks };
    }

-- and it means the Model with that queue
pub ready-view : (a : Inside) (i w : ℕ) (q : List ℕ) →
    view_of (with_queues a (set a.queues i q) w) ≡ with_ready (view_of a) (set a.queues i q)
ready-view a i w q = refl

-- the word fits its bits, and its highest mark is the highest queue
pub marks-small : (a : Inside) → Kept a → a.marks < 2 ^ last_priority
marks-small a k = rw k.levels at (rw (sym k.marks) at (marks-fit a.queues))

pub marks-highest : (a : Inside) → Kept a → highest_on a.marks last_priority ≡ highest_to a.queues last_priority
marks-highest a k = ap (λ (w : ℕ). highest_on w last_priority) k.marks ∙ highest-same a.queues last_priority

-- queues that are all empty
pub all-empty : (n : ℕ) (qs : List (List ℕ)) → length qs ≡ n → ((i : ℕ) (q : List ℕ) → i < n → get_or qs i q ≡ []) → qs ≡ replicate n []
all-empty n qs e h =
    same_lists qs (replicate n []) (e ∙ sym (length-replicate n []))
    (λ i q b. let low : i < n = omega (arith, b, e) in h i q low ∙ sym (get_or-replicate n i [] q low))
