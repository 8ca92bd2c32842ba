-- Laws of the tasks' slots: what the Model reads in them, and what is kept when one of them is replaced.
use Rattle.std.proofs.Common.{◌≡◌, ℕ, ◌+◌, ◌≤◌, ◌<◌, List, [], ◌∷◌, ◌++◌, map, length}
use Rattle.std.proofs.Common.{get_or, take, set, refl, ap, sym, ◌∙◌, subst, arith, Option, None, Some}
use Rattle.std.proofs.lemmas.List.{get_or-map, get_or-take, length-map, length-take-le, length-take, length-set}
use Rattle.std.proofs.lemmas.List.{length-append, map-set, map-append, take_more_set, get_or_append_left}
use Rattle.std.proofs.Math.Seq.{take-set-lt, set_out, get_or_at}
use Rattle.std.proofs.Math.ListN.{get_or-eq_default}
use Rattle.rules.specs.Model.{Model, TaskRecord, blank, task_at, with_task, with_tasks}
use Rattle.rules.specs.declared.Place.{Place}
use Rattle.rules.specs.declared.Place.TheVariants.{Delayed}
use Rattle.rules.proofs.TaskLaws.{at_same, at_other}
use Rattle.rules.proofs.Choices.{split, compare}
use Rattle.rules.specs.Limits.{task_limit}
use Rattle.marks.specs.Marks.{bit_at, with_bit}
use Rattle.marks.proofs.MarkLaws.{bit-made, bit_kept}
use Rattle.rules.specs.declared.Priority.{Priority}
use Rattle.rules.specs.declared.Task.{Task}
use Rattle.memory.specs.Memory.{waiting_in, waiting_for, record_of, task_for, Bounds, Notes}
use Rattle.memory.specs.View.{record_in, view_of, Kept}
use Rattle.memory.specs.declared.Slot.{Slot}
use Rattle.memory.specs.declared.Memory.TheInside.{Inside}

-- the records that n slots mean
abbrev pub records : ℕ → List Slot → List TaskRecord
records n ss = map record_in (take n ss)

pub records-length : (n : ℕ) (ss : List Slot) → n ≤ length ss → length (records n ss) ≡ n
records-length n ss h = length-map (take n ss) record_in ∙ length-take-le n ss h

records-few : (n : ℕ) (ss : List Slot) (t : ℕ) → t < length (records n ss) → (t < n) × (t < length (take n ss))
records-few n ss t h =
    let e = length-map (take n ss) record_in in
    let f = length-take n ss in
    (grind (arith, e, f, h), omega (arith, e, h))

pub record-at : (n : ℕ) (ss : List Slot) (t : ℕ) (d : Slot) → t < length (records n ss) →
    get_or (records n ss) t blank ≡ record_in (get_or ss t d)
record-at n ss t d h =
    let few = records-few n ss t h in
    get_or-map record_in (take n ss) t d blank few.1 ∙ ap record_in (get_or-take n ss t d few.0)

pub record-set : (n : ℕ) (ss : List Slot) (t : ℕ) (s : Slot) → t < length (records n ss) →
    records n (set ss t s) ≡ set (records n ss) t (record_in s)
record-set n ss t s h =
    ap (map record_in) (take-set-lt n ss t s (records-few n ss t h).0) ∙ map-set record_in (take n ss) t s

-- a record is stored as it was
waiting-back : (w : Option Priority) → waiting_for (waiting_in w) ≡ w
unfolding waiting_for waiting_in
waiting-back None = refl
waiting-back (Some p) = refl

pub task-back : (k : Task) (l : List ℕ) → task_for (record_of k l) ≡ k
task-back k l =
    ap (λ (w : Option Priority). record { place = k.place; base = k.base; waiting = w; permit = k.permit }) (waiting-back k.waiting)

-- past the last task there is none
pub past : (m : Model) (t : ℕ) → length m.tasks ≤ t → task_at m t ≡ blank
past m t h = get_or-eq_default m.tasks blank {n = t} h

-- a fact of every delayed task, after one task is replaced by a record of which it holds
module _ (P : ℕ → ℕ → Type 0) (m : Model) (t : ℕ) (k : TaskRecord) where
  pub delayed-set : ((u d : ℕ) → (task_at m u).place ≡ Delayed d → P u d) → ((d : ℕ) → k.place ≡ Delayed d → P t d) →
      (u d : ℕ) → (task_at (with_task m t k) u).place ≡ Delayed d → P u d
  delayed-set b n u d p =
      split u t
      (λ i. compare (length m.tasks) t
      (λ g. b u d (sym (ap (λ (l : List TaskRecord). (get_or l u blank).place) (set_out m.tasks t k g)) ∙ p))
      (λ g. subst (λ (x : ℕ). P x d) (sym i) (n d (sym (at_same place blank m.tasks t k u i g) ∙ p))))
      (λ i. b u d (sym (at_other place blank m.tasks t k u i) ∙ p))
    where
      place : TaskRecord → Place
      place x = x.place

-- the bits that are on in the word w are on in x too, which has no other than that of t
pub record OneNoted (w x t : ℕ) : Type 0 where
  pub more : (u : ℕ) → bit_at w u ≡ 1 → bit_at x u ≡ 1
  pub others : (u : ℕ) → (u ≡ t → ⊥) → bit_at x u ≡ 1 → bit_at w u ≡ 1

pub none_noted : (w t : ℕ) → OneNoted w w t
none_noted w t = record { more = λ u h. h; others = λ u n h. h }

pub one_noted : (w x t : ℕ) → x ≡ with_bit w t 1 → OneNoted w x t
one_noted w x t e =
    let same : (u : ℕ) → bit_at x u ≡ bit_at (with_bit w t 1) u = λ u. ap (λ (y : ℕ). bit_at y u) e in
    record {
      more = λ u h.
          split u t
          (λ q. same u ∙ ap (bit_at (with_bit w t 1)) q ∙ bit-made w t 1 (omega arith))
          (λ n. same u ∙ bit_kept w t 1 u (omega arith) n ∙ h);
      others = λ u n h. sym (bit_kept w t 1 u (omega arith) n) ∙ sym (same u) ∙ h;
    }

-- the memory with other slots, bound and word of the delayed
abbrev pub with_slots : Inside → List Slot → ℕ → ℕ → Inside
with_slots a ss v w =
    record {
      now = a.now;
      running = a.running;
      task_count = a.task_count;
      object_count = a.object_count;
      marks = a.marks;
      next = v;
      delayed = w;
      slots = ss;
      ceilings = a.ceilings;
      queues = a.queues;
    }

-- another bound and word by which the delayed are expected
pub next-law : (a : Inside) → Kept a → (v w : ℕ) → Bounds v (view_of a) → Notes w (view_of a) → Kept (with_slots a a.slots v w)
next-law a k v w b n =
    record {
      slots = k.slots;
      cells = k.cells;
      levels = k.levels;
      tasks = k.tasks;
      objects = k.objects;
      marks = k.marks;
      next = record { each = b.each };
      delayed = record { each = n.each; tasks = n.tasks };
    }

-- .. and neither is part of what the memory means
pub next-view : (a : Inside) (v w : ℕ) → view_of (with_slots a a.slots v w) ≡ view_of a
next-view a v w = refl

-- a memory that means m: one of its slots is read, or replaced
module _ (a : Inside) (m : Model) (e : view_of a ≡ m) (t : ℕ) (h : t < length m.tasks) where
  there : t < length (view_of a).tasks
  there = subst (λ (n : Model). t < length n.tasks) (sym e) h

  pub slot-read : (d : Slot) → record_in (get_or a.slots t d) ≡ task_at m t
  slot-read d = sym (record-at a.task_count a.slots t d there) ∙ ap (λ (n : Model). task_at n t) e

  pub slot-task : (d : Slot) → (get_or a.slots t d).task ≡ task_for (task_at m t)
  slot-task d = sym (task-back (get_or a.slots t d).task (get_or a.slots t d).held) ∙ ap task_for (slot-read d)

  pub slot-becomes : (s : Slot) (k : TaskRecord) → record_in s ≡ k →
      view_of (with_slots a (set a.slots t s) a.next a.delayed) ≡ with_task m t k
  slot-becomes s k f =
      ap (with_tasks (view_of a))
      (record-set a.task_count a.slots t s there) ∙
      (ap (λ (n : Model). with_task n t (record_in s)) e ∙ ap (with_task m t) f)

  -- what is kept where the delayed are expected by the new bound and word
  pub slot-kept : (s : Slot) (v w : ℕ) → Kept a → Bounds v (with_task m t (record_in s)) → Notes w (with_task m t (record_in s)) →
      Kept (with_slots a (set a.slots t s) v w)
  slot-kept s v w k b n =
      let f = slot-becomes s (record_in s) refl in
      record {
        slots = length-set a.slots t s ∙ k.slots;
        cells = k.cells;
        levels = k.levels;
        tasks = k.tasks;
        objects = k.objects;
        marks = k.marks;
        next = subst (Bounds v) (sym f) b;
        delayed = subst (Notes w) (sym f) n;
      }

  -- .. and where the task stays at its place
  pub slot-stays : (s d : Slot) → Kept a → s.task.place ≡ (get_or a.slots t d).task.place →
      Kept (with_slots a (set a.slots t s) a.next a.delayed)
  slot-stays s d k p =
      let b : Bounds a.next m = subst (Bounds a.next) e k.next in
      let n : Notes a.delayed m = subst (Notes a.delayed) e k.delayed in
      let q : s.task.place ≡ (task_at m t).place = p ∙ ap (λ (x : TaskRecord). x.place) (slot-read d) in
      slot-kept s a.next a.delayed k
      (record { each = delayed-set (λ u d. a.next ≤ d) m t (record_in s) b.each (λ d i. b.each t d (sym q ∙ i)) })
      (record {
        each = delayed-set (λ u d. bit_at a.delayed u ≡ 1) m t (record_in s) n.each (λ d i. n.each t d (sym q ∙ i));
        tasks = λ u i. omega (arith, n.tasks u i, length-set m.tasks t (record_in s));
      })

  -- another record of the task, where it is expected as it is delayed
  pub slot-expected : (s : Slot) (v w : ℕ) → Kept a → v ≤ a.next → OneNoted a.delayed w t →
      ((d : ℕ) → s.task.place ≡ Delayed d → (v ≤ d) × (bit_at w t ≡ 1)) → Kept (with_slots a (set a.slots t s) v w)
  slot-expected s v w k low o f =
      let b : Bounds a.next m = subst (Bounds a.next) e k.next in
      let n : Notes a.delayed m = subst (Notes a.delayed) e k.delayed in
      slot-kept s v w k
      (record { each = delayed-set (λ u d. v ≤ d) m t (record_in s) (λ u d i. omega (arith, low, b.each u d i)) (λ d i. (f d i).0) })
      (record {
        each = delayed-set (λ u d. bit_at w u ≡ 1) m t (record_in s) (λ u d i. o.more u (n.each u d i)) (λ d i. (f d i).1);
        tasks = λ u i.
            let count = length-set m.tasks t (record_in s) in
            split u t (λ q. omega (arith, q, count)) (λ q. omega (arith, n.tasks u (o.others u q i), count));
      })

-- the count is that of the tasks
pub count-is : (a : Inside) (m : Model) → view_of a ≡ m → Kept a → length m.tasks ≡ a.task_count
count-is a m e k =
    ap (λ (n : Model). length n.tasks) (sym e) ∙ records-length a.task_count a.slots (omega (arith, k.slots, k.tasks))

-- one slot more, behind the last
module _ (a : Inside) (m : Model) (e : view_of a ≡ m) (h : length m.tasks < task_limit) (k : Kept a) where
  added-count : length m.tasks ≡ a.task_count
  added-count = count-is a m e k

  abbrev pub with_slot : Slot → ℕ → ℕ → Inside
  with_slot s v w =
      record {
        now = a.now;
        running = a.running;
        task_count = a.task_count + 1;
        object_count = a.object_count;
        marks = a.marks;
        next = v;
        delayed = w;
        slots = set a.slots a.task_count s;
        ceilings = a.ceilings;
        queues = a.queues;
      }

  added-tasks : (s : Slot) → (view_of (with_slot s 0 0)).tasks ≡ m.tasks ++ (record_in s ∷ [])
  added-tasks s =
      ap (map record_in) (take_more_set a.slots a.task_count s (omega (arith, k.slots, added-count, h))) ∙
      (map-append record_in (take a.task_count a.slots) (s ∷ []) ∙
      ap (λ (n : Model). n.tasks ++ (record_in s ∷ [])) e)

  pub slot-added : (s : Slot) (v w : ℕ) → v ≤ a.next → OneNoted a.delayed w a.task_count →
      ((d : ℕ) → s.task.place ≡ Delayed d → (v ≤ d) × (bit_at w a.task_count ≡ 1)) → Kept (with_slot s v w)
  slot-added s v w low o f =
      record {
        slots = length-set a.slots a.task_count s ∙ k.slots;
        cells = k.cells;
        levels = k.levels;
        tasks = omega (arith, added-count, h);
        objects = k.objects;
        marks = k.marks;
        next = record { each = λ u d i. expected (λ u d. v ≤ d) (λ u d j. omega (arith, low, k.next.each u d j)) (λ d j. (f d j).0) u d i };
        delayed = record {
          each = λ u d i. expected (λ u d. bit_at w u ≡ 1) (λ u d j. o.more u (k.delayed.each u d j)) (λ d j. (f d j).1) u d i;
          tasks = λ u i.
              split u a.task_count
              (λ q. omega (arith, q, count, added-count))
              (λ q. omega (arith, k.delayed.tasks u (o.others u q i), ap (λ (n : Model). length n.tasks) e, count));
        };
      }
    where
      count : length (view_of (with_slot s v w)).tasks ≡ length m.tasks + 1
      count = ap length (added-tasks s) ∙ length-append m.tasks (record_in s ∷ [])

      old : (u : ℕ) → u < a.task_count → task_at (view_of (with_slot s v w)) u ≡ task_at (view_of a) u
      old u g =
          ap (λ (l : List TaskRecord). get_or l u blank) (added-tasks s) ∙
          (get_or_append_left m.tasks (record_in s ∷ []) blank u (omega (arith, added-count, g)) ∙
          ap (λ (n : Model). task_at n u) (sym e))

      new : (u : ℕ) → u ≡ a.task_count → task_at (view_of (with_slot s v w)) u ≡ record_in s
      new u g =
          ap (λ (l : List TaskRecord). get_or l u blank) (added-tasks s) ∙
          get_or_at m.tasks (record_in s) [] blank u (omega (arith, added-count, g))

      none : (u : ℕ) → a.task_count < u → task_at (view_of (with_slot s v w)) u ≡ blank
      none u g =
          get_or-eq_default (view_of (with_slot s v w)).tasks blank {n = u}
          (omega (arith, ap length (added-tasks s), length-append m.tasks (record_in s ∷ []), added-count, g))

      expected : (P : ℕ → ℕ → Type 0) → ((u d : ℕ) → (task_at (view_of a) u).place ≡ Delayed d → P u d) →
          ((d : ℕ) → s.task.place ≡ Delayed d → P a.task_count d) →
          (u d : ℕ) → (task_at (view_of (with_slot s v w)) u).place ≡ Delayed d → P u d
      expected P b n u d i =
          compare a.task_count u
          (λ g. split u a.task_count
          (λ q. subst (λ (x : ℕ). P x d) (sym q) (n d (sym (ap (λ (x : TaskRecord). x.place) (new u q)) ∙ i)))
          (λ q. absurd (cc (sym (ap (λ (x : TaskRecord). x.place) (none u (omega (arith, g, q)))) ∙ i))))
          (λ g. b u d (sym (ap (λ (x : TaskRecord). x.place) (old u g)) ∙ i))

pub due-of : (d e : ℕ) → Delayed d ≡ Delayed e → d ≡ e
due-of d e h = cc h
