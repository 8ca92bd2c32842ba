-- Laws of reading a state for a board: positions in its queues, and the row of a task.
use mathlib.Core.Path.{◌≡◌, refl, sym, ap, ◌∙◌}
use mathlib.Core.Bool.{Bool, true, false, cond}
use mathlib.Core.List.{List, [], ◌∷◌}
use Prim.Native.Nat.{ℕ, suc, ◌+◌, ◌-◌, ◌*◌, ◌≤◌, ◌<◌}
use native.Mathlib.Numerals.{add-one}
use native.Mathlib.Omega.{arith}
use borrow.Author.Tests.{lt-ltb, eq-eqb, ne_eqb}
use lib.Dec.{eqb, ltb}
use lib.ListN.{length, take, drop, get_or, length-take, drop_of_length-le}
use lib.Seq.{drop-cons}
use Rattle.std.specs.Prelude.{None, Some}
use Rattle.rules.specs.Limits.{task_limit, last_priority}
use Rattle.rules.specs.Priorities.{in_range}
use Rattle.rules.specs.Kinds.{kind_of}
use Rattle.rules.specs.Model.{task_at, queue, active}
use Rattle.rules.specs.declared.PlaceKind.{PlaceKind}
use Rattle.rules.specs.declared.Priority.{Priority}
use Rattle.rules.specs.declared.Task.{Task}
use Rattle.rules.proofs.Choices.{cond-true}
use Rattle.rules.proofs.Core.{Core, act-low, act-high}
use Rattle.rules.proofs.PriorityLaws.{in_bounds, bounds-in}
use Rattle.rules.proofs.Soundness.{sound-good}
use Rattle.memory.specs.Rows.{in_row, place_in, queue_width}
use Rattle.loading.proofs.RowLaws.{row_at, list_at}
use Rattle.dispatch.specs.State.{view}
use Rattle.dispatch.specs.Sound.{sound_of}
use Rattle.dispatch.specs.Readers.{entry_of, queue_of, task_record_of, active_priority_of}
use Rattle.dispatch.specs.declared.State.{State}
use Rattle.dispatch.proofs.MethodLaws.{view-sound}
use Rattle.board.specs.declared.Row.{Row}
use Rattle.board.specs.Rows.{is_ready_kind}
use Rattle.board.specs.Fill.{queue_position, row_of}

-- ---- a search of a queue from its head: nothing before i is x
module _ (x i : ℕ) (l : List ℕ) (e : place_in x l ≡ i + place_in x (drop i l)) where
  pub find-hit : i < length l → get_or l i 0 ≡ x → i ≡ place_in x l
  unfolding place_in
  find-hit h f = sym (e ∙ rw (drop-cons l i 0 h, eq-eqb (get_or l i 0) x f) (omega arith))

  pub find-miss : i < length l → (get_or l i 0 ≡ x → ⊥) → place_in x l ≡ (i + 1) + place_in x (drop (i + 1) l)
  unfolding place_in
  find-miss h f = e ∙ rw (drop-cons l i 0 h, ne_eqb (get_or l i 0) x f, add-one) (omega arith)

  pub find-end : length l ≤ i → i ≡ place_in x l
  unfolding place_in
  find-end h = sym (e ∙ rw (drop_of_length-le l {i = i} h) (omega arith))

-- an entry that is there
pub entry-there : (q : List ℕ) (i : ℕ) → i < length q → entry_of q i ≡ Some (get_or q i 0)
unfolding entry_of
entry-there q i h = cond-true (ltb i (length q)) _ None (lt-ltb i (length q) h)

-- ---- where t stands in a queue: no more than there are, which are no more than tasks
before-most : (t : ℕ) (q : List ℕ) → place_in t q ≤ length q
unfolding place_in
before-most t [] = omega arith
before-most t (u ∷ q) = go (eqb u t) (before-most t q)
  where
    go : (b : Bool) → place_in t q ≤ length q → cond b 0 (suc (place_in t q)) ≤ suc (length q)
    go true h = omega arith
    go false h = omega arith

in_row-most : (l : List ℕ) → length (in_row l) ≤ length l - 1
unfolding in_row
in_row-most [] = omega arith
in_row-most (n ∷ cells) = omega (arith, length-take n cells)

queue-most : (s : State) (p : Priority) → length (queue_of s p) ≤ task_limit
unfolding queue_of view
queue-most s p = go (in_range p.0) refl
  where
    go : (b : Bool) → in_range p.0 ≡ b → length (cond b (queue (view s) p.0) []) ≤ task_limit
    go true e =
        let b = in_bounds p.0 e in
        let row = row_at queue_width last_priority (p.0 - 1) s.queues (omega (arith, b.0, b.1)) in
        let list = list_at queue_width last_priority (p.0 - 1) s.queues in
        let l = drop ((p.0 - 1) * queue_width) s.queues in
        omega (arith, ap length list, ap (λ (x : List ℕ). length (in_row x)) row, in_row-most (take queue_width l), length-take queue_width l)
    go false e = omega arith

pub position-fits : (s : State) (p : Priority) (t : ℕ) → place_in t (queue_of s p) ≤ task_limit
position-fits s p t = omega (arith, before-most t (queue_of s p), queue-most s p)

-- ---- the row of a task of a sound state, made of what is read of it
module _ (s : State) (t : ℕ) where
  abbrev row_with : PlaceKind → Priority → ℕ → Row
  row_with x p a = record { kind = x; priority = p; position = a }

  abbrev row_from : PlaceKind → Priority → Row
  row_from x p = row_with x p (cond (is_ready_kind x) (place_in t (queue_of s p)) 0)

  in-level : sound_of s ≡ true → t < length (view s).tasks → in_range (active (view s) t) ≡ true
  in-level good h =
      let c : Core false (view s) task_limit = (sound-good (view s) (view-sound s good)).pending.core in
      bounds-in (active (view s) t) (act-low (view s) task_limit c t h) (act-high (view s) task_limit c t h)

  row_is : sound_of s ≡ true → t < length (view s).tasks →
      row_from (kind_of (task_record_of s t).place) (active_priority_of s t) ≡ row_of (view s) t
  unfolding row_of queue_position task_record_of active_priority_of queue_of
  row_is good h =
      ap (λ (q : List ℕ). row_with kind (active_priority_of s t) (cond (is_ready_kind kind) (place_in t q) 0))
      (cond-true (in_range (active (view s) t)) _ [] (in-level good h))
    where
      kind : PlaceKind
      kind = kind_of (task_at (view s) t).place

  pub row_made : (k : Task) (x : PlaceKind) (p : Priority) (a : ℕ) → sound_of s ≡ true → t < length (view s).tasks →
      k ≡ task_record_of s t → x ≡ kind_of k.place → p ≡ active_priority_of s t → a ≡ cond (is_ready_kind x) (place_in t (queue_of s p)) 0 →
      row_with x p a ≡ row_of (view s) t
  row_made k x p a good low e f g h =
      ap (row_with x p) h ∙ ap (row_from x) g ∙
      ap (λ (y : PlaceKind). row_from y (active_priority_of s t)) (f ∙ ap (λ (j : Task). kind_of j.place) e) ∙ row_is good low
