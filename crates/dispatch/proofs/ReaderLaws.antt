-- Laws of the readers: entries, queues, tasks and what they hold.
use Rattle.std.proofs.Common.{◌≡◌, ap, ◌∙◌, sym, true, false, List, [], ◌∷◌, map, ℕ, suc}
use Rattle.std.proofs.Common.{◌-◌, ◌≤◌, ◌<◌, length, take, drop, get_or, min, arith}
use Rattle.std.proofs.lemmas.List.{get_or_past, take_all}
use Rattle.std.proofs.Math.ListN.{length-map}
use Rattle.std.specs.List.{take-map}
use Rattle.rules.proofs.Choices.{compare}
use Rattle.rules.specs.Limits.{task_limit, last_priority}
use Rattle.rules.specs.Priorities.{in_range, level}
use Rattle.rules.specs.Model.{blank, task_at}
use Rattle.rules.specs.declared.Priority.{Priority}
use Rattle.rules.proofs.PriorityLaws.{in_bounds}
use Rattle.memory.specs.Rows.{in_row, held_width, held_in, queue_width}
use Rattle.memory.specs.Memory.{task_for, waiting_for, blank_task}
use Rattle.memory.proofs.SlotLaws.{task-back}
use Rattle.loading.specs.Loading.{holding}
use Rattle.loading.proofs.RowLaws.{part, part-list}
use Rattle.dispatch.specs.declared.State.{State}
use Rattle.dispatch.specs.State.{view}
use Rattle.dispatch.specs.Readers.{queue_of, task_record_of, held_of}
use Rattle.dispatch.proofs.Known.{Shaped}
use Rattle.dispatch.proofs.LoadLaws.{tasks-are, task-read}

-- the list in a row, cut where it says more than there is room for
pub list-is : (row : List ℕ) (k : ℕ) → k ≡ min (length (take (length row - 1) (drop 1 row))) (get_or row 0 0) →
    take k (take (length row - 1) (drop 1 row)) ≡ in_row row
unfolding in_row
list-is [] k e = take_all k [] (omega arith)
list-is (n ∷ cells) k e =
    let whole : take (suc (length cells) - 1) cells ≡ cells = take_all (suc (length cells) - 1) cells (omega arith) in
    let size : k ≡ min (length cells) n = rw whole at e in
    rw whole
    (compare n (length cells) (λ h. let same : k ≡ n = omega arith in rw same)
    (λ h. take_all k cells (omega arith) ∙ sym (take_all n cells (omega arith))))

-- the first ceilings, of which there are at most as many as cells
pub ceilings-are : (cs : List Priority) (most n k : ℕ) → length cs ≡ most → k ≡ min most n → map level (take k cs) ≡ take n (map level cs)
ceilings-are cs most n k e f =
    sym (take-map level k cs) ∙
    compare n most (λ h. let same : k ≡ n = omega (arith, f) in rw same)
    (λ h. let same : k ≡ most = omega (arith, f) in
    rw same (take_all most (map level cs) (omega (arith, length-map cs level)) ∙
    sym (take_all n (map level cs) (omega (arith, length-map cs level)))))

module _ (s : State) (known : Shaped s) where
  -- a ready queue
  pub queue-is : (p : Priority) → in_range p.0 ≡ true → in_row (part queue_width (p.0 - 1) s.queues) ≡ queue_of s p
  unfolding queue_of view
  queue-is p e =
      let b = in_bounds p.0 e in
      rw e (part-list queue_width last_priority (p.0 - 1) s.queues (omega (arith, b.0, b.1)) (omega (arith, known.queues)))

  -- a task
  module _ (t : ℕ) where
    pub there : t < length (view s).tasks → t < task_limit
    there h = omega (arith, tasks-are s known)

    pub task-is : t < length (view s).tasks → get_or s.tasks t blank_task ≡ task_record_of s t
    unfolding task_record_of
    task-is h = sym (ap task_for (task-read s known t h) ∙ task-back (get_or s.tasks t blank_task) (get_or (held_in s.held) t []))

    pub held-is : t < length (view s).tasks → in_row (part held_width t s.held) ≡ held_of s t
    unfolding held_of
    held-is h =
        part-list held_width task_limit t s.held (there h) (omega (arith, known.held)) ∙ ap holding (sym (task-read s known t h))

-- a number that is no task's, and a priority that has no queue
pub queue-none : (s : State) (p : Priority) → in_range p.0 ≡ false → [] ≡ queue_of s p
unfolding queue_of
queue-none s p e = rw e

module _ (s : State) (t : ℕ) (h : length (view s).tasks ≤ t) where
  past : task_at (view s) t ≡ blank
  past = get_or_past (view s).tasks t blank h

  pub task-none : blank_task ≡ task_record_of s t
  unfolding task_record_of waiting_for
  task-none = ap task_for (sym past)

  pub held_none : [] ≡ held_of s t
  unfolding held_of
  held_none = ap holding (sym past)
