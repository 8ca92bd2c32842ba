-- What was written is what is read: the bytes of a state stand for it.
use mathlib.Core.Path.{◌≡◌, refl, ap, sym, ◌∙◌}
use mathlib.Core.Bool.{Bool, true, false, not}
use mathlib.Core.List.{List, [], ◌∷◌, ◌++◌, append_assoc, map, flat_map}
use Prim.Native.Nat.{ℕ, zero, suc, ◌+◌, ◌*◌, ◌<◌}
use native.Mathlib.Nat.{not-suc-le-zero, le_of_suc-le-suc}
use native.Mathlib.Omega.{arith}
use borrow.Author.Tests.{ne_eqb}
use lib.Dec.{eqb}
use lib.ListN.{length, get_or, length-append, length-map, get_or-append}
use lib.Seq.{get_or-append-add}
use Rattle.std.specs.Prelude.{None, Option, Some}
use Rattle.rules.specs.declared.Priority.{Priority}
use Rattle.rules.specs.Limits.{task_limit, object_limit, last_priority}
use Rattle.rules.specs.declared.Place.{Place}
use Rattle.rules.specs.declared.Place.TheVariants.{Running, Ready, Delayed, Suspended, Ended}
use Rattle.rules.specs.declared.Task.{Task}
use Rattle.memory.specs.Rows.{held_width, queue_width}
use Rattle.rules.specs.Kinds.{kind_of, kind_number}
use Rattle.rules.specs.Priorities.{level, priority}
use Rattle.memory.specs.Memory.{blank_task}
use Rattle.dispatch.proofs.Known.{Shaped}
use Rattle.dispatch.specs.declared.State.{State}
use Rattle.words.proofs.ListLaws.{map_at}
use Rattle.cells.specs.Sizes.{marks_at, nobody_code, task_size, kind_offset, base_offset, waits_offset, waiting_offset, permit_offset}
use Rattle.cells.specs.Sizes.{tasks_start, ceilings_start, held_start, queues_start}
use Rattle.words.specs.Words.{tabulate, byte_at, word_at, long_at, number_at}
use Rattle.cells.specs.Decode.{runner_from, place_from, waiting_from, task_from, tasks_from, cells_from}
use Rattle.cells.specs.Decode.{state_of_bytes}
use Rattle.cells.specs.Encode.{low_bytes, runner_code, due_of, waits_byte, waiting_byte, bit, task_tail, task_bytes, head_row}
use Rattle.cells.specs.Encode.{head_bytes, bytes_of_state, number_values, Fits}
use Rattle.words.proofs.TableLaws.{tabulate-of}
use Rattle.cells.proofs.PutLaws.{task-length}
use Rattle.cells.proofs.WriteLaws.{head-length, up_to_ceilings, up_to_held, up_to_queues, front-one, front-two, front-three}

-- bytes behind others
module _ (p q : List ℕ) (n : ℕ) (e : length p ≡ n) where
  pub byte-behind : (j k : ℕ) → k ≡ n + j → byte_at (p ++ q) k ≡ byte_at q j
  byte-behind j k f = ap (byte_at (p ++ q)) (f ∙ ap (λ (m : ℕ). m + j) (sym e)) ∙ get_or-append-add p q j 0

  pub number_behind : number_at (p ++ q) n ≡ number_at q 0
  unfolding number_at word_at
  number_behind =
      rw (
        byte-behind 0 n (omega arith),
        byte-behind (0 + 1) (n + 1) (omega arith),
        byte-behind (0 + 2) (n + 2) (omega arith),
        byte-behind (0 + 2 + 1) (n + 2 + 1) (omega arith),
        byte-behind (0 + 4) (n + 4) (omega arith),
        byte-behind (0 + 4 + 1) (n + 4 + 1) (omega arith),
        byte-behind (0 + 6) (n + 6) (omega arith),
        byte-behind (0 + 6 + 1) (n + 6 + 1) (omega arith),
      )

  -- a list of bytes behind others
  pub cells-behind : (l r : List ℕ) (m : ℕ) → q ≡ l ++ r → length l ≡ m → cells_from (p ++ q) n m ≡ l
  unfolding cells_from
  cells-behind l r m f g =
      tabulate-of l m (λ i. byte_at (p ++ q) (n + i)) 0 g
      (λ i h. byte-behind i (n + i) refl ∙ (ap (λ (x : List ℕ). byte_at x i) f ∙ get_or-append l r 0 i (omega arith)))

-- the parts of a number, a runner, a task row
number-back : (n : ℕ) (r : List ℕ) → n < number_values → number_at (low_bytes 8 n ++ r) 0 ≡ n
unfolding number_at word_at low_bytes
number-back n r h = omega arith

runner-back : (w : Option ℕ) → ((t : ℕ) → w ≡ Some t → t < nobody_code) → runner_from (runner_code w) ≡ w
runner-back None f = refl
runner-back (Some t) f = rw (ne_eqb t nobody_code (λ e. let h = f t refl in omega arith))

place-back : (x : Place) → place_from (kind_number (kind_of x)) (due_of x) ≡ x
place-back Running = refl
place-back Ready = refl
place-back (Delayed d) = refl
place-back Suspended = refl
place-back Ended = refl

waiting-back : (w : Option Priority) → waiting_from (waits_byte w) (waiting_byte w) ≡ w
waiting-back None = refl
waiting-back (Some p) = refl

bit-back : (b : Bool) → not (eqb (bit b) 0) ≡ b
bit-back true = refl
bit-back false = refl

module _ (p r : List ℕ) (n : ℕ) (e : length p ≡ n) (k : Task) (h : due_of k.place < number_values) where
  cell : (j v : ℕ) → byte_at (task_bytes k ++ r) j ≡ v → byte_at (p ++ (task_bytes k ++ r)) (n + j) ≡ v
  cell j v f = byte-behind p (task_bytes k ++ r) n e j (n + j) refl ∙ f

  due : number_at (p ++ (task_bytes k ++ r)) n ≡ due_of k.place
  unfolding task_bytes
  due =
      let bytes = low_bytes 8 (due_of k.place) in
      number_behind p (task_bytes k ++ r) n e ∙ (ap (λ (l : List ℕ). number_at l 0) (append_assoc bytes (task_tail k) r) ∙
      number-back (due_of k.place) (task_tail k ++ r) h)

  task-here : task_from (p ++ (task_bytes k ++ r)) n ≡ k
  unfolding task_from task_bytes low_bytes task_tail
  task-here =
      rw (
        cell kind_offset (kind_number (kind_of k.place)) refl,
        cell base_offset k.base.0 refl,
        cell waits_offset (waits_byte k.waiting) refl,
        cell waiting_offset (waiting_byte k.waiting) refl,
        cell permit_offset (bit k.permit) refl,
        due,
        place-back k.place,
        waiting-back k.waiting,
        bit-back k.permit,
      )

-- the task rows, one behind the other
rows_back : (ks : List Task) (p r : List ℕ) (n t : ℕ) → length p ≡ n → ((i : ℕ) → due_of (get_or ks i blank_task).place < number_values) →
    t < length ks → task_from (p ++ (flat_map task_bytes ks ++ r)) (n + task_size * t) ≡ get_or ks t blank_task
unfolding flat_map
rows_back [] p r n t e f h = absurd (not-suc-le-zero h)
rows_back (k ∷ ks) p r n zero e f h =
    let start : n + task_size * 0 ≡ n = omega arith in
    let rest = flat_map task_bytes ks in
    rw (start, append_assoc (task_bytes k) rest r) (task-here p (rest ++ r) n e k (f 0))
rows_back (k ∷ ks) p r n (suc t) e f h =
    let next : n + task_size * suc t ≡ n + task_size + task_size * t = omega arith in
    let rest = flat_map task_bytes ks in
    let size : length (p ++ task_bytes k) ≡ n + task_size = length-append p (task_bytes k) ∙ omega (arith, task-length k) in
    rw (next, append_assoc (task_bytes k) rest r, ← append_assoc p (task_bytes k) (rest ++ r))
    (rows_back ks (p ++ task_bytes k) r (n + task_size) t size (λ i. f (suc i)) (le_of_suc-le-suc h))

-- a state's bytes, grouped around each part
module _ (s : State) (r : List ℕ) (d : Shaped s) (g : Fits s) where
  abbrev whole : List ℕ
  whole = bytes_of_state s ++ r

  pub around-tasks : whole ≡ head_bytes s ++ (flat_map task_bytes s.tasks ++ (map level s.ceilings ++ (s.held ++ (s.queues ++ r))))
  unfolding bytes_of_state
  around-tasks = simp append_assoc

  around-ceilings : whole ≡ up_to_ceilings s ++ (map level s.ceilings ++ (s.held ++ (s.queues ++ r)))
  unfolding bytes_of_state
  around-ceilings = simp append_assoc

  around-held : whole ≡ up_to_held s ++ (s.held ++ (s.queues ++ r))
  unfolding bytes_of_state
  around-held = simp append_assoc

  around-queues : whole ≡ up_to_queues s ++ (s.queues ++ r)
  unfolding bytes_of_state
  around-queues = simp append_assoc

  tasks-back : tasks_from whole ≡ s.tasks
  unfolding tasks_from
  tasks-back =
      tabulate-of s.tasks task_limit (λ t. task_from whole (tasks_start + task_size * t)) blank_task d.tasks
      (λ t h. ap (λ (l : List ℕ). task_from l (tasks_start + task_size * t)) around-tasks ∙
      rows_back s.tasks (head_bytes s) (map level s.ceilings ++ (s.held ++ (s.queues ++ r))) tasks_start t (head-length s) g.due
      (omega (arith, d.tasks)))

  held_back : cells_from whole held_start (task_limit * held_width) ≡ s.held
  held_back =
      ap (λ (l : List ℕ). cells_from l held_start (task_limit * held_width)) around-held ∙
      cells-behind (up_to_held s) (s.held ++ (s.queues ++ r)) held_start (front-two s d) s.held (s.queues ++ r)
      (task_limit * held_width) refl d.held

  queues-back : cells_from whole queues_start (last_priority * queue_width) ≡ s.queues
  queues-back =
      ap (λ (l : List ℕ). cells_from l queues_start (last_priority * queue_width)) around-queues ∙
      cells-behind (up_to_queues s) (s.queues ++ r) queues_start (front-three s d) s.queues r (last_priority * queue_width) refl d.queues

  ceilings-back : tabulate object_limit (λ o. priority (byte_at whole (ceilings_start + o))) ≡ s.ceilings
  ceilings-back =
      let rest = s.held ++ (s.queues ++ r) in
      let levels = map level s.ceilings in
      let size = length-map s.ceilings level in
      tabulate-of s.ceilings object_limit (λ o. priority (byte_at whole (ceilings_start + o))) (priority 0) d.ceilings
      (λ o h. ap priority (ap (λ (l : List ℕ). byte_at l (ceilings_start + o)) around-ceilings ∙
      (byte-behind (up_to_ceilings s) (levels ++ rest) ceilings_start (front-one s d) o (ceilings_start + o) refl ∙
      (get_or-append levels rest 0 o (omega (arith, size, d.ceilings)) ∙
      map_at level s.ceilings o (priority 0) 0 (omega (arith, d.ceilings))))))

  -- the head
  now-back : number_at whole 0 ≡ s.now
  unfolding bytes_of_state head_row
  now-back = simp append_assoc (number-back s.now _ g.now)

  marks-back : long_at whole marks_at ≡ s.marks
  unfolding bytes_of_state head_row low_bytes long_at word_at
  marks-back = let fits = g.marks in omega arith

  -- the bytes of a state, whatever is behind them, stand for it
  pub state-back : state_of_bytes whole ≡ s
  unfolding state_of_bytes bytes_of_state head_row low_bytes
  state-back =
      rw (now-back, runner-back s.running g.running, marks-back, tasks-back, held_back, ceilings-back, queues-back)
