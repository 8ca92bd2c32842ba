-- Laws of a state's bytes and the engine's memory: what is lent and loaded of them, and what is stored into them.
use mathlib.Core.Path.{◌≡◌, refl, ap, sym, ◌∙◌}
use mathlib.Core.Bool.{Bool, true, ◌&&◌}
use mathlib.Core.List.{List, [], map, flat_map}
use Prim.Native.Nat.{ℕ, ◌+◌, ◌-◌, ◌*◌, ◌≤◌, ◌<◌}
use native.Mathlib.Omega.{arith}
use lib.ListN.{length, take, drop, get_or, length-map, get_or-map}
use Rattle.rules.specs.Limits.{task_limit, object_limit, last_priority}
use Rattle.rules.specs.Priorities.{level, priority}
use Rattle.rules.specs.Model.{Model, TaskRecord, blank, task_at, ceiling_of}
use Rattle.rules.specs.declared.Priority.{Priority}
use Rattle.rules.specs.declared.Task.{Task}
use Rattle.rules.proofs.Choices.{and_left, and_right}
use Rattle.std.proofs.lemmas.List.{same_lists, get_or_default}
use Rattle.std.proofs.lemmas.Grind.{same_number_lists}
use Rattle.words.specs.Words.{byte_at, tabulate}
use Rattle.words.proofs.TableLaws.{tabulate-of, tabulate-at, length-tabulate, window}
use Rattle.memory.specs.Rows.{row_for, held_width, held_in, queue_width, queues_in}
use Rattle.memory.specs.Memory.{blank_task, task_for, record_of, waiting_for}
use Rattle.loading.specs.Loading.{parts_fit, padded, held_lists}
use Rattle.loading.proofs.PaddedLaws.{padded-length, padded-at}
use Rattle.dispatch.proofs.Known.{Shaped}
use Rattle.loading.proofs.LoadLaws.{Fitting, told_fits}
use Rattle.dispatch.proofs.LoadLaws.{tasks-are, objects-are, task-read, ceiling-read}
use Rattle.dispatch.specs.State.{view, encode}
use Rattle.dispatch.specs.Sound.{sizes_fit}
use Rattle.cells.specs.declared.head.Head.{Head}
use Rattle.cells.specs.Sizes.{tasks_start, task_size, ceilings_start, task_count_at, object_count_at, held_start, queues_start, state_size}
use Rattle.cells.specs.Decode.{task_from, tasks_from, cells_from, head_from, state_of_bytes}
use Rattle.cells.specs.InRange.{readable}
use Rattle.cells.proofs.ReadLaws.{decoded-shaped}
use Rattle.cells.proofs.RangeLaws.{read-long}

-- the lists of a state, as they are lent
abbrev pub held_part : List ℕ → List ℕ
held_part b = take (queues_start - held_start) (drop held_start b)

abbrev pub queues_part : List ℕ → List ℕ
queues_part b = take (state_size - queues_start) (drop queues_start b)

module _ (b : List ℕ) (room : state_size ≤ length b) where
  pub held_lent : held_part b ≡ (state_of_bytes b).held
  unfolding state_of_bytes cells_from
  held_lent = window b held_start (task_limit * held_width) (omega arith)

  pub queues_lent : queues_part b ≡ (state_of_bytes b).queues
  unfolding state_of_bytes cells_from
  queues_lent = window b queues_start (last_priority * queue_width) (omega arith)

  pub sizes_lent : (r : Bool) → r ≡ parts_fit (byte_at b task_count_at) (byte_at b object_count_at) (held_part b) (queues_part b) →
      r ≡ sizes_fit (state_of_bytes b)
  unfolding sizes_fit state_of_bytes
  sizes_lent r g = g ∙ rw (held_lent, queues_lent)

-- bytes that can be loaded
module _ (b : List ℕ) (ok : (readable b && sizes_fit (state_of_bytes b)) ≡ true) where
  pub loadable_long : state_size ≤ length b
  loadable_long = read-long b (and_left (readable b) (sizes_fit (state_of_bytes b)) ok)

  pub parts_lent : parts_fit (byte_at b task_count_at) (byte_at b object_count_at) (held_part b) (queues_part b) ≡ true
  parts_lent = sizes_lent b loadable_long _ refl ∙ and_right (readable b) (sizes_fit (state_of_bytes b)) ok

  fits : Fitting (byte_at b task_count_at) (byte_at b object_count_at) (held_part b) (queues_part b)
  fits = told_fits _ _ _ _ parts_lent

  -- its tasks and ceilings are those of the Model that it means
  pub tasks_loaded : (l : List TaskRecord) → length l ≡ byte_at b task_count_at →
      ((t : ℕ) → t < byte_at b task_count_at →
      get_or l t blank ≡ record_of (task_from b (tasks_start + task_size * t)) (get_or (held_in (held_part b)) t [])) →
      l ≡ (view (state_of_bytes b)).tasks
  unfolding state_of_bytes tasks_from
  tasks_loaded l e f =
      let s = state_of_bytes b in
      let count : length (view s).tasks ≡ byte_at b task_count_at = tasks-are s (decoded-shaped b) ∙ omega (arith, fits.count) in
      same_lists l (view s).tasks (e ∙ sym count) (λ t d h.
      let low : t < byte_at b task_count_at = omega arith in
      let few : t < task_limit = omega (arith, fits.count) in
      let given = tabulate-at task_limit (λ i. task_from b (tasks_start + task_size * i)) t blank_task few in
      let read = task-read s (decoded-shaped b) t (omega (arith, count)) in
      let same = ap (λ (k : Task). record_of k (get_or (held_in (held_part b)) t [])) (sym given) ∙
      ap (λ (hd : List ℕ). record_of (get_or s.tasks t blank_task) (get_or (held_in hd) t [])) (held_lent b loadable_long) in
      get_or_default l t d blank h ∙ (f t low ∙ (same ∙ (sym read ∙ get_or_default (view s).tasks t blank d (omega (arith, count))))))

  pub ceilings_loaded : (l : List ℕ) → length l ≡ byte_at b object_count_at →
      ((o : ℕ) → o < byte_at b object_count_at → get_or l o 0 ≡ byte_at b (ceilings_start + o)) → l ≡ (view (state_of_bytes b)).ceilings
  unfolding state_of_bytes
  ceilings_loaded l e f =
      let s = state_of_bytes b in
      let given : ℕ → Priority = λ o. priority (byte_at b (ceilings_start + o)) in
      let size : length s.ceilings ≡ object_limit = length-tabulate object_limit given in
      let count : length (view s).ceilings ≡ byte_at b object_count_at =
      objects-are s (decoded-shaped b) ∙ omega (arith, fits.objects, size) in
      same_number_lists l (view s).ceilings (e ∙ sym count) (λ o h.
      let low : o < byte_at b object_count_at = omega arith in
      let few : o < object_limit = omega (arith, fits.objects) in
      let there = ap level (tabulate-at object_limit given o (priority 0) few) in
      f o low ∙ (sym there ∙ sym (ceiling-read s (decoded-shaped b) o (omega (arith, count)))))

  -- .. and so is all of it
  pub whole_loaded : (m : Model) (h : Head) → h ≡ head_from b →
      m ≡ record { now = h.now; running = h.running; tasks = m.tasks; ceilings = m.ceilings; ready = queues_in (queues_part b) } →
      m.tasks ≡ (view (state_of_bytes b)).tasks → m.ceilings ≡ (view (state_of_bytes b)).ceilings → m ≡ view (state_of_bytes b)
  unfolding view state_of_bytes head_from
  whole_loaded m h e f g k = f ∙ rw (e, g, k, queues_lent b loadable_long)

-- the state for a memory's Model
module _ (m : Model) where
  pub task_there : (t : ℕ) → task_for (task_at m t) ≡ get_or (encode m).tasks t blank_task
  unfolding encode waiting_for
  task_there t = sym (padded-at task_limit (map task_for m.tasks) blank_task t ∙ get_or-map task_for m.tasks t blank)

  level_there : (o : ℕ) → ceiling_of m.ceilings o ≡ get_or (map level (encode m).ceilings) o 0
  unfolding encode
  level_there o =
      let padded_at = padded-at object_limit (map priority m.ceilings) (priority 0) o in
      sym (get_or-map level (padded object_limit (map priority m.ceilings) (priority 0)) o (priority 0) ∙
      (ap level padded_at ∙ ap level (get_or-map priority m.ceilings o 0)))

  pub held_is : (encode m).held ≡ flat_map (row_for held_width) (held_lists m)
  unfolding encode
  held_is = refl

  pub queues_are : (encode m).queues ≡ flat_map (row_for queue_width) m.ready
  unfolding encode
  queues_are = refl

  module _ (tasks : length m.tasks ≤ task_limit) (objects : length m.ceilings ≤ object_limit) where
    pub tasks_count : length (encode m).tasks ≡ task_limit
    unfolding encode
    tasks_count = padded-length task_limit (map task_for m.tasks) blank_task (omega (arith, length-map m.tasks task_for))

    levels_count : length (encode m).ceilings ≡ object_limit
    unfolding encode
    levels_count = padded-length object_limit (map priority m.ceilings) (priority 0) (omega (arith, length-map m.ceilings priority))

    pub levels_are : tabulate object_limit (ceiling_of m.ceilings) ≡ map level (encode m).ceilings
    levels_are =
        tabulate-of (map level (encode m).ceilings) object_limit (ceiling_of m.ceilings) 0
        (length-map (encode m).ceilings level ∙ levels_count) (λ o h. level_there o)

    -- its lists have their lengths where they were stored
    pub shaped : length (encode m).held ≡ task_limit * held_width → length (encode m).queues ≡ last_priority * queue_width →
        Shaped (encode m)
    shaped e f = record { tasks = tasks_count; held = e; ceilings = levels_count; queues = f }
