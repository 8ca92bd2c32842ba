-- Laws of a state whose sizes fit: what is written down in it is the Model that it means.
use Rattle.std.proofs.Common.{◌≡◌, ap, ◌∙◌, sym, true, List, [], map, ℕ, ◌<◌, length, get_or, min, arith, length-take}
use Rattle.std.proofs.Math.ListN.{length-map, get_or-map}
use Rattle.std.proofs.lemmas.List.{same_lists, get_or_default}
use Rattle.std.proofs.Math.Seq.{get_or-take}
use Rattle.rules.specs.Limits.{task_limit, object_limit}
use Rattle.rules.specs.Priorities.{level, priority}
use Rattle.rules.specs.Model.{Model, TaskRecord, blank}
use Rattle.rules.specs.declared.Priority.{Priority}
use Rattle.rules.specs.declared.Task.{Task}
use Rattle.loading.specs.Loading.{Each, TaskFrom, CeilingFrom}
use Rattle.memory.specs.Rows.{held_width, held_in, queues_in}
use Rattle.memory.specs.Memory.{record_of, together, blank_task}
use Rattle.loading.proofs.RowLaws.{list_count}
use Rattle.loading.proofs.LoadLaws.{Fitting, told_fits}
use Rattle.dispatch.specs.declared.State.{State}
use Rattle.dispatch.specs.State.{view}
use Rattle.dispatch.specs.Sound.{sizes_fit}
use Rattle.dispatch.proofs.Known.{Shaped}
use Rattle.dispatch.proofs.EncodeLaws.{together-length, together-at}

-- what fits: the counts and the lengths
pub fitting : (s : State) → sizes_fit s ≡ true → Fitting s.task_count s.object_count s.held s.queues
unfolding sizes_fit
fitting s e = told_fits s.task_count s.object_count s.held s.queues e

-- two lists with the same elements
pub same_at : {A : Type 0} (d : A) (l r : List A) → length l ≡ length r → ((i : ℕ) → i < length l → get_or l i d ≡ get_or r i d) → l ≡ r
same_at d l r e f = same_lists l r e (λ i z h. get_or_default l i z d h ∙ (f i h ∙ get_or_default r i d z (omega (arith, e))))

module _ (s : State) (known : Shaped s) where
  all : List TaskRecord
  all = together s.tasks (held_in s.held)

  -- there are as many tasks and objects as the state says, or as there is room for
  pub tasks-are : length (view s).tasks ≡ min s.task_count task_limit
  unfolding view all
  tasks-are =
      let n = together-length s.tasks (held_in s.held) (known.tasks ∙ sym (list_count held_width task_limit s.held)) in
      length-take s.task_count all ∙ rw (n, known.tasks)

  pub objects-are : length (view s).ceilings ≡ min s.object_count (length s.ceilings)
  unfolding view
  objects-are = length-take s.object_count (map level s.ceilings) ∙ rw (length-map s.ceilings level)

  -- each is read where it is written down
  pub task-read : (t : ℕ) → t < length (view s).tasks →
      get_or (view s).tasks t blank ≡ record_of (get_or s.tasks t blank_task) (get_or (held_in s.held) t [])
  unfolding view all
  task-read t h =
      get_or-take s.task_count all t blank (omega (arith, tasks-are)) ∙
      together-at s.tasks (held_in s.held) t (omega (arith, tasks-are, known.tasks))
      (omega (arith, tasks-are, list_count held_width task_limit s.held))

  pub ceiling-read : (o : ℕ) → o < length (view s).ceilings → get_or (view s).ceilings o 0 ≡ (get_or s.ceilings o (priority 0)).0
  unfolding view
  ceiling-read o h =
      get_or-take s.object_count (map level s.ceilings) o 0 (omega (arith, objects-are)) ∙ get_or-map level s.ceilings o (priority 0)

  told : (m : Model) →
      m ≡ record { now = s.now; running = s.running; tasks = m.tasks; ceilings = m.ceilings; ready = queues_in s.queues } →
      m.tasks ≡ (view s).tasks → m.ceilings ≡ (view s).ceilings → m ≡ view s
  unfolding view
  told m e ks cs =
      let q = queues_in s.queues in
      e ∙
      (ap (λ (x : List TaskRecord). record { now = s.now; running = s.running; tasks = x; ceilings = m.ceilings; ready = q }) ks ∙
      ap (λ (x : List ℕ). record { now = s.now; running = s.running; tasks = (view s).tasks; ceilings = x; ready = q }) cs)

  -- a Model that says the state's numbers, and has been read off it task by task and ceiling by ceiling
  pub state-loaded : Fitting s.task_count s.object_count s.held s.queues →
      (m : Model) (post : ℕ → Task → Type 0) (post' : ℕ → Priority → Type 0) →
      m ≡ record { now = s.now; running = s.running; tasks = m.tasks; ceilings = m.ceilings; ready = queues_in s.queues } →
      Each (TaskFrom post s.held) blank s.task_count m.tasks → Each (CeilingFrom post') 0 s.object_count m.ceilings →
      ((t : ℕ) (k : Task) → t < task_limit → post t k → k ≡ get_or s.tasks t blank_task) →
      ((o : ℕ) (p : Priority) → o < object_limit → post' o p → p ≡ get_or s.ceilings o (priority 0)) → m ≡ view s
  state-loaded fit m post post' e tasks ceilings f g =
      let ks : m.tasks ≡ (view s).tasks =
      same_at blank m.tasks (view s).tasks (omega (arith, tasks.count, tasks-are, fit.count)) (λ t h.
      let low : t < s.task_count = omega (arith, tasks.count, h) in
      let r = tasks.each t low in
      r.2 ∙ (ap (λ (k : Task). record_of k (get_or (held_in s.held) t [])) (f t r.0 (omega (arith, fit.count)) r.1) ∙
      sym (task-read t (omega (arith, tasks-are, fit.count))))) in
      let cs : m.ceilings ≡ (view s).ceilings =
      same_at 0 m.ceilings (view s).ceilings (omega (arith, ceilings.count, objects-are, known.ceilings, fit.objects)) (λ o h.
      let low : o < s.object_count = omega (arith, ceilings.count, h) in
      let r = ceilings.each o low in
      r.2 ∙ (ap (λ (p : Priority). p.0) (g o r.0 (omega (arith, fit.objects)) r.1) ∙
      sym (ceiling-read o (omega (arith, objects-are, known.ceilings, fit.objects))))) in
      told m e ks cs
