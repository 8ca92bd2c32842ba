-- Laws of the moves: the active priority of a task that holds nothing, and the two ways of a dispatch.
use mathlib.Core.Path.{◌≡◌, refl, ap, ◌∙◌, sym, subst}
use mathlib.Core.Bool.{false}
use mathlib.Core.List.{List, [], ◌∷◌}
use Prim.Native.Nat.{ℕ, ◌-◌, ◌≤◌, ◌<◌}
use native.Mathlib.Omega.{arith}
use borrow.Author.Tests.{eq-eqb, ne_eqb, le-leb, lt-leb}
use lib.ListN.{length, get_or, length-set}
use lib.Seq.{get_or-set_same, get_or-set_other, set-set}
use Rattle.std.specs.Prelude.{None, Option, Some}
use Rattle.rules.specs.Limits.{last_priority}
use Rattle.rules.specs.Model.{Model, TaskRecord, blank, with_place, active, task_at, with_task, queue}
use Rattle.rules.specs.Moves.{become_ready, highest, stopped, preempt, start, dispatch}
use Rattle.rules.specs.Events.{inside}
use Rattle.rules.specs.declared.Place.TheVariants.{Ready, Delayed}
use Rattle.rules.proofs.Pending.{hold-none}
use Rattle.rules.proofs.Levels.{bare, highest-top, highest-full}
use Rattle.rules.proofs.MoveLaws.{ready-task, dispatch-idle, dispatch-start, dispatch-stay, dispatch-switch}
use Rattle.memory.specs.Memory.{HasQueue}
use Rattle.moves.specs.Room.{Arrives, Starts, Dispatches, level_by, level_of, vacated_by, vacated}

-- the active priority of a task that holds nothing is its base
pub arrives-level : (m : Model) (t : ℕ) → Arrives m t → active m t ≡ (task_at m t).base
arrives-level m t a = bare m.ceilings (task_at m t).base (task_at m t).held a.bare

pub outside-level : (m : Model) (t : ℕ) → inside (task_at m t) ≡ false → active m t ≡ (task_at m t).base
outside-level m t e = bare m.ceilings (task_at m t).base (task_at m t).held (hold-none (task_at m t) e)

-- a task's record is replaced twice
pub task-twice : (m : Model) (t : ℕ) (k : TaskRecord) (f : TaskRecord → TaskRecord) → t < length m.tasks →
    with_task (with_task m t k) t (f (task_at (with_task m t k) t)) ≡ with_task m t (f k)
task-twice m t k f h = rw (get_or-set_same m.tasks t k blank h, set-set m.tasks t k (f k))

-- a task that has become ready is there, and is not delayed
module _ (m n : Model) (t : ℕ) (h : t < length m.tasks) (e : n ≡ become_ready m t) where
  pub ready-there : t < length n.tasks
  unfolding become_ready
  ready-there = omega (arith, h, ap (λ (x : Model). length x.tasks) e, length-set m.tasks t (with_place (task_at m t) Ready))

  pub ready-awake : (d : ℕ) → (task_at n t).place ≡ Delayed d → ⊥
  ready-awake d p =
      cc (sym (ap (λ (k : TaskRecord). k.place) (ap (λ (x : Model). task_at x t) e ∙ ready-task m t h)) ∙ p)

-- what a dispatch needs where it starts a task, and where it preempts one first
pub highest-starts : (m : Model) (p : ℕ) → Dispatches m → p ≡ highest m → (p ≡ 0 → ⊥) → Starts m p
unfolding highest
highest-starts m p d e n =
    let level : HasQueue p = record { low = omega (arith, n); high = omega (arith, highest-top m.ready last_priority) } in
    let full : 0 < length (queue m p) = rw e (highest-full m.ready last_priority (omega (arith, n))) in
    record { level = level; full = full; head = d.heads p level full }

preempted-starts : (m : Model) (t p : ℕ) → Starts m p → active m t < p → 1 ≤ active m t → Starts (preempt m t) p
unfolding preempt stopped
preempted-starts m t p s l h =
    let other : queue (preempt m t) p ≡ queue m p =
    get_or-set_other m.ready (active m t - 1) (p - 1) (t ∷ queue m (active m t)) [] (λ e. omega arith) in
    let count : length (preempt m t).tasks ≡ length m.tasks = length-set m.tasks t _ in
    record {
      level = s.level;
      full = rw other s.full;
      head = subst (λ (q : List ℕ). get_or q 0 0 < length (preempt m t).tasks) (sym other) (omega (arith, count, s.head));
    }

pub vacated-starts : (m : Model) (p : ℕ) → Dispatches m → Starts m p → level_of m < p → Starts (vacated m) p
unfolding level_by vacated_by
vacated-starts m p d s = by m.running refl
  where
    by : (w : Option ℕ) → m.running ≡ w → level_by m w < p → Starts (vacated_by m w) p
    by None e l = s
    by (Some t) e l = preempted-starts m t p s l (d.runner t e).level.low

-- the two ways of a dispatch, p being the highest queue: by who runs
module _ (m : Model) (p : ℕ) (e : p ≡ highest m) where
  idle-way : m.running ≡ None → p ≡ 0 → m ≡ dispatch m
  idle-way w z = sym (dispatch-idle m w (eq-eqb (highest m) 0 (sym e ∙ z)))

  start-way : m.running ≡ None → (p ≡ 0 → ⊥) → start m p ≡ dispatch m
  start-way w n = ap (start m) e ∙ sym (dispatch-start m w (ne_eqb (highest m) 0 (λ z. n (e ∙ z))))

  stay-way : (t : ℕ) → m.running ≡ Some t → p ≤ active m t → m ≡ dispatch m
  stay-way t w l = sym (dispatch-stay m t w (le-leb (highest m) (active m t) (omega (arith, e))))

  switch-way : (t : ℕ) → m.running ≡ Some t → active m t < p → start (preempt m t) p ≡ dispatch m
  switch-way t w l = ap (start (preempt m t)) e ∙ sym (dispatch-switch m t w (lt-leb (highest m) (active m t) (omega (arith, e))))

  pub stays : p ≤ level_of m → m ≡ dispatch m
  unfolding level_by
  stays = by m.running refl
    where
      by : (w : Option ℕ) → m.running ≡ w → p ≤ level_by m w → m ≡ dispatch m
      by None w l = idle-way w (omega arith)
      by (Some t) w l = stay-way t w l

  pub changes : level_of m < p → start (vacated m) p ≡ dispatch m
  unfolding level_by vacated_by
  changes = by m.running refl
    where
      by : (w : Option ℕ) → m.running ≡ w → level_by m w < p → start (vacated_by m w) p ≡ dispatch m
      by None w l = start-way w (λ z. omega (arith, z))
      by (Some t) w l = switch-way t w l

-- the level, and who is sent back, by who runs
module _ (m : Model) where
  pub level-idle : m.running ≡ None → 0 ≡ level_of m
  unfolding level_by
  level-idle e = sym (ap (level_by m) e)

  pub level-busy : (t a : ℕ) → m.running ≡ Some t → a ≡ active m t → a ≡ level_of m
  unfolding level_by
  level-busy t a e f = f ∙ sym (ap (level_by m) e)

  pub vacated-idle : m.running ≡ None → m ≡ vacated m
  unfolding vacated_by
  vacated-idle e = sym (ap (vacated_by m) e)

  pub vacated-busy : (t : ℕ) → m.running ≡ Some t → preempt m t ≡ vacated m
  unfolding vacated_by
  vacated-busy t e = sym (ap (vacated_by m) e)

  pub busy-level : (t a : ℕ) → m.running ≡ Some t → a ≡ level_of m → a ≡ active m t
  unfolding level_by
  busy-level t a e f = f ∙ ap (level_by m) e
