-- What a move needs of a Model: tasks that are there, priorities in range, room in a queue.
use Rattle.std.specs.Prelude.{◌≡◌, Bool, true, false, ℕ, ◌<◌, length, None, Option, Some}
use Rattle.rules.specs.Limits.{task_limit}
use Rattle.rules.specs.Model.{Model, with_base, with_waiting, task_at, with_task, queue, with_queue, active}
use Rattle.rules.specs.Moves.{stopped, preempt, head_of}
use Rattle.rules.specs.Events.{inside, nobody, task, first_due, wake_up}
use Rattle.rules.specs.declared.Place.{Place}
use Rattle.rules.specs.declared.Place.TheVariants.{Running, Ready, Delayed, Suspended, Ended}
use Rattle.rules.specs.Lists.{without}
use Rattle.memory.specs.Memory.{HasQueue, Rises}

-- the task t can join the queue for its active priority
pub record Joins (m : Model) (t : ℕ) : Type 0 where
  pub there : t < length m.tasks
  pub level : HasQueue (active m t)
  pub room : length (queue m (active m t)) < task_limit

-- .. and holds nothing, so that this is its base
pub record Arrives (m : Model) (t : ℕ) : Type 0 where
  pub joins : Joins m t
  pub bare : length (task_at m t).held ≡ 0

-- the head of the queue for p can run
pub record Starts (m : Model) (p : ℕ) : Type 0 where
  pub level : HasQueue p
  pub full : 0 < length (queue m p)
  pub head : head_of m p < length m.tasks

-- a dispatch: the running task can join its queue, the ceilings of what it holds do not fall, and any head can run
pub record Dispatches (m : Model) : Type 0 where
  pub runner : (t : ℕ) → m.running ≡ Some t → Joins m t
  pub rises : (t : ℕ) → m.running ≡ Some t → Rises m t
  pub heads : (p : ℕ) → HasQueue p → 0 < length (queue m p) → head_of m p < length m.tasks

-- what a ready queue has to be higher than: the running task, or nothing
unfoldable pub level_by : Model → Option ℕ → ℕ
level_by m None = 0
level_by m (Some t) = active m t

abbrev pub level_of : Model → ℕ
level_of m = level_by m m.running

-- the running task, if there is one, at the head of its queue
unfoldable pub vacated_by : Model → Option ℕ → Model
vacated_by m None = m
vacated_by m (Some t) = preempt m t

abbrev pub vacated : Model → Model
vacated m = vacated_by m m.running

-- the task t stopped, its base p, which waited, having taken effect
abbrev pub settled : Model → ℕ → ℕ → Model
settled m t p = stopped (with_task m t (with_waiting (with_base (task_at m t) p) None))

-- a base that is due can take effect
pub record Settles (m : Model) (t : ℕ) : Type 0 where
  pub there : t < length m.tasks
  pub due : (p : ℕ) → inside (task_at m t) ≡ false → (task_at m t).waiting ≡ Some p → Arrives (settled m t p) t

unfoldable pub is_suspended : Place → Bool
is_suspended Running = false
is_suspended Ready = false
is_suspended (Delayed d) = false
is_suspended Suspended = true
is_suspended Ended = false

-- a suspended task can be released
pub record Releases (m : Model) (t : ℕ) : Type 0 where
  pub there : t < length m.tasks
  pub suspended : is_suspended (task_at m t).place ≡ true → Arrives m t

-- after any number of wakings, who is the next to wake can join its queue
pub record Wakes (m : Model) (r : ℕ) : Type 0 where
  pub next : (n t d : ℕ) → first_due r nobody 0 (wake_up r n m).tasks ≡ task t d → Arrives (wake_up r n m) t

-- a task at the place x, with its new base, can go to the tail of its queue; a ready one leaves the queue for p
pub record Requeues (m : Model) (t p : ℕ) (x : Place) : Type 0 where
  pub there : t < length m.tasks
  pub running : x ≡ Running → Arrives (stopped m) t
  pub ready : x ≡ Ready → HasQueue p
  pub again : x ≡ Ready → Arrives (with_queue m p (without t (queue m p))) t

-- the base p can take effect outside an action
pub record Rebases (m : Model) (t p : ℕ) : Type 0 where
  pub there : t < length m.tasks
  pub outside : inside (task_at m t) ≡ false →
      Requeues (with_task m t (with_base (task_at m t) p)) t (active m t) (task_at m t).place
