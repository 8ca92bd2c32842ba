-- Soundness read clause by clause, in document 01's order and words; the test of Sound.antt says just this.
use Rattle.std.specs.Prelude.{◌≡◌, ◌↔◌, true, ◌∷◌, map, ℕ, suc, ◌+◌, ◌≤◌, ◌<◌, length, get_or, None, Some}
use Rattle.rules.specs.Limits.{task_limit, object_limit, last_reading, last_delay, last_priority}
use Rattle.rules.specs.Lists.{times_in}
use Rattle.rules.specs.Priorities.{in_range}
use Rattle.rules.specs.Model.{Model, task_at, queue, ceiling_of, active}
use Rattle.rules.specs.Sound.{is_running, is_ready, runs, queued, sound}
use Rattle.rules.specs.declared.Place.TheVariants.{Delayed}

-- "a count or number out of range": none is
pub record Numbers (m : Model) : Type 0 where
  pub some : 1 ≤ length m.tasks
  pub count : length m.tasks ≤ task_limit
  pub objects : length m.ceilings ≤ object_limit
  pub queues : length m.ready ≡ last_priority
  pub reading : m.now ≤ last_reading
  pub ceiling : (p : ℕ) → 0 < times_in p m.ceilings → in_range p ≡ true
  pub base : (t : ℕ) → t < length m.tasks → in_range (task_at m t).base ≡ true
  pub waiting : (t p : ℕ) → t < length m.tasks → (task_at m t).waiting ≡ Some p → in_range p ≡ true
  pub held : (t o : ℕ) → t < length m.tasks → 0 < times_in o (task_at m t).held → o < length m.ceilings
  pub runner : (t : ℕ) → m.running ≡ Some t → t < length m.tasks
  pub queued : (p t : ℕ) → p < last_priority → 0 < times_in t (queue m (suc p)) → t < length m.tasks

-- none of what "Unsound means"
pub record Sound (m : Model) : Type 0 where
  pub numbers : Numbers m
  -- "a task in two places, or in none"
  pub placed : (t : ℕ) → t < length m.tasks →
      (runs m.running t ≡ is_running (task_at m t).place) × (queued m.ready t ≡ is_ready (task_at m t).place)
  -- "a ready task in a queue other than its active priority's"
  pub level : (p t : ℕ) → p < last_priority → 0 < times_in t (queue m (suc p)) → active m t ≡ suc p
  -- "a due time not after now or over 65,535 past it"
  pub due : (t d : ℕ) → t < length m.tasks → (task_at m t).place ≡ Delayed d → (m.now < d) × (d ≤ m.now + last_delay)
  -- "a running task below a ready one, or nobody running while one is ready"
  pub highest : (t u : ℕ) → m.running ≡ Some t → 0 < queued m.ready u → active m u ≤ active m t
  pub busy : (u : ℕ) → 0 < queued m.ready u → m.running ≡ None → ⊥
  -- "an object twice in one task's held list, or ceilings in it falling inwards or starting below the base"
  pub once : (t o : ℕ) → t < length m.tasks → times_in o (task_at m t).held ≤ 1
  pub rises : (t i : ℕ) → t < length m.tasks → i < length (task_at m t).held →
      get_or ((task_at m t).base ∷ map (ceiling_of m.ceilings) (task_at m t).held) i 0 ≤ ceiling_of m.ceilings
      (get_or (task_at m t).held i 0)
  -- "a holder neither ready nor running"
  pub present : (t : ℕ) → t < length m.tasks → 0 < length (task_at m t).held →
      is_ready (task_at m t).place + is_running (task_at m t).place ≡ 1
  -- "a waiting base outside an action"
  pub calm : (t : ℕ) → t < length m.tasks → length (task_at m t).held ≡ 0 → (task_at m t).waiting ≡ None

-- a Model passes the test exactly when it keeps every clause
abbrev pub SoundClaim : Type 0
SoundClaim = (m : Model) → (sound m ≡ true) ↔ Sound m
