-- The clauses of soundness as the engine tests them: those about one task together, and those about one queue; and
-- the counts of the queued tasks.
use Rattle.std.specs.Prelude.{◌≡◌, Bool, not, ◌&&◌, ◌||◌, List, ℕ, ◌+◌, ◌≤◌, ◌<◌, eqb, leb, length, get_or}
use Rattle.rules.specs.Limits.{task_limit}
use Rattle.rules.specs.Model.{Model, TaskRecord, task_at, queue, active}
use Rattle.rules.specs.Events.{inside}
use Rattle.rules.specs.Sound.{record_good, in_one_place, is_running, is_ready, queued, due_good, distinct, rising, is_none}
use Rattle.rules.specs.Lists.{all_of}

-- "an object twice in one task's held list, or ceilings in it falling inwards or starting below the base"
abbrev pub held_good_at : Model → TaskRecord → Bool
held_good_at m k = distinct k.held && rising m.ceilings k.base k.held

-- "a holder neither ready nor running"; "a waiting base outside an action"
abbrev pub holder_here : TaskRecord → Bool
holder_here k = not (inside k) || eqb (is_ready k.place + is_running k.place) 1

abbrev pub waits_inside : TaskRecord → Bool
waits_inside k = inside k || is_none k.waiting

-- all clauses about the task t; numbers first, then in document 01's order
unfoldable pub task_sound : Model → ℕ → Bool
task_sound m t =
    record_good m (task_at m t) && in_one_place m t && due_good m.now (task_at m t).place && held_good_at m (task_at m t) &&
    holder_here (task_at m t) && waits_inside (task_at m t)

-- all clauses about the queue for p: a number that is no task's has the active priority 0, and so no queue of its own
unfoldable pub queue_sound : Model → ℕ → Bool
queue_sound m p = all_of (λ t. eqb (active m t) p) (queue m p)

-- all numbers of a list are below n
abbrev pub all_below : ℕ → List ℕ → Bool
all_below n l = all_of (λ x. not (leb n x)) l

-- How often each task stands in the queues, while they are counted: what is counted, and what stands in the rest of them, is what
-- stands in all; and none is counted more than n times.
pub record Counted (counts : List ℕ) (n : ℕ) (rest all : List (List ℕ)) : Type 0 where
  pub size : length counts ≡ task_limit
  pub few : (t : ℕ) → get_or counts t 0 ≤ n
  pub sum : (t : ℕ) → t < task_limit → get_or counts t 0 + queued rest t ≡ queued all t
