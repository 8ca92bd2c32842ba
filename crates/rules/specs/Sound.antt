-- What is unsound, clause by clause in document 01's order ("Unsound means: .."). Each definition below says that its clause is kept.
use Rattle.std.specs.Prelude.{Bool, true, false, not, ◌&&◌, ◌||◌, List, [], ◌∷◌, ℕ, suc, ◌+◌, eqb, leb, ltb, length, None, Option, Some}
use Rattle.rules.specs.Limits.{last_priority, last_reading, last_delay, counts_good}
use Rattle.rules.specs.Priorities.{in_range}
use Rattle.rules.specs.Model.{TaskRecord, Model, task_at, queue, ceiling_of, active}
use Rattle.rules.specs.Moves.{highest}
use Rattle.rules.specs.Events.{no_task, no_object, inside}
use Rattle.rules.specs.declared.Place.{Place}
use Rattle.rules.specs.declared.Place.TheVariants.{Running, Ready, Delayed, Suspended, Ended}
use Rattle.rules.specs.Lists.{below, all_of, times_in}

-- a test of every task's record; of every priority
abbrev pub each_task : Model → (TaskRecord → Bool) → Bool
each_task m f = below (length m.tasks) (λ t. f (task_at m t))

abbrev pub each_priority : (ℕ → Bool) → Bool
each_priority f = below last_priority (λ q. f (suc q))

-- "a count or number out of range": the counts, now, the ceilings
abbrev pub sizes_good : Model → Bool
sizes_good m =
    counts_good (length m.tasks) (length m.ceilings) && eqb (length m.ready) last_priority &&
    leb m.now last_reading && all_of in_range m.ceilings

-- .. the bases, the waiting bases and the held objects
unfoldable pub waiting_good : Option ℕ → Bool
waiting_good None = true
waiting_good (Some p) = in_range p

abbrev pub record_good : Model → TaskRecord → Bool
record_good m k = in_range k.base && waiting_good k.waiting && all_of (λ o. not (no_object m o)) k.held

-- .. and the tasks that are named as running or ready
unfoldable pub runner_good : Model → Option ℕ → Bool
runner_good m None = true
runner_good m (Some t) = not (no_task m t)

unfoldable pub numbers_good : Model → Bool
numbers_good m =
    sizes_good m && each_task m (record_good m) && runner_good m m.running &&
    each_priority (λ p. all_of (λ t. not (no_task m t)) (queue m p))

-- 1 where the place is Running, Ready; 1 where the Model names the task as running; how often it stands in the ready queues
unfoldable pub is_running : Place → ℕ
is_running Running = 1
is_running Ready = 0
is_running (Delayed d) = 0
is_running Suspended = 0
is_running Ended = 0

unfoldable pub is_ready : Place → ℕ
is_ready Running = 0
is_ready Ready = 1
is_ready (Delayed d) = 0
is_ready Suspended = 0
is_ready Ended = 0

unfoldable pub runs : Option ℕ → ℕ → ℕ
runs None t = 0
runs (Some u) t = times_in t (u ∷ [])

unfoldable pub queued : List (List ℕ) → ℕ → ℕ
queued [] t = 0
queued (q ∷ qs) t = times_in t q + queued qs t

-- "a task in two places, or in none": a task named r times as running, and n times in the queues, is where its place says, and
-- nowhere else
unfoldable pub stands_in : ℕ → ℕ → Place → Bool
stands_in r n Running = eqb r 1 && eqb n 0
stands_in r n Ready = eqb r 0 && eqb n 1
stands_in r n (Delayed d) = eqb r 0 && eqb n 0
stands_in r n Suspended = eqb r 0 && eqb n 0
stands_in r n Ended = eqb r 0 && eqb n 0

abbrev pub in_one_place : Model → ℕ → Bool
in_one_place m t = stands_in (runs m.running t) (queued m.ready t) (task_at m t).place

unfoldable pub one_place : Model → Bool
one_place m = below (length m.tasks) (in_one_place m)

-- "a ready task in a queue other than its active priority's"
unfoldable pub own_queue : Model → Bool
own_queue m = each_priority (λ p. all_of (λ t. eqb (active m t) p) (queue m p))

-- "a due time not after now or over 65,535 past it"
unfoldable pub due_good : ℕ → Place → Bool
due_good now Running = true
due_good now Ready = true
due_good now (Delayed d) = ltb now d && leb d (now + last_delay)
due_good now Suspended = true
due_good now Ended = true

unfoldable pub due_ahead : Model → Bool
due_ahead m = each_task m (λ k. due_good m.now k.place)

-- "a running task below a ready one, or nobody running while one is ready"
unfoldable pub highest_runs : Model → Option ℕ → Bool
highest_runs m None = eqb (highest m) 0
highest_runs m (Some t) = leb (highest m) (active m t)

-- "an object twice in one task's held list"
unfoldable pub distinct : List ℕ → Bool
distinct [] = true
distinct (o ∷ os) = eqb (times_in o os) 0 && distinct os

-- "or ceilings in it falling inwards or starting below the base": from p on they do not fall
unfoldable pub rising : List ℕ → ℕ → List ℕ → Bool
rising cs p [] = true
rising cs p (o ∷ os) = leb p (ceiling_of cs o) && rising cs (ceiling_of cs o) os

unfoldable pub held_good : Model → Bool
held_good m = each_task m (λ k. distinct k.held && rising m.ceilings k.base k.held)

-- "a holder neither ready nor running"
unfoldable pub holders_here : Model → Bool
holders_here m = each_task m (λ k. not (inside k) || eqb (is_ready k.place + is_running k.place) 1)

-- "a waiting base outside an action"
unfoldable pub is_none : Option ℕ → Bool
is_none None = true
is_none (Some p) = false

unfoldable pub waiting_inside : Model → Bool
waiting_inside m = each_task m (λ k. inside k || is_none k.waiting)

-- none of it. "That one object has one holder is promised of fresh histories only."
unfoldable pub sound : Model → Bool
sound m =
    numbers_good m && one_place m && own_queue m && due_ahead m && highest_runs m m.running && held_good m && holders_here m &&
    waiting_inside m
