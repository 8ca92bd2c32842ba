-- The nine events: what each answers and reports, and the Model after it.
use Rattle.std.specs.Prelude.{Bool, true, false, cond, not, ◌&&◌, ◌||◌, List, [], ◌∷◌, ◌++◌, ℕ, zero, suc, ◌+◌, ◌-◌, eqb, leb, ltb, length}
use Rattle.std.specs.Prelude.{None, Option, Some}
use Rattle.std.specs.Prelude.{get_or, take}
use Rattle.rules.specs.Limits.{last_reading, longest_advance}
use Rattle.rules.specs.Priorities.{in_range}
use Rattle.rules.specs.Model.{TaskRecord, Model, with_place, with_base, with_waiting, with_permit, with_held}
use Rattle.rules.specs.Model.{with_now, task_at, with_task, queue, with_queue, ceiling_of, active}
use Rattle.rules.specs.Moves.{become_ready, stopped}
use Rattle.rules.specs.Moved.{Moved, accepted, refuse_if, refuse_if_nobody}
use Rattle.rules.specs.declared.Place.{Place}
use Rattle.rules.specs.declared.Place.TheVariants.{Running, Ready, Delayed, Suspended, Ended}
use Rattle.rules.specs.declared.Event.{Event}
use Rattle.rules.specs.declared.Event.TheVariants.{Enter, Leave, Delay, Suspend, Release, Clock, Set, Work, Finish}
use Rattle.rules.specs.declared.Refusal.TheVariants.{NoSuchTask, NoSuchObject, BadPriority, BadReading, EndedTask}
use Rattle.rules.specs.declared.Refusal.TheVariants.{InsideAction, AboveCeiling, NotInnermost}
use Rattle.rules.specs.Lists.{times_in, without}

-- answer 1: "no such task"; answer 2: "no such object"
abbrev pub no_task : Model → ℕ → Bool
no_task m t = leb (length m.tasks) t

abbrev pub no_object : Model → ℕ → Bool
no_object m o = leb (length m.ceilings) o

-- "an object that the task holds"
abbrev pub holds : TaskRecord → ℕ → Bool
holds k o = ltb 0 (times_in o k.held)

-- "inside a protected action": the task holds something, whether it runs or was preempted (D.3 and D.5, 000)
abbrev pub inside : TaskRecord → Bool
inside k = ltb 0 (length k.held)

-- "Enter: the running task holds the object as its innermost."
abbrev pub take_hold : Model → ℕ → ℕ → Model
take_hold m o t = with_task m t (with_held (task_at m t) ((task_at m t).held ++ (o ∷ [])))

-- 8: "active priority above the ceiling"
abbrev pub over_ceiling : Model → ℕ → ℕ → Bool
over_ceiling m o t = ltb (ceiling_of m.ceilings o) (active m t)

-- 2; 5; 7, "Enter of an object that the task holds"; 8
unfoldable pub enter : Model → ℕ → Moved
enter m o =
    refuse_if m (no_object m o) NoSuchObject
    (refuse_if_nobody m m.running (λ t.
    refuse_if m (holds (task_at m t) o) InsideAction
    (refuse_if m (over_ceiling m o t) AboveCeiling
    (accepted m.running (take_hold m o t)))))

-- the object that the task entered last
abbrev pub innermost : TaskRecord → ℕ → Bool
innermost k o = inside k && eqb (get_or k.held (length k.held - 1) 0) o

-- "Leave: the innermost object is given up."
abbrev pub give_up : Model → ℕ → Model
give_up m t = with_task m t (with_held (task_at m t) (take (length (task_at m t).held - 1) (task_at m t).held))

-- "The task runs on, unless a waiting base is due": it "takes effect when t leaves its outermost object: t then goes to the
-- tail, even where p equals the base"
unfoldable pub settle_with : Model → ℕ → Option ℕ → Model
settle_with m t None = m
settle_with m t (Some p) = become_ready (stopped (with_task m t (with_waiting (with_base (task_at m t) p) None))) t

unfoldable pub settle : Model → ℕ → Model
settle m t = cond (inside (task_at m t)) m (settle_with m t (task_at m t).waiting)

-- 2; 5; 9, "Leave of an object that isn't the innermost held"
unfoldable pub leave : Model → ℕ → Moved
leave m o =
    refuse_if m (no_object m o) NoSuchObject
    (refuse_if_nobody m m.running (λ t.
    refuse_if m (not (innermost (task_at m t) o)) NotInnermost
    (accepted m.running (settle (give_up m t) t))))

-- "Delay d: 0 sends the task to the tail of its queue; otherwise it is delayed until now + d."
unfoldable pub put_off : Model → ℕ → ℕ → Model
put_off m t d = cond (eqb d 0) (become_ready m t) (with_task m t (with_place (task_at m t) (Delayed (m.now + d))))

-- 5; 7, "Delay (also 0) .. inside a protected action"
unfoldable pub delay : Model → ℕ → Moved
delay m d =
    refuse_if_nobody m m.running (λ t. refuse_if m (inside (task_at m t)) InsideAction (accepted m.running (put_off (stopped m) t d)))

-- "Suspend: with a permit, the permit goes and the task runs on; else it is suspended."
unfoldable pub rest : Model → ℕ → Model
rest m t =
    cond (task_at m t).permit
    (with_task m t (with_permit (task_at m t) false))
    (with_task (stopped m) t (with_place (task_at m t) Suspended))

-- 5; 7, "Suspend .. inside a protected action"
unfoldable pub suspend : Model → Moved
suspend m =
    refuse_if_nobody m m.running (λ t. refuse_if m (inside (task_at m t)) InsideAction (accepted m.running (rest m t)))

-- "Release t: a suspended t becomes ready; otherwise t's permit is on (once)."
abbrev pub permit_on : Model → ℕ → Model
permit_on m t = with_task m t (with_permit (task_at m t) true)

unfoldable pub release_from : Model → ℕ → Place → Model
release_from m t Running = permit_on m t
release_from m t Ready = permit_on m t
release_from m t (Delayed d) = permit_on m t
release_from m t Suspended = become_ready m t
release_from m t Ended = permit_on m t

-- 1
unfoldable pub release : Model → ℕ → Moved
release m t =
    refuse_if m (no_task m t) NoSuchTask
    (accepted m.running (release_from m t (task_at m t).place))

-- a task that is due, with its due time
pub data Due : Type 0 where
  nobody : Due
  task : ℕ → ℕ → Due

-- "Tasks due at or before r": the task t at a place
unfoldable pub due_at : ℕ → ℕ → Place → Due
due_at r t Running = nobody
due_at r t Ready = nobody
due_at r t (Delayed d) = cond (leb d r) (task t d) nobody
due_at r t Suspended = nobody
due_at r t Ended = nobody

-- "by due time, lower number first when equal": the former, having the lower number, unless the latter is due earlier
unfoldable pub earlier : Due → Due → Due
earlier nobody y = y
earlier (task t d) nobody = task t d
earlier (task t d) (task u e) = cond (leb d e) (task t d) (task u e)

-- the first to wake at r: of the best so far and the tasks from t on
unfoldable pub first_due : ℕ → Due → ℕ → List TaskRecord → Due
first_due r best t [] = best
first_due r best t (k ∷ ks) = first_due r (earlier best (due_at r t k.place)) (suc t) ks

unfoldable pub wake : Model → Due → Model
wake m nobody = m
wake m (task t d) = become_ready m t

-- "become ready by due time": one after the other, n times; there are no more than tasks
unfoldable pub wake_up : ℕ → ℕ → Model → Model
wake_up r zero m = m
wake_up r (suc n) m = wake_up r n (wake m (first_due r nobody 0 m.tasks))

-- 4: "reading below now or above the largest"; since 2026-08 also "more than 86,400,000 ticks past now"
unfoldable pub bad_reading : ℕ → ℕ → Bool
bad_reading now r = ltb r now || ltb (now + longest_advance) r || ltb last_reading r

-- "Clock r: now is r. Tasks due at or before r become ready"
abbrev pub take_reading : Model → ℕ → Model
take_reading m r = wake_up r (length m.tasks) (with_now m r)

-- 4
unfoldable pub clock : Model → ℕ → Moved
clock m r = refuse_if m (bad_reading m.now r) BadReading (accepted m.running (take_reading m r))

-- "a ready or running t goes to the tail of the queue for its active priority"; a ready one leaves the queue where it stood
unfoldable pub requeue : Model → ℕ → ℕ → Place → Model
requeue m t stood Running = become_ready (stopped m) t
requeue m t stood Ready = become_ready (with_queue m stood (without t (queue m stood))) t
requeue m t stood (Delayed d) = m
requeue m t stood Suspended = m
requeue m t stood Ended = m

-- "Set t, p: outside a protected action the base becomes p", and t moves whatever the value (2026-04: source 002, D.2.3, note 15 for a
-- ready task, and its rule for a running one, 6/2, which has no exception); "Inside an action p waits, a later one replacing it"
unfoldable pub rebase : Model → ℕ → ℕ → Model
rebase m t p =
    cond (inside (task_at m t))
    (with_task m t (with_waiting (task_at m t) (Some p)))
    (requeue (with_task m t (with_base (task_at m t) p)) t (active m t) (task_at m t).place)

unfoldable pub is_ended : Place → Bool
is_ended Running = false
is_ended Ready = false
is_ended (Delayed d) = false
is_ended Suspended = false
is_ended Ended = true

-- 1; 3, "priority outside 1 to 32"; 6, "Set on an ended task"
unfoldable pub set_base : Model → ℕ → ℕ → Moved
set_base m t p =
    refuse_if m (no_task m t) NoSuchTask
    (refuse_if m (not (in_range p)) BadPriority
    (refuse_if m (is_ended (task_at m t).place) EndedTask
    (accepted m.running (rebase m t p))))

-- 5; "Work: no effect."
unfoldable pub work : Model → Moved
work m = refuse_if_nobody m m.running (λ t. accepted m.running m)

-- "Finish: the running task is ended."
abbrev pub end : Model → ℕ → Model
end m t = with_task (stopped m) t (with_place (task_at m t) Ended)

-- 5; 7, "Finish inside a protected action"
unfoldable pub finish : Model → Moved
finish m =
    refuse_if_nobody m m.running (λ t. refuse_if m (inside (task_at m t)) InsideAction (accepted m.running (end m t)))

-- any of the nine
unfoldable pub apply : Model → Event → Moved
apply m (Enter o) = enter m o
apply m (Leave o) = leave m o
apply m (Delay d) = delay m d
apply m Suspend = suspend m
apply m (Release t) = release m t
apply m (Clock r) = clock m r
apply m (Set t p) = set_base m t p.0
apply m Work = work m
apply m Finish = finish m
