-- What the standing of a Model gives the moves: tasks that are there, priorities in range, room for the task on its way.
use mathlib.Core.Path.{◌≡◌, refl, ap, ◌∙◌, sym, subst}
use mathlib.Core.Bool.{Bool, true, false}
use Prim.Native.Nat.{ℕ, zero, suc, ◌+◌, ◌-◌, ◌<◌}
use native.Mathlib.Omega.{arith}
use borrow.Author.Tests.{ltb-false}
use lib.ListN.{length, length-set}
use Rattle.std.specs.Prelude.{None, Some}
use Rattle.rules.specs.Limits.{task_limit, object_limit}
use Rattle.rules.specs.Priorities.{in_range}
use Rattle.rules.specs.Model.{Model, TaskRecord, blank, with_base, with_waiting, with_now}
use Rattle.rules.specs.Model.{task_at, with_task, queue, with_queue, active}
use Rattle.rules.specs.Moves.{head_of, stopped}
use Rattle.rules.specs.Events.{holds, inside, give_up, nobody, task, first_due, wake_up}
use Rattle.rules.specs.Sound.{is_ready, is_running, waiting_good}
use Rattle.rules.specs.declared.Place.{Place}
use Rattle.rules.specs.declared.Place.TheVariants.{Running, Ready, Delayed, Suspended, Ended}
use Rattle.rules.specs.Lists.{times_in, without}
use Rattle.rules.proofs.Choices.{compare, clash}
use Rattle.rules.proofs.PriorityLaws.{in_bounds}
use Rattle.rules.proofs.Counts.{times-same, times-head, queued-at}
use Rattle.rules.proofs.TaskLaws.{ready, depth, base_of, runs-named, runs-is, at_same, out_of}
use Rattle.rules.proofs.Standing.{all_runs, all-queueing, stand-unqueued}
use Rattle.rules.proofs.Core.{Core, act-low, act-high, runner-in, core-out, core-wake, core-put, core-held}
use Rattle.rules.proofs.Room.{queue-room, runner-room}
use Rattle.rules.proofs.HeldLaws.{held-room}
use Rattle.rules.proofs.WakingLaws.{Finds, finds, woke, delayed-off, core-now}
use Rattle.rules.proofs.Pending.{Good, hold-none, t-runs, t-in, t-fair}
use Rattle.memory.specs.Memory.{Rises}
use Rattle.moves.specs.Room.{Joins, Arrives, Dispatches, settled, Settles, is_suspended, Releases, Wakes, Requeues, Rebases}

-- the task on its way can join its queue, and so can the running task
pub core-arrives : {ord : Bool} (m : Model) (x : ℕ) → Core ord m x → x < length m.tasks → Arrives m x
core-arrives m x c h =
    record {
      joins = record {
        there = h;
        level = record { low = act-low m x c x h; high = act-high m x c x h };
        room = omega (arith, queue-room m x c (active m x - 1) h, c.count);
      };
      bare = c.stand.empty;
    }

runner-joins : {ord : Bool} (m : Model) (t : ℕ) → Core ord m task_limit → m.running ≡ Some t → Joins m t
runner-joins m t c e =
    let r = runs-named m.running t e in
    let h = runner-in m c t r in
    record {
      there = h;
      level = record { low = act-low m task_limit c t h; high = act-high m task_limit c t h };
      room = omega (arith, runner-room m c t (active m t - 1) r h, c.count);
    }

-- who stands at the head of a queue is a task
head-there : {ord : Bool} (m : Model) (p : ℕ) → Core ord m task_limit → 0 < length (queue m p) → head_of m p < length m.tasks
unfolding is_ready
head-there m p c f =
    let t = head_of m p in
    let q = all-queueing _ _ _ _ task_limit c.stand c.count t in
    let has : 0 < times_in t (queue m p) = omega (arith, times-head t (queue m p) f, times-same t t refl) in
    compare (length m.tasks) t
    (λ g. absurd (omega (arith, has, queued-at m.ready (p - 1) t, q, out_of ready m.tasks t g)))
    (λ g. g)

pub core-dispatches : {ord : Bool} (m : Model) → Core ord m task_limit → ((t : ℕ) → t < length m.tasks → Rises m t) → Dispatches m
core-dispatches m c r =
    record {
      runner = λ t e. runner-joins m t c e;
      rises = λ t e. r t (runner-in m c t (runs-named m.running t e));
      heads = λ p q f. head-there m p c f;
    }

-- the running task t, with another record k, stops and goes on its way
stop-core : {ord : Bool} (m : Model) (t : ℕ) (k : TaskRecord) → Core ord m task_limit → m.running ≡ Some t → depth (task_at m t) ≡ 0 →
    depth k ≡ 0 → in_range (base_of k) ≡ true → Core ord (stopped (with_task m t k)) t
unfolding stopped
stop-core m t k c e z y g =
    let b = in_bounds (base_of k) g in
    let r = runs-named m.running t e in
    core-put (stopped m) t (core-out m c t r z) k (runner-in m c t r) y b.0 b.1

module _ {ord : Bool} (m : Model) (t : ℕ) (h : Good ord m) (e : m.running ≡ Some t) where
  -- Enter: room for an object that it does not hold
  pub enter-room : (o : ℕ) → o < length m.ceilings → holds (task_at m t) o ≡ false → length (task_at m t).held < object_limit
  enter-room o l z =
      let f = t-fair m t h e in
      let None : times_in o (task_at m t).held ≡ 0 = omega (arith, ltb-false 0 (times_in o (task_at m t).held) z) in
      omega (arith, held-room (length m.ceilings) o (task_at m t).held f.listing f.once l None, h.pending.sizes.objects)

  -- Leave: a base that waits can take effect
  left-core : Core ord (give_up m t) task_limit
  left-core = core-held m h.pending.core t _ (t-runs m t h e) refl refl refl

  left-range : (p : ℕ) → (task_at (give_up m t) t).waiting ≡ Some p → in_range p ≡ true
  unfolding waiting_good
  left-range p w =
      let same = at_same (λ (k : TaskRecord). k.waiting) blank m.tasks t _ t refl (t-in m t h e) in
      sym (ap waiting_good (sym same ∙ w)) ∙ (t-fair m t h e).waiting

  effect : (p : ℕ) → inside (task_at (give_up m t) t) ≡ false → (task_at (give_up m t) t).waiting ≡ Some p →
      Arrives (settled (give_up m t) t p) t
  unfolding stopped
  effect p z w =
      let k = with_waiting (with_base (task_at (give_up m t) t) p) None in
      let bare = hold-none (task_at (give_up m t) t) z in
      let n : t < length (give_up m t).tasks = runner-in (give_up m t) left-core t (t-runs m t h e) in
      core-arrives _ t (stop-core (give_up m t) t k left-core e bare bare (left-range p w))
      (omega (arith, length-set (give_up m t).tasks t k))

  pub leave-settles : Settles (give_up m t) t
  leave-settles = record { there = runner-in (give_up m t) left-core t (t-runs m t h e); due = effect }

  -- Delay
  pub delay-joins : inside (task_at m t) ≡ false → Arrives (stopped m) t
  unfolding stopped
  delay-joins z =
      core-arrives (stopped m) t (core-out m h.pending.core t (t-runs m t h e) (hold-none (task_at m t) z)) (t-in m t h e)

-- Release of a suspended task
pub release-needs : {ord : Bool} (m : Model) (t : ℕ) → Core ord m task_limit → t < length m.tasks → Releases m t
unfolding is_suspended is_ready is_running
release-needs m t c h = record { there = h; suspended = go (task_at m t).place refl }
  where
    go : (x : Place) → (task_at m t).place ≡ x → is_suspended x ≡ true → Arrives m t
    go Running e f = clash (sym f)
    go Ready e f = clash (sym f)
    go (Delayed d) e f = clash (sym f)
    go Suspended e f = core-arrives m t (core-wake m c t (ap (λ (x : Place). is_ready x + is_running x) e)) h
    go Ended e f = clash (sym f)

-- Clock: after any number of wakings, whoever is due is away and there
wake-core : {ord : Bool} (r n : ℕ) (m : Model) → Core ord m task_limit → Core ord (wake_up r n m) task_limit
unfolding wake_up
wake-core r zero m c = c
wake-core r (suc n) m c = wake-core r n _ (woke r m (first_due r nobody 0 m.tasks) c (finds r 0 m.tasks)).core

due-joins : {ord : Bool} (m : Model) (r t d : ℕ) → Core ord m task_limit → Finds r 0 m.tasks (task t d) → Arrives m t
due-joins m r t d c f =
    let at : t ≡ f.at = omega (arith, f.is) in
    let place : (task_at m t).place ≡ Delayed d = ap (λ (v : ℕ). (task_at m v).place) at ∙ f.place in
    core-arrives m t (core-wake m c t (delayed-off (task_at m t).place d place)) (omega (arith, f.low))

pub clock-wakes : {ord : Bool} (m : Model) (r : ℕ) → Core ord m task_limit → Wakes (with_now m r) r
clock-wakes m r c =
    record {
      next = λ n t d e.
          let found = subst (Finds r 0 (wake_up r n (with_now m r)).tasks) e (finds r 0 (wake_up r n (with_now m r)).tasks) in
          due-joins _ r t d (wake-core r n (with_now m r) (core-now m r c)) found;
    }

-- Set of a task that holds nothing, with the base p
module _ {ord : Bool} (m : Model) (t p : ℕ) (c : Core ord m task_limit) (h : t < length m.tasks) (g : in_range p ≡ true)
    (z : depth (task_at m t) ≡ 0) where
  based-there : t < length (with_task m t (with_base (task_at m t) p)).tasks
  based-there = omega (arith, length-set m.tasks t (with_base (task_at m t) p))

  runs-at : (task_at m t).place ≡ Running → m.running ≡ Some t
  unfolding is_running
  runs-at e = runs-is m.running t (omega (arith, all_runs _ _ _ _ task_limit c.stand c.count t, ap is_running e))

  -- a ready one has left its queue
  unqueued-core : ready (task_at m t) ≡ 1 →
      Core ord (with_queue (with_task m t (with_base (task_at m t) p)) (active m t) (without t (queue m (active m t)))) t
  unqueued-core o =
      let b = in_bounds p g in
      let low = act-low m task_limit c t h in
      let high = act-high m task_limit c t h in
      let s = stand-unqueued _ _ _ _ task_limit c.stand t (active m t - 1) c.queues (omega arith) c.count (omega arith) o z in
      let out : Core ord (with_queue m (active m t) (without t (queue m (active m t)))) t =
      record {
        stand = s;
        count = c.count;
        queues = length-set m.ready (active m t - 1) _ ∙ c.queues;
        ceils = c.ceils;
        low = c.low;
        high = c.high;
      } in
      core-put _ t out (with_base (task_at m t) p) h z b.0 b.1

  requeue-needs : (x : Place) → (task_at m t).place ≡ x → Requeues (with_task m t (with_base (task_at m t) p)) t (active m t) x
  unfolding is_ready stopped
  requeue-needs x e =
      record {
        there = based-there;
        running = λ f. core-arrives _ t (stop-core m t (with_base (task_at m t) p) c (runs-at (e ∙ f)) z z g) based-there;
        ready = λ f. record { low = act-low m task_limit c t h; high = act-high m task_limit c t h };
        again = λ f. core-arrives _ t (unqueued-core (ap is_ready (e ∙ f))) based-there;
      }

pub rebase-needs : {ord : Bool} (m : Model) (t p : ℕ) → Core ord m task_limit → t < length m.tasks → in_range p ≡ true → Rebases m t p
rebase-needs m t p c h g =
    record { there = h; outside = λ z. requeue-needs m t p c h g (hold-none (task_at m t) z) (task_at m t).place refl }
