-- What is kept up to the dispatch of each accepted event: the standing of the tasks, and that each record is fair.
use mathlib.Core.Path.{◌≡◌, refl, ap, ◌∙◌, sym, subst}
use mathlib.Core.Bool.{Bool, true, false, not, ◌&&◌}
use mathlib.Core.List.{List, [], ◌∷◌, ◌++◌}
use Prim.Native.Nat.{ℕ, ◌+◌, ◌-◌, ◌≤◌, ◌<◌}
use native.Mathlib.Omega.{arith}
use borrow.Author.Tests.{eqb-false, leb-true, leb-false, ltb-true, ltb-false, lt-ltb, le-leb}
use lib.Dec.{eqb, leb, ltb}
use lib.ListN.{length, set, take, length-set, length-append}
use Rattle.std.specs.Prelude.{None, Option, Some, ℕ}
use Rattle.rules.specs.Limits.{task_limit, object_limit, last_reading, last_delay}
use Rattle.rules.specs.Priorities.{in_range}
use Rattle.rules.specs.Model.{Model, TaskRecord, blank, with_place, with_base, with_waiting, with_permit, with_held}
use Rattle.rules.specs.Model.{with_now, task_at, queue, with_task, with_queue, ceiling_of, active_of, active, with_ready, with_running}
use Rattle.rules.specs.Moves.{stopped, become_ready}
use Rattle.rules.specs.Events.{no_object, holds, inside, take_hold, give_up, settle_with, settle, put_off, rest, end, permit_on}
use Rattle.rules.specs.Events.{release_from, requeue, rebase, over_ceiling, take_reading}
use Rattle.rules.specs.Sound.{is_ready, is_running, runs, waiting_good, distinct, rising, due_good}
use Rattle.rules.specs.declared.Place.{Place}
use Rattle.rules.specs.declared.Place.TheVariants.{Running, Ready, Delayed, Suspended, Ended}
use Rattle.rules.specs.Lists.{all_of, times_in, without}
use Rattle.rules.proofs.Choices.{split, both_ways, and_right, and-make}
use Rattle.rules.proofs.PriorityLaws.{in_bounds}
use Rattle.rules.proofs.TaskLaws.{entry, ready, running, depth, base_of, runs-named, runs-is, at_same, at_other}
use Rattle.rules.proofs.Standing.{all_runs, stand-unqueued}
use Rattle.rules.proofs.Core.{Core, Top, runner-in, act-low, act-high, core-out, core-wake, core-put, core-away}
use Rattle.rules.proofs.Core.{core-ready, core-held, core-same}
use Rattle.rules.proofs.DispatchLaws.{upright, unplaced}
use Rattle.rules.proofs.HeldLaws.{all_push, all_take, all_none, distinct_push, distinct-take, distinct_none}
use Rattle.rules.proofs.HeldLaws.{rising-push, rising-take, rising_none}
use Rattle.rules.proofs.WakingLaws.{awake_at, awake, Awake, wakes, core-now, dues-most}

-- an object is listed
abbrev pub listed : List ℕ → ℕ → Bool
listed cs o = not (leb (length cs) o)

-- what a task's own record keeps to
pub record Fair (cs : List ℕ) (now : ℕ) (k : TaskRecord) : Type 0 where
  pub waiting : waiting_good k.waiting ≡ true
  pub listing : all_of (listed cs) k.held ≡ true
  pub once : distinct k.held ≡ true
  pub rises : rising cs k.base k.held ≡ true
  pub calm : depth k ≡ 0 → k.waiting ≡ None
  pub due : due_good now k.place ≡ true

-- counts, reading and ceilings in range
pub record Sizes (m : Model) : Type 0 where
  pub some : 1 ≤ length m.tasks
  pub objects : length m.ceilings ≤ object_limit
  pub reading : m.now ≤ last_reading
  pub ceilings : all_of in_range m.ceilings ≡ true

-- all records but that of the task t are fair
abbrev pub FairBut : Model → ℕ → Type 0
FairBut m t = (u : ℕ) → (u ≡ t → ⊥) → u < length m.tasks → Fair m.ceilings m.now (task_at m u)

-- before the dispatch of an accepted event
pub record Pending (ord : Bool) (m : Model) : Type 0 where
  pub core : Core ord m task_limit
  pub sizes : Sizes m
  pub fair : (u : ℕ) → u < length m.tasks → Fair m.ceilings m.now (task_at m u)

-- after it
pub record Good (ord : Bool) (m : Model) : Type 0 where
  pub pending : Pending ord m
  pub top : Top m

-- a place that is no longer away is fair; so is one after a dispatch
due-upright : (now : ℕ) (x : Place) → due_good now (upright x) ≡ due_good now x
unfolding due_good upright
due-upright now Running = refl
due-upright now Ready = refl
due-upright now (Delayed d) = refl
due-upright now Suspended = refl
due-upright now Ended = refl

pub fair-unplaced : (cs : List ℕ) (now : ℕ) (k : TaskRecord) → Fair cs now k → Fair cs now (unplaced k)
fair-unplaced cs now k f = record {
  waiting = f.waiting;
  listing = f.listing;
  once = f.once;
  rises = f.rises;
  calm = f.calm;
  due = due-upright now k.place ∙ f.due;
}

pub fair-placed : (cs : List ℕ) (now : ℕ) (k : TaskRecord) → Fair cs now (unplaced k) → Fair cs now k
fair-placed cs now k f = record {
  waiting = f.waiting;
  listing = f.listing;
  once = f.once;
  rises = f.rises;
  calm = f.calm;
  due = sym (due-upright now k.place) ∙ f.due;
}

fair-at : (cs : List ℕ) (now : ℕ) (k : TaskRecord) (x : Place) → Fair cs now k → due_good now x ≡ true → Fair cs now (with_place k x)
fair-at cs now k x f d = record { waiting = f.waiting; listing = f.listing; once = f.once; rises = f.rises; calm = f.calm; due = d }

fair-permit : (cs : List ℕ) (now : ℕ) (k : TaskRecord) (b : Bool) → Fair cs now k → Fair cs now (with_permit k b)
fair-permit cs now k b f =
    record { waiting = f.waiting; listing = f.listing; once = f.once; rises = f.rises; calm = f.calm; due = f.due }

-- a task that holds nothing, with any base and none waiting
pub fair-bare : (cs : List ℕ) (now : ℕ) (k : TaskRecord) → depth k ≡ 0 → k.waiting ≡ None → due_good now k.place ≡ true → Fair cs now k
unfolding waiting_good
fair-bare cs now k z w d = record {
  waiting = ap waiting_good w;
  listing = all_none k.held z (listed cs);
  once = distinct_none k.held z;
  rises = rising_none k.held z cs k.base;
  calm = λ i. w;
  due = d;
}

-- one record is replaced, with other queues and another runner
abbrev replaced : Model → ℕ → TaskRecord → List (List ℕ) → Option ℕ → Model
replaced m t k qs w = with_ready (with_running (with_task m t k) w) qs

module _ (m : Model) (t : ℕ) (k : TaskRecord) (qs : List (List ℕ)) (w : Option ℕ) where
  sizes-set : Sizes m → Sizes (replaced m t k qs w)
  sizes-set s = record {
    some = omega (arith, s.some, length-set m.tasks t k);
    objects = s.objects;
    reading = s.reading;
    ceilings = s.ceilings;
  }

  pending-set : {ord : Bool} → Core ord (replaced m t k qs w) task_limit → Sizes m → FairBut m t → t < length m.tasks →
      Fair m.ceilings m.now k → Pending ord (replaced m t k qs w)
  pending-set c s b l f = record { core = c; sizes = sizes-set s; fair = λ u h. every u (omega (arith, h, length-set m.tasks t k)) }
    where
      every : (u : ℕ) → u < length m.tasks → Fair m.ceilings m.now (entry (set m.tasks t k) u)
      every u h =
          split u t
          (λ e. subst (Fair m.ceilings m.now) (sym (at_same (λ (v : TaskRecord). v) blank m.tasks t k u e l)) f)
          (λ n. subst (Fair m.ceilings m.now) (sym (at_other (λ (v : TaskRecord). v) blank m.tasks t k u n)) (b u n h))

-- the task t, on its way, becomes ready
pending-ready : {ord : Bool} (m : Model) (t : ℕ) → Core ord m t → Sizes m → FairBut m t → t < length m.tasks →
    Fair m.ceilings m.now (with_place (task_at m t) Ready) → Pending ord (become_ready m t)
unfolding become_ready
pending-ready m t c s b l f = pending-set m t (with_place (task_at m t) Ready) _ m.running (core-ready m t c l) s b l f

-- .. with another record k of its own, that holds nothing
pending-rejoin : {ord : Bool} (m : Model) (t : ℕ) (k : TaskRecord) → Core ord m t → Sizes m → FairBut m t → t < length m.tasks →
    depth k ≡ 0 → k.waiting ≡ None → in_range k.base ≡ true → Pending ord (become_ready (with_task m t k) t)
unfolding due_good
pending-rejoin m t k c s b l z w r =
    let at : task_at (with_task m t k) t ≡ k = at_same (λ (v : TaskRecord). v) blank m.tasks t k t refl l in
    let g = in_bounds k.base r in
    pending-ready (with_task m t k) t (core-put m t c k l z g.0 g.1) (sizes-set m t k m.ready m.running s)
    (λ u n h. subst (Fair m.ceilings m.now) (sym (at_other (λ (v : TaskRecord). v) blank m.tasks t k u n))
    (b u n (omega (arith, h, length-set m.tasks t k))))
    (omega (arith, l, length-set m.tasks t k))
    (subst (λ (v : TaskRecord). Fair m.ceilings m.now (with_place v Ready)) (sym at)
    (fair-bare m.ceilings m.now (with_place k Ready) z w refl))

pub hold-none : (k : TaskRecord) → inside k ≡ false → depth k ≡ 0
hold-none k z = omega (arith, ltb-false 0 (depth k) z)

-- places that are neither ready nor running
suspended-off : (x : Place) → x ≡ Suspended → is_ready x + is_running x ≡ 0
unfolding is_ready is_running
suspended-off x e = ap (λ (v : Place). is_ready v + is_running v) e

-- the running task t of a good Model
module _ {ord : Bool} (m : Model) (t : ℕ) (h : Good ord m) (e : m.running ≡ Some t) where
  pub t-runs : 0 < runs m.running t
  t-runs = runs-named m.running t e

  pub t-in : t < length m.tasks
  t-in = runner-in m h.pending.core t t-runs

  pub t-fair : Fair m.ceilings m.now (task_at m t)
  t-fair = h.pending.fair t t-in

  pub others : FairBut m t
  others u n g = h.pending.fair u g

  -- gets another record with its place and base
  pub pending-held : (k : TaskRecord) → ready k ≡ ready (task_at m t) → running k ≡ running (task_at m t) →
      base_of k ≡ base_of (task_at m t) →
      Fair m.ceilings m.now k → Pending ord (with_task m t k)
  pending-held k a b c f =
      pending-set m t k m.ready m.running (core-held m h.pending.core t k t-runs a b c) h.pending.sizes others t-in f

  -- goes away, to the place x
  pub pending-away : (x : Place) → is_ready x + is_running x ≡ 0 → depth (task_at m t) ≡ 0 → due_good m.now x ≡ true →
      Pending ord (with_task (stopped m) t (with_place (task_at m t) x))
  unfolding stopped
  pending-away x z g d =
      let k = with_place (task_at m t) x in
      let c = core-put (stopped m) t (core-out m h.pending.core t t-runs g) k t-in g (h.pending.core.low t t-in)
      (h.pending.core.high t t-in) in
      let is-ready = at_same ready blank m.tasks t k t refl t-in in
      let is-running = at_same running blank m.tasks t k t refl t-in in
      pending-set m t k m.ready None (core-away _ t c (omega (arith, z, is-ready, is-running))) h.pending.sizes others t-in
      (fair-at m.ceilings m.now (task_at m t) x t-fair d)

  -- goes to the tail of its queue
  pub pending-tail : depth (task_at m t) ≡ 0 → Pending ord (become_ready (stopped m) t)
  unfolding stopped due_good
  pending-tail z =
      pending-ready (stopped m) t (core-out m h.pending.core t t-runs z)
      (record { some = s.some; objects = s.objects; reading = s.reading; ceilings = s.ceilings }) others t-in
      (fair-at m.ceilings m.now (task_at m t) Ready t-fair refl)
    where
      s : Sizes m
      s = h.pending.sizes

-- Enter
entered : (cs : List ℕ) (now o : ℕ) (k : TaskRecord) → Fair cs now k → leb (length cs) o ≡ false → times_in o k.held ≡ 0 →
    active_of cs k ≤ ceiling_of cs o → Fair cs now (with_held k (k.held ++ (o ∷ [])))
entered cs now o k f l z g = record {
  waiting = f.waiting;
  listing = all_push (listed cs) k.held o f.listing (ap not l);
  once = distinct_push k.held o f.once z;
  rises = rising-push cs k.base o k.held f.rises g;
  calm = λ i. absurd (omega (arith, i, length-append k.held (o ∷ [])));
  due = f.due;
}

pub pending-enter : {ord : Bool} (m : Model) (o t : ℕ) → Good ord m → m.running ≡ Some t → no_object m o ≡ false →
    holds (task_at m t) o ≡ false → over_ceiling m o t ≡ false → Pending ord (take_hold m o t)
pending-enter m o t h e l z y =
    pending-held m t h e (with_held (task_at m t) ((task_at m t).held ++ (o ∷ []))) refl refl refl
    (entered m.ceilings m.now o (task_at m t) (t-fair m t h e) l (omega (arith, ltb-false 0 (times_in o (task_at m t).held) z))
    (ltb-false (ceiling_of m.ceilings o) (active m t) y))

-- Leave
taken : (cs : List ℕ) (now n : ℕ) (k : TaskRecord) → Fair cs now k → (length (take n k.held) ≡ 0 → k.waiting ≡ None) →
    Fair cs now (with_held k (take n k.held))
taken cs now n k f c = record {
  waiting = f.waiting;
  listing = all_take (listed cs) n k.held f.listing;
  once = distinct-take n k.held f.once;
  rises = rising-take cs k.base n k.held f.rises;
  calm = c;
  due = f.due;
}

-- the task's record with the innermost object given up
abbrev left : Model → ℕ → TaskRecord
left m t = with_held (task_at m t) (take (length (task_at m t).held - 1) (task_at m t).held)

module _ {ord : Bool} (m : Model) (t : ℕ) (h : Good ord m) (e : m.running ≡ Some t) where
  left_at : task_at (give_up m t) t ≡ left m t
  left_at = at_same (λ (v : TaskRecord). v) blank m.tasks t (left m t) t refl (t-in m t h e)

  left-core : Core ord (give_up m t) task_limit
  left-core = core-held m h.pending.core t (left m t) (t-runs m t h e) refl refl refl

  -- no base is due: the task runs on
  left-on : (length (left m t).held ≡ 0 → (task_at m t).waiting ≡ None) → Pending ord (give_up m t)
  left-on c =
      pending-set m t (left m t) m.ready m.running left-core h.pending.sizes (others m t h e) (t-in m t h e)
      (taken m.ceilings m.now (length (task_at m t).held - 1) (task_at m t) (t-fair m t h e) c)

  left-others : FairBut (give_up m t) t
  left-others u n g =
      subst (Fair m.ceilings m.now) (sym (at_other (λ (v : TaskRecord). v) blank m.tasks t (left m t) u n))
      (others m t h e u n (omega (arith, g, length-set m.tasks t (left m t))))

  -- a base p is due: it takes effect, and the task goes to the tail
  left-rebased : (p : ℕ) → (task_at (give_up m t) t).waiting ≡ Some p → depth (task_at (give_up m t) t) ≡ 0 →
      Pending ord (settle_with (give_up m t) t (Some p))
  unfolding settle_with stopped waiting_good
  left-rebased p w z =
      let k = with_waiting (with_base (task_at (give_up m t) t) p) None in
      let own : (task_at m t).waiting ≡ Some p = sym (ap (λ (v : TaskRecord). v.waiting) left_at) ∙ w in
      let good : in_range p ≡ true = sym (ap waiting_good own) ∙ (t-fair m t h e).waiting in
      let s = sizes-set m t (left m t) m.ready None h.pending.sizes in
      pending-rejoin (stopped (give_up m t)) t k (core-out (give_up m t) left-core t (t-runs m t h e) z) s left-others
      (omega (arith, t-in m t h e, length-set m.tasks t (left m t))) z refl good

  left-runs : (length (left m t).held ≡ 0 → (task_at m t).waiting ≡ None) → Pending ord (settle_with (give_up m t) t None)
  unfolding settle_with
  left-runs c = left-on c

  pub pending-leave : Pending ord (settle (give_up m t) t)
  unfolding settle
  pending-leave =
      both_ways (Pending ord) (inside (task_at (give_up m t) t)) _ _
      (λ z. left-on (λ i. absurd (omega (arith, i, ltb-true 0 (depth (task_at (give_up m t) t)) z, ap depth left_at))))
      (λ z. by-waiting (task_at (give_up m t) t).waiting refl (hold-none (task_at (give_up m t) t) z))
    where
      by-waiting : (w : Option ℕ) → (task_at (give_up m t) t).waiting ≡ w → depth (task_at (give_up m t) t) ≡ 0 →
          Pending ord (settle_with (give_up m t) t w)
      by-waiting None w z = left-runs (λ i. sym (ap (λ (v : TaskRecord). v.waiting) left_at) ∙ w)
      by-waiting (Some p) w z = left-rebased p w z

-- Delay
pub pending-delay : {ord : Bool} (m : Model) (d t : ℕ) → d ≤ last_delay → Good ord m → m.running ≡ Some t → inside (task_at m t) ≡ false →
    Pending ord (put_off (stopped m) t d)
unfolding put_off stopped is_ready is_running due_good
pending-delay {ord} m d t l h e z =
    both_ways (Pending ord) (eqb d 0) _ _ (λ i. pending-tail m t h e (hold-none (task_at m t) z))
    (λ i. pending-away m t h e (Delayed (m.now + d)) refl (hold-none (task_at m t) z) (ahead (eqb-false d 0 i)))
  where
    ahead : (d ≡ 0 → ⊥) → (ltb m.now (m.now + d) && leb (m.now + d) (m.now + last_delay)) ≡ true
    ahead n = and-make _ _ (lt-ltb m.now (m.now + d) (omega (arith, n))) (le-leb (m.now + d) (m.now + last_delay) (omega arith))

-- Suspend
pub pending-rest : {ord : Bool} (m : Model) (t : ℕ) → Good ord m → m.running ≡ Some t → inside (task_at m t) ≡ false →
    Pending ord (rest m t)
unfolding rest is_ready is_running due_good
pending-rest {ord} m t h e z =
    both_ways (Pending ord) (task_at m t).permit _ _
    (λ i. pending-held m t h e (with_permit (task_at m t) false) refl refl refl (fair-permit _ _ (task_at m t) false (t-fair m t h e)))
    (λ i. pending-away m t h e Suspended refl (hold-none (task_at m t) z) refl)

-- Finish
pub pending-end : {ord : Bool} (m : Model) (t : ℕ) → Good ord m → m.running ≡ Some t → inside (task_at m t) ≡ false → Pending ord (end m t)
unfolding is_ready is_running due_good
pending-end m t h e z = pending-away m t h e Ended refl (hold-none (task_at m t) z) refl

-- Release
pub pending-release : {ord : Bool} (m : Model) (t : ℕ) → Pending ord m → t < length m.tasks →
    Pending ord (release_from m t (task_at m t).place)
unfolding release_from due_good
pending-release {ord} m t p l = go (task_at m t).place refl
  where
    on : Pending ord (permit_on m t)
    on =
        let k = with_permit (task_at m t) true in
        pending-set m t k m.ready m.running (core-same m p.core t k l refl refl refl refl refl) p.sizes
        (λ u n g. p.fair u g) l (fair-permit _ _ (task_at m t) true (p.fair t l))

    go : (x : Place) → (task_at m t).place ≡ x → Pending ord (release_from m t x)
    go Running e = on
    go Ready e = on
    go (Delayed d) e = on
    go Suspended e =
        pending-ready m t (core-wake m p.core t (suspended-off (task_at m t).place e)) p.sizes (λ u n g. p.fair u g) l
        (fair-at _ _ (task_at m t) Ready (p.fair t l) refl)
    go Ended e = on

-- Clock: a task that still waits is due after the reading
due-awake : (now r : ℕ) (x : Place) → now ≤ r → due_good now x ≡ true → due_good r (awake_at r x) ≡ true
unfolding due_good awake_at
due-awake now r Running l e = refl
due-awake now r Ready l e = refl
due-awake now r (Delayed d) l e =
    both_ways (λ (x : Place). due_good r x ≡ true) (leb d r) Ready (Delayed d) (λ i. refl)
    (λ i.
    let near = leb-true d (now + last_delay) (and_right (ltb now d) (leb d (now + last_delay)) e) in
    and-make _ _ (lt-ltb r d (leb-false d r i)) (le-leb d (r + last_delay) (omega (arith, near))))
due-awake now r Suspended l e = refl
due-awake now r Ended l e = refl

pub pending-clock : {ord : Bool} (m : Model) (r : ℕ) → Pending ord m → m.now ≤ r → r ≤ last_reading →
    Pending ord (take_reading m r)
pending-clock {ord} m r p l g = record {
  core = a.core;
  sizes = record {
    some = omega (arith, a.count, p.sizes.some);
    objects = omega (arith, ap length a.ceilings, p.sizes.objects);
    reading = omega (arith, a.now, g);
    ceilings = ap (all_of in_range) a.ceilings ∙ p.sizes.ceilings;
  };
  fair = every;
}
  where
    n : Model
    n = take_reading m r

    a : Awake ord r (with_now m r) n
    a = wakes r (length m.tasks) (with_now m r) (core-now m r p.core) (dues-most r m.tasks)

    every : (u : ℕ) → u < length n.tasks → Fair n.ceilings n.now (task_at n u)
    every u h =
        let f = p.fair u (omega (arith, h, a.count)) in
        let f₁ : Fair m.ceilings r (awake r (task_at m u)) = record {
          waiting = f.waiting;
          listing = f.listing;
          once = f.once;
          rises = f.rises;
          calm = f.calm;
          due = due-awake m.now r (task_at m u).place l f.due;
        } in
        let f₂ = subst (Fair m.ceilings r) (sym (a.each u)) f₁ in
        let f₃ = subst (λ (v : ℕ). Fair m.ceilings v (task_at n u)) (sym a.now) f₂ in
        subst (λ (cs : List ℕ). Fair cs n.now (task_at n u)) (sym a.ceilings) f₃

-- Set of a task outside any action: its record with the new base
abbrev based : Model → ℕ → ℕ → TaskRecord
based m t p = with_base (task_at m t) p

module _ {ord : Bool} (m : Model) (t p : ℕ) (h : Pending ord m) (l : t < length m.tasks) (z : depth (task_at m t) ≡ 0)
    (g : in_range p ≡ true) where
  rest-fair : FairBut m t
  rest-fair u n i = h.fair u i

  -- it is away: nobody moves
  away-based : ready (task_at m t) + running (task_at m t) ≡ 0 → Pending ord (with_task m t (based m t p))
  away-based o =
      let f = h.fair t l in
      let b = in_bounds p g in
      let c = core-put m t (core-wake m h.core t o) (based m t p) l z b.0 b.1 in
      let is-ready = at_same ready blank m.tasks t (based m t p) t refl l in
      let is-running = at_same running blank m.tasks t (based m t p) t refl l in
      pending-set m t (based m t p) m.ready m.running (core-away _ t c (omega (arith, o, is-ready, is-running)))
      h.sizes rest-fair l
      (fair-bare m.ceilings m.now (based m t p) z (f.calm z) f.due)

  -- it runs, or stands in the queue for its active priority: it goes to the tail
  running-based : m.running ≡ Some t → Pending ord (become_ready (stopped (with_task m t (based m t p))) t)
  unfolding stopped
  running-based e =
      let s = h.sizes in
      pending-rejoin (stopped m) t (based m t p) (core-out m h.core t (runs-named m.running t e) z)
      (record { some = s.some; objects = s.objects; reading = s.reading; ceilings = s.ceilings }) rest-fair l z ((h.fair t l).calm z) g

  ready-based : ready (task_at m t) ≡ 1 →
      Pending ord (become_ready (with_queue (with_task m t (based m t p)) (active m t) (without t (queue m (active m t)))) t)
  ready-based o =
      let c = h.core in
      let low = act-low m task_limit c t l in
      let high = act-high m task_limit c t l in
      let s = stand-unqueued _ _ _ _ task_limit c.stand t (active m t - 1) c.queues (omega arith) c.count (omega arith) o z in
      let c₁ : Core ord (with_queue m (active m t) (without t (queue m (active m t)))) t = record {
        stand = s;
        count = c.count;
        queues = length-set m.ready _ _ ∙ c.queues;
        ceils = c.ceils;
        low = c.low;
        high = c.high;
      } in
      let y = h.sizes in
      pending-rejoin (with_queue m (active m t) (without t (queue m (active m t)))) t (based m t p) c₁
      (record { some = y.some; objects = y.objects; reading = y.reading; ceilings = y.ceilings }) rest-fair l z ((h.fair t l).calm z) g

  pending-based : (x : Place) → (task_at m t).place ≡ x → Pending ord (requeue (with_task m t (based m t p)) t (active m t) x)
  unfolding requeue is_ready is_running
  pending-based Running e =
      running-based (runs-is m.running t (omega (arith, all_runs _ _ _ _ task_limit h.core.stand h.core.count t, ap is_running e)))
  pending-based Ready e = ready-based (ap is_ready e)
  pending-based (Delayed d) e = away-based (ap (λ (v : Place). is_ready v + is_running v) e)
  pending-based Suspended e = away-based (ap (λ (v : Place). is_ready v + is_running v) e)
  pending-based Ended e = away-based (ap (λ (v : Place). is_ready v + is_running v) e)

pub pending-rebase : {ord : Bool} (m : Model) (t p : ℕ) → Pending ord m → t < length m.tasks → in_range p ≡ true →
    Pending ord (rebase m t p)
unfolding rebase waiting_good
pending-rebase {ord} m t p h l g =
    both_ways (Pending ord) (inside (task_at m t)) _ _ (λ z. later (ltb-true 0 (depth (task_at m t)) z))
    (λ z. pending-based m t p h l (hold-none (task_at m t) z) g (task_at m t).place refl)
  where
    later : 0 < depth (task_at m t) → Pending ord (with_task m t (with_waiting (task_at m t) (Some p)))
    later z =
        let k = with_waiting (task_at m t) (Some p) in
        let f = h.fair t l in
        pending-set m t k m.ready m.running (core-same m h.core t k l refl refl refl refl refl) h.sizes (λ u n i. h.fair u i) l
        (record {
          waiting = g;
          listing = f.listing;
          once = f.once;
          rises = f.rises;
          calm = λ i. absurd (omega (arith, i, z));
          due = f.due;
        })
