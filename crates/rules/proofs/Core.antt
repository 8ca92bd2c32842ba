-- The moves keep a Model's standing, and a dispatch puts a task of the highest priority on the processor.
use mathlib.Core.Path.{◌≡◌, refl, ap, ◌∙◌, sym, subst}
use mathlib.Core.Bool.{Bool, true}
use mathlib.Core.List.{List, [], ◌∷◌}
use Prim.Native.Nat.{ℕ, ◌+◌, ◌-◌, ◌≤◌, ◌<◌}
use native.Mathlib.Omega.{arith}
use borrow.Author.Tests.{eqb-true, eqb-false, leb-true, leb-false}
use lib.Dec.{eqb, leb}
use lib.ListN.{length, get_or, set, drop, length-set}
use Rattle.std.specs.Prelude.{None, Option, Some, ℕ}
use Rattle.rules.specs.Limits.{task_limit, first_priority, last_priority}
use Rattle.rules.specs.Model.{Model, TaskRecord, ceiling_of, active_of, with_place, task_at, queue, with_task, active, with_ready}
use Rattle.rules.specs.Model.{with_running}
use Rattle.rules.specs.Moves.{highest, stopped, become_ready, preempt, start, dispatch_by, dispatch}
use Rattle.rules.specs.Sound.{queued, is_ready, is_running, runs}
use Rattle.rules.specs.declared.Place.TheVariants.{Running, Ready}
use Rattle.rules.specs.Lists.{times_in}
use Rattle.rules.proofs.Choices.{split, compare, both_ways}
use Rattle.rules.proofs.Counts.{times-same, times-behind, times-head, times_none, queued-at, Row, row-of}
use Rattle.rules.proofs.Levels.{highest-top, highest-above, highest-full, active-low, active-high}
use Rattle.rules.proofs.TaskLaws.{ready, running, depth, base_of, one_place, runs-self, runs-apart, runs-one}
use Rattle.rules.proofs.TaskLaws.{put_same, put_other, put_keeps, row_same, row_other, out_of}
use Rattle.rules.proofs.Standing.{Stand, all_runs, all-queueing, stand-out, stand-wake, stand-put, stand-away}
use Rattle.rules.proofs.Standing.{stand-ready, stand-preempt, stand-start, stand-held, stand-same}

-- the task x is on its way; at task_limit nobody is
pub record Core (ord : Bool) (m : Model) (x : ℕ) : Type 0 where
  pub stand : Stand ord m.ceilings m.tasks m.ready m.running x
  pub count : length m.tasks ≤ task_limit
  pub queues : length m.ready ≡ last_priority
  pub ceils : (o : ℕ) → ceiling_of m.ceilings o ≤ last_priority
  pub low : (u : ℕ) → u < length m.tasks → first_priority ≤ base_of (task_at m u)
  pub high : (u : ℕ) → u < length m.tasks → base_of (task_at m u) ≤ last_priority

module _ {ord : Bool} (m : Model) (x : ℕ) (c : Core ord m x) where
  pub act-low : (u : ℕ) → u < length m.tasks → first_priority ≤ active m u
  act-low u h = active-low m.ceilings (task_at m u).base (task_at m u).held first_priority (c.low u h)

  pub act-high : (u : ℕ) → u < length m.tasks → active m u ≤ last_priority
  act-high u h = active-high m.ceilings (task_at m u).base (task_at m u).held last_priority c.ceils (c.high u h)

  -- only the standing has to be shown anew where bases stay
  pub again : (w : Option ℕ) (qs : List (List ℕ)) (t : ℕ) (k : TaskRecord) (y : ℕ) → length qs ≡ last_priority →
      first_priority ≤ base_of k → base_of k ≤ last_priority → Stand ord m.ceilings (set m.tasks t k) qs w y →
      Core ord (with_ready (with_running (with_task m t k) w) qs) y
  again w qs t k y e l h s = record {
    stand = s;
    count = omega (arith, c.count, length-set m.tasks t k);
    queues = e;
    ceils = c.ceils;
    low = λ u g. split u t (λ i. omega (arith, put_same base_of m.tasks t k u i (omega (arith, g, i, length-set m.tasks t k))))
        (λ n. omega (arith, put_other base_of m.tasks t k u n, c.low u (omega (arith, g, length-set m.tasks t k))));
    high = λ u g. split u t
        (λ i. omega (arith, put_same base_of m.tasks t k u i (omega (arith, g, i, length-set m.tasks t k))))
        (λ n. omega (arith, put_other base_of m.tasks t k u n, c.high u (omega (arith, g, length-set m.tasks t k))));
  }

  pub core-put : (k : TaskRecord) → x < length m.tasks → depth k ≡ 0 → first_priority ≤ base_of k → base_of k ≤ last_priority →
      Core ord (with_task m x k) x
  core-put k h z l g = again m.running m.ready x k x c.queues l g (stand-put _ _ _ _ x c.stand k h z)

  pub core-away : ready (task_at m x) + running (task_at m x) ≡ 0 → Core ord m task_limit
  core-away r = record {
    stand = stand-away _ _ _ _ x c.stand task_limit c.count r;
    count = c.count;
    queues = c.queues;
    ceils = c.ceils;
    low = c.low;
    high = c.high;
  }

  pub core-ready : x < length m.tasks → Core ord (become_ready m x) task_limit
  unfolding become_ready
  core-ready h =
      again m.running _ x (with_place (task_at m x) Ready) task_limit (length-set m.ready _ _ ∙ c.queues) (c.low x h)
      (c.high x h)
      (stand-ready _ _ _ _ x c.stand (active m x - 1) task_limit c.queues h c.count (omega (arith, act-low x h))
      (omega (arith, act-high x h)))

module _ {ord : Bool} (m : Model) (c : Core ord m task_limit) where
  pub runner-in : (t : ℕ) → 0 < runs m.running t → t < length m.tasks
  unfolding is_running
  runner-in t r =
      compare (length m.tasks) t
      (λ g. absurd (omega (arith, r, all_runs _ _ _ _ task_limit c.stand c.count t, out_of running m.tasks t g))) (λ g. g)

  pub core-out : (t : ℕ) → 0 < runs m.running t → depth (task_at m t) ≡ 0 → Core ord (stopped m) t
  unfolding stopped
  core-out t r z = record {
    stand = stand-out _ _ _ _ task_limit c.stand t c.count r z;
    count = c.count;
    queues = c.queues;
    ceils = c.ceils;
    low = c.low;
    high = c.high;
  }

  pub core-wake : (t : ℕ) → ready (task_at m t) + running (task_at m t) ≡ 0 → Core ord m t
  core-wake t z = record {
    stand = stand-wake _ _ _ _ task_limit c.stand t c.count z;
    count = c.count;
    queues = c.queues;
    ceils = c.ceils;
    low = c.low;
    high = c.high;
  }

  pub core-held : (t : ℕ) (k : TaskRecord) → 0 < runs m.running t → ready k ≡ ready (task_at m t) →
      running k ≡ running (task_at m t) → base_of k ≡ base_of (task_at m t) → Core ord (with_task m t k) task_limit
  core-held t k r a b e =
      again m task_limit c m.running m.ready t k task_limit c.queues (omega (arith, c.low t (runner-in t r)))
      (omega (arith, c.high t (runner-in t r)))
      (stand-held _ _ _ _ task_limit c.stand t k c.count (runner-in t r) r a b e)

  pub core-same : (t : ℕ) (k : TaskRecord) → t < length m.tasks → ready k ≡ ready (task_at m t) →
      running k ≡ running (task_at m t) → base_of k ≡ base_of (task_at m t) → depth k ≡ depth (task_at m t) →
      active_of m.ceilings k ≡ active m t → Core ord (with_task m t k) task_limit
  core-same t k h a b e f g =
      again m task_limit c m.running m.ready t k task_limit c.queues (omega (arith, c.low t h)) (omega (arith, c.high t h))
      (stand-same _ _ _ _ task_limit c.stand t k c.count a b e f g)

  pub core-preempt : (t : ℕ) → 0 < runs m.running t → Core ord (preempt m t) task_limit
  unfolding preempt stopped
  core-preempt t r = let h = runner-in t r in
      again m task_limit c None _ t (with_place (task_at m t) Ready) task_limit (length-set m.ready _ _ ∙ c.queues) (c.low t h)
      (c.high t h)
      (stand-preempt _ _ _ _ task_limit c.stand t (active m t - 1) c.queues h c.count r
      (omega (arith, act-low m task_limit c t h)) (omega (arith, act-high m task_limit c t h)))

-- the queue for p is the highest that holds a task
pub record Highest (m : Model) (p : ℕ) : Type 0 where
  pub one : 1 ≤ p
  pub top : p ≤ last_priority
  pub full : 0 < length (queue m p)
  pub empty : (q u : ℕ) → p - 1 < q → q < last_priority → times_in u (get_or m.ready q []) ≡ 0

-- whoever is ready is not above the runner, and somebody runs
pub record Top (m : Model) : Type 0 where
  pub busy : (u : ℕ) → 0 < queued m.ready u → m.running ≡ None → ⊥
  pub most : (t u : ℕ) → 0 < runs m.running t → 0 < queued m.ready u → active m u ≤ active m t

pub highest-is : (m : Model) → (highest m ≡ 0 → ⊥) → Highest m (highest m)
unfolding highest
highest-is m n = record {
  one = omega (arith, n);
  top = highest-top m.ready last_priority;
  full = highest-full m.ready last_priority (omega (arith, n));
  empty = λ q u g h. times_none u _ (highest-above m.ready last_priority q (omega arith) h);
}

module _ {ord : Bool} (m : Model) (p : ℕ) (c : Core ord m task_limit) (h : Highest m p)
    (none : (u : ℕ) → runs m.running u ≡ 0) where
  head : ℕ
  head = get_or (queue m p) 0 0

  head-has : 0 < times_in head (queue m p)
  unfolding head
  head-has =
      omega (
        arith,
        times-head (get_or (queue m p) 0 0) (queue m p) h.full,
        times-same (get_or (queue m p) 0 0)
            (get_or (queue m p) 0 0) refl,
      )

  pub head-ready : ready (task_at m (get_or (queue m p) 0 0)) ≡ 1
  unfolding head
  head-ready =
      omega (
        arith,
        head-has,
        queued-at m.ready (p - 1) (get_or (queue m p) 0 0),
        all-queueing _ _ _ _ task_limit c.stand
            c.count (get_or (queue m p) 0 0),
        one_place (task_at m (get_or (queue m p) 0 0)).place,
      )

  pub head_in : get_or (queue m p) 0 0 < length m.tasks
  unfolding is_ready
  head_in =
      compare (length m.tasks) (get_or (queue m p) 0 0)
      (λ g. absurd (omega (arith, head-ready, out_of ready m.tasks (get_or (queue m p) 0 0) g))) (λ g. g)

  pub core-start : Core ord (start m p) task_limit
  unfolding start
  core-start =
      again m task_limit c (Some (get_or (queue m p) 0 0)) _ (get_or (queue m p) 0 0)
      (with_place (task_at m (get_or (queue m p) 0 0)) Running) task_limit (length-set m.ready _ _ ∙ c.queues)
      (c.low (get_or (queue m p) 0 0) head_in) (c.high (get_or (queue m p) 0 0) head_in)
      (stand-start _ _ _ _ task_limit c.stand (p - 1) c.queues (omega (arith, h.one, h.top)) c.count none h.full
      h.empty)

  pub top_start : Top (start m p)
  unfolding start head
  top_start = record {
    busy = λ u g e. let z : ◌≡◌ {A = ℕ} 0 1 = cc in omega arith;
    most = λ t u r g. split t y
        (λ e. omega (
          arith,
          put_keeps (active_of m.ceilings) m.tasks y k refl t,
          ap (active m) e,
          c.stand.level
              (p - 1) y head-has,
          put_keeps (active_of m.ceilings) m.tasks y k refl u,
          lower u g,
          h.one,
        ))
        (λ n. absurd (omega (arith, r, runs-apart y t n)));
  }
    where
      y : ℕ
      y = get_or (queue m p) 0 0

      k : TaskRecord
      k = with_place (task_at m y) Running

      qs : List (List ℕ)
      qs = set m.ready (p - 1) (drop 1 (queue m p))

      lower : (u : ℕ) → 0 < queued qs u → active m u ≤ p
      lower u g =
          let v : Row qs u = row-of qs u g in
          compare v.at (p - 1)
          (λ i. omega (
            arith,
            h.one,
            c.stand.level v.at u (split v.at (p - 1)
                (λ e. omega (
                  arith,
                  v.has,
                  ap (times_in u)
                      (row_same m.ready (p - 1) (drop 1 (queue m p)) v.at e (omega (arith, c.queues, h.one, h.top))),
                  times-behind u (queue m p),
                  ap (λ (z : ℕ). times_in u (get_or m.ready z [])) e,
                ))
                (λ n. omega (arith, v.has, ap (times_in u) (row_other m.ready (p - 1) (drop 1 (queue m p)) v.at n)))),
          ))
          (λ i. absurd
          (omega (
            arith,
            v.has,
            ap (times_in u) (row_other m.ready (p - 1) (drop 1 (queue m p)) v.at (λ e. omega arith)),
            h.empty v.at u i (omega (arith, v.low, length-set m.ready (p - 1) (drop 1 (queue m p)), c.queues)),
          )))

-- after a preemption by a higher queue, that queue is the highest
pub highest-preempt : {ord : Bool} (m : Model) (t p : ℕ) → Core ord m task_limit → Highest m p → active m t < p → 1 ≤ active m t →
    Highest (preempt m t) p
unfolding preempt stopped
highest-preempt m t p c h g i = record {
  one = h.one;
  top = h.top;
  full = subst (λ (v : List ℕ). 0 < length v)
      (sym (row_other m.ready (active m t - 1) (t ∷ queue m (active m t)) (p - 1) (λ e. omega (arith, h.one)))) h.full;
  empty = λ q u k j. ap (times_in u) (row_other m.ready (active m t - 1) (t ∷ queue m (active m t)) q (λ e. omega arith)) ∙
      h.empty q u k j;
}

nobody-runs : (u : ℕ) → runs None u ≡ 0
unfolding runs
nobody-runs u = refl

preempt-none : (m : Model) (t u : ℕ) → runs (preempt m t).running u ≡ 0
unfolding preempt stopped runs
preempt-none m t u = refl

-- what a dispatch leaves
pub record Settled (ord : Bool) (m : Model) : Type 0 where
  pub core : Core ord m task_limit
  pub top : Top m

dispatched-for : {ord : Bool} (m : Model) → Core ord m task_limit → (w : Option ℕ) → m.running ≡ w → Settled ord (dispatch_by m w)
unfolding dispatch_by highest
dispatched-for {ord} m c None e =
    both_ways (Settled ord) (eqb (highest m) 0) m _
    (λ z. record {
      core = c;
      top = record {
        busy = λ u g f. omega (arith, g, idle z u);
        most = λ t u r g. absurd (omega (arith, g, idle z u));
      };
    })
    (λ z. record {
      core = core-start m (highest m) c (highest-is m (eqb-false _ 0 z)) none;
      top = top_start m (highest m) c (highest-is m (eqb-false _ 0 z)) none;
    })
  where
    none : (u : ℕ) → runs m.running u ≡ 0
    none u = ap (λ (v : Option ℕ). runs v u) e ∙ nobody-runs u

    idle : eqb (highest m) 0 ≡ true → (u : ℕ) → queued m.ready u ≡ 0
    idle z u = compare 1 (queued m.ready u)
        (λ g. let v : Row m.ready u = row-of m.ready u g in
        absurd (omega (
          arith,
          v.has,
          times_none u (get_or m.ready v.at [])
              (highest-above m.ready last_priority v.at (omega (arith, eqb-true (highest m) 0 z))
              (omega (arith, v.low, c.queues))),
        )))
        (λ g. omega arith)
dispatched-for {ord} m c (Some t) e =
    both_ways (Settled ord) (leb (highest m) (active m t)) m _
    (λ z. record {
      core = c;
      top = record {
        busy = λ u g f. let i : ◌≡◌ {A = ℕ} 0 1 = cc in omega arith;
        most = λ a u r g. omega (arith, own a r, under z u g);
      };
    })
    (λ z. let h = highest-preempt m t (highest m) c (highest-is m (λ i. omega (arith, i, leb-false (highest m) (active m t) z)))
    (leb-false _ _ z) (act-low m task_limit c t (runner-in m c t runs-t)) in
    record {
      core = core-start (preempt m t) (highest m) (core-preempt m c t runs-t) h (preempt-none m t);
      top = top_start (preempt m t) (highest m) (core-preempt m c t runs-t) h (preempt-none m t);
    })
  where
    runs-t : 0 < runs m.running t
    runs-t = omega (arith, ap (λ (v : Option ℕ). runs v t) e, runs-self t)

    own : (a : ℕ) → 0 < runs m.running a → active m a ≡ active m t
    own a r = split a t (λ i. ap (active m) i) (λ n. absurd (omega (arith, r, runs-one m.running t a runs-t n)))

    under : leb (highest m) (active m t) ≡ true → (u : ℕ) → 0 < queued m.ready u → active m u ≤ active m t
    under z u g =
        let v : Row m.ready u = row-of m.ready u g in
        compare (highest m) v.at
        (λ i. absurd
        (omega (
          arith,
          v.has,
          times_none u (get_or m.ready v.at [])
              (highest-above m.ready last_priority v.at i (omega (arith, v.low, c.queues))),
        )))
        (λ i. omega (arith, c.stand.level v.at u v.has, leb-true (highest m) (active m t) z))

pub dispatched : {ord : Bool} (m : Model) → Core ord m task_limit → Settled ord (dispatch m)
unfolding dispatch
dispatched m c = dispatched-for m c m.running refl
