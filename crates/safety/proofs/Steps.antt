-- What each step of a script, each release and each reading makes of the Model and of what is reckoned.
use mathlib.Core.Path.{◌≡◌, refl, ap, ◌∙◌, sym, subst}
use mathlib.Core.Bool.{Bool, true, false, cond}
use mathlib.Core.List.{List, [], ◌∷◌, ◌++◌, map}
use Prim.Native.Nat.{ℕ, ◌+◌, ◌-◌, ◌≤◌, ◌<◌}
use native.Mathlib.Omega.{arith}
use borrow.Author.Tests.{eq-eqb, ne_eqb, lt-leb, le-ltb, ltb-true}
use lib.Dec.{eqb, leb}
use lib.ListN.{length, get_or, take, length-set, length-map, get_or-map}
use Rattle.std.specs.Prelude.{None, Option, Some, ℕ, Ok}
use Rattle.rules.specs.Limits.{last_delay}
use Rattle.rules.specs.Priorities.{in_range}
use Rattle.rules.specs.Model.{Model, TaskRecord, blank, with_place, with_base, with_waiting, with_held, with_now}
use Rattle.rules.specs.Model.{task_at, with_task, ceiling_of, active_of, active}
use Rattle.rules.specs.Moves.{become_ready, stopped, dispatch}
use Rattle.rules.specs.Moved.{Moved, accepted}
use Rattle.rules.specs.Events.{inside, innermost, take_hold, give_up, settle, put_off, rest, end}
use Rattle.rules.specs.Events.{permit_on, release_from, requeue, rebase, is_ended, enter, leave, delay, suspend, release, clock}
use Rattle.rules.specs.Events.{set_base}
use Rattle.rules.specs.Events.{work, finish, bad_reading, take_reading}
use Rattle.rules.specs.declared.Place.{Place}
use Rattle.rules.specs.declared.Place.TheVariants.{Running, Ready, Delayed, Suspended, Ended}
use Rattle.rules.specs.Lists.{times_in, without}
use Rattle.rules.proofs.Choices.{cond-true, cond-false}
use Rattle.rules.proofs.TaskLaws.{at_same}
use Rattle.rules.proofs.DispatchLaws.{runner-place, running-place, alike-dispatch}
use Rattle.rules.proofs.WakingLaws.{awake_at, Awake, wakes, core-now, dues-most}
use Rattle.rules.proofs.Pending.{Pending, Good, hold-none, t-in, pending-enter, pending-leave, pending-delay, pending-rest, pending-end}
use Rattle.rules.proofs.Pending.{pending-release, pending-clock, pending-rebase}
use Rattle.rules.proofs.Kept.{good-dispatch}
use Rattle.rules.proofs.EventLaws.{enter-0, leave-0, settle-inside, settle-none, settle-due, delay-0, put-tail, put-until, suspend-0}
use Rattle.rules.proofs.EventLaws.{rest-permit, rest-none, finish-0, work-0, release-0, clock-0, set-0, rebase-inside, rebase-outside}
use Rattle.rules.proofs.Readings.{reading-early, reading-low}
use Rattle.safety.specs.Reckon.{Away, here, until, resting, gone, Status, Reckoning, unknown, status_at, with_status, inside_of}
use Rattle.safety.specs.Reckon.{based_on}
use Rattle.safety.specs.Reckon.{permitted, goes, away_after, read_at, released, released_in, becomes_base, at_leave, after_set}
use Rattle.safety.proofs.Agree.{away_of, status_of, Agree, agree-alike, agree-task, agree_same, agree-kept, status-twice}

-- an accepted event: the Model after it is good and agrees with the reckoning b
pub record Fine (ps : List ℕ) (b : Reckoning) (v : Moved) : Type 0 where
  pub done : v.answer ≡ Ok tt
  pub good : Good true v.model
  pub agree : Agree b v.model.now v.model.tasks ps

-- from the Model before its dispatch
pub fine : (w : Option ℕ) (ps : List ℕ) (b : Reckoning) (v : Moved) (n : Model) → v ≡ accepted w n → Pending true n →
    Agree b n.now n.tasks ps → Fine ps b v
unfolding accepted
fine w ps b v n e p a =
    subst (Fine ps b) (sym e)
    (record { done = refl; good = good-dispatch n p; agree = agree-alike b n (dispatch n) ps (alike-dispatch n p.core) a })

-- the two choices of a status
chosen : (now : ℕ) (ts : List TaskRecord) (ps : List ℕ) (b : Reckoning) (t : ℕ) (c : Bool) (x y : Status) → c ≡ true →
    Agree (with_status b t x) now ts ps → Agree (with_status b t (cond c x y)) now ts ps
chosen now ts ps b t c x y e a = subst (λ (v : Status). Agree (with_status b t v) now ts ps) (sym (cond-true c x y e)) a

passed-by : (now : ℕ) (ts : List TaskRecord) (ps : List ℕ) (b : Reckoning) (t : ℕ) (c : Bool) (x y : Status) → c ≡ false →
    Agree (with_status b t y) now ts ps → Agree (with_status b t (cond c x y)) now ts ps
passed-by now ts ps b t c x y e a = subst (λ (v : Status). Agree (with_status b t v) now ts ps) (sym (cond-false c x y e)) a

-- of another Model that is equal
at-model : (ps : List ℕ) (b : Reckoning) (m n : Model) → m ≡ n → Agree b n.now n.tasks ps → Agree b m.now m.tasks ps
at-model ps b m n e a = subst (λ (v : Model). Agree b v.now v.tasks ps) (sym e) a

-- a task that is here becomes ready, and stands for the same status
joins : (ps : List ℕ) (b : Reckoning) (m : Model) (t : ℕ) → Agree b m.now m.tasks ps → away_of (task_at m t).place ≡ here →
    Agree b (become_ready m t).now (become_ready m t).tasks ps
unfolding become_ready away_of
joins ps b m t a e =
    agree-kept b m.now m.tasks ps a t (with_place (task_at m t) Ready) (ap (goes (status_of (task_at m t) (get_or ps t 0))) (sym e))

-- a running one goes to the tail of its queue
rejoins : (ps : List ℕ) (b : Reckoning) (m : Model) (t p : ℕ) → Agree b m.now m.tasks ps → (task_at m t).place ≡ Running →
    Agree b (requeue m t p Running).now (requeue m t p Running).tasks ps
unfolding requeue stopped away_of
rejoins ps b m t p a e = joins ps b (stopped m) t a (ap away_of e)

-- a waiting base p takes effect for the running task t, whose status is y, and it goes to the tail
takes-effect : (ps : List ℕ) (b : Reckoning) (n : Model) (t : ℕ) (y : Status) (p : ℕ) →
    Agree (with_status b t y) n.now n.tasks ps →
    t < length n.tasks → t < length b.tasks → (task_at n t).place ≡ Running →
    Agree (with_status b t (based_on y p None))
    (become_ready (stopped (with_task n t (with_waiting (with_base (task_at n t) p) None))) t).now
    (become_ready (stopped (with_task n t (with_waiting (with_base (task_at n t) p) None))) t).tasks ps
unfolding stopped away_of
takes-effect ps b n t y p a l g e =
    let b₁ : Reckoning = with_status b t y in
    let k = with_waiting (with_base (task_at n t) p) None in
    let x = based_on (status_at b₁ t) p None in
    let own : status_at b₁ t ≡ y = at_same (λ (v : Status). v) unknown b.tasks t y t refl g in
    let set_to = agree-task b₁ n.now n.tasks ps a t k x l (ap (λ (v : Status). based_on v p None) (a.each t)) in
    let place = at_same (λ (v : TaskRecord). away_of v.place) blank n.tasks t k t refl l ∙ ap away_of e in
    let same : with_status b₁ t x ≡ with_status b t (based_on y p None) =
    ap (λ (v : Status). with_status b₁ t (based_on v p None)) own ∙ status-twice b t y (based_on y p None) in
    subst (λ (v : Reckoning). Agree v (become_ready (stopped (with_task n t k)) t).now
    (become_ready (stopped (with_task n t k)) t).tasks ps) same
    (joins ps (with_status b₁ t x) (stopped (with_task n t k)) t set_to place)

-- the running task t of a good Model m that agrees with b
module _ (ps : List ℕ) (b : Reckoning) (m : Model) (h : Good true m) (a : Agree b m.now m.tasks ps) (t : ℕ)
    (e : m.running ≡ Some t) where
  low : t < length m.tasks
  low = t-in m t h e

  own : Status
  own = status_at b t

  is : status_at b t ≡ status_of (task_at m t) (get_or ps t 0)
  is = a.each t

  place_is : (task_at m t).place ≡ Running
  place_is = running-place (task_at m t).place (runner-place m t h.pending.core e)

  pub away-is : (status_at b t).away ≡ here
  unfolding away_of
  away-is = ap (λ (v : Status). v.away) is ∙ ap away_of place_is

  -- the record made ready stands for the same status
  made-ready : status_of (with_place (task_at m t) Ready) (get_or ps t 0) ≡ status_of (task_at m t) (get_or ps t 0)
  unfolding away_of
  made-ready = ap (goes (status_of (task_at m t) (get_or ps t 0))) (sym (ap away_of place_is))

  held-is : (status_at b t).inside ≡ (task_at m t).held
  held-is = ap (λ (v : Status). v.inside) is

  outside : length (status_at b t).inside ≡ 0 → inside (task_at m t) ≡ false
  outside z = le-ltb 0 (length (task_at m t).held) (omega (arith, z, ap length held-is))

  -- Work
  pub fine-work : Fine ps b (work m)
  fine-work = fine m.running ps b (work m) m (work-0 m t e) h.pending a

  -- Enter
  pub fine-enter : (o : ℕ) → o < length m.ceilings → times_in o (status_at b t).inside ≡ 0 →
      active_of m.ceilings (task_at m t) ≤ ceiling_of m.ceilings o →
      Fine ps (with_status b t (inside_of (status_at b t) ((status_at b t).inside ++ (o ∷ [])))) (enter m o)
  fine-enter o l z g =
      let known = lt-leb (length m.ceilings) o l in
      let free = le-ltb 0 (times_in o (task_at m t).held) (omega (arith, z, ap (times_in o) held-is)) in
      let high = le-ltb (ceiling_of m.ceilings o) (active m t) g in
      fine m.running ps _ (enter m o) (take_hold m o t) (enter-0 m o t known e free high) (pending-enter m o t h e known free high)
      (agree-task b m.now m.tasks ps a t _ _ low (ap (λ (v : Status). inside_of v (v.inside ++ (o ∷ []))) is))

  -- Delay
  pub fine-delay : (d : ℕ) → d ≤ last_delay → length (status_at b t).inside ≡ 0 →
      Fine ps (with_status b t (cond (eqb d 0) (status_at b t) (goes (status_at b t) (until (b.now + d))))) (delay m d)
  unfolding become_ready stopped away_of
  fine-delay d l z =
      fine m.running ps _ (delay m d) (put_off (stopped m) t d) (delay-0 m d t e (outside z)) (pending-delay m d t l h e (outside z))
      (put (eqb d 0) refl)
    where
      later : goes (status_at b t) (until (b.now + d)) ≡ status_of (with_place (task_at m t) (Delayed (m.now + d))) (get_or ps t 0)
      later =
          ap (λ (v : Status). goes v (until (b.now + d))) is ∙
          ap (λ (n : ℕ). goes (status_of (task_at m t) (get_or ps t 0)) (until (n + d))) a.reading

      put : (c : Bool) → eqb d 0 ≡ c →
          Agree (with_status b t (cond (eqb d 0) (status_at b t) (goes (status_at b t) (until (b.now + d)))))
          (put_off (stopped m) t d).now (put_off (stopped m) t d).tasks ps
      put true f =
          at-model ps _ (put_off (stopped m) t d) (become_ready (stopped m) t) (put-tail (stopped m) t d f)
          (chosen _ _ ps b t (eqb d 0) _ _ f
          (agree_same b _ _ ps (agree-kept b m.now m.tasks ps a t (with_place (task_at m t) Ready) made-ready) t
          (status_at b t) refl))
      put false f =
          at-model ps _ (put_off (stopped m) t d) _ (put-until (stopped m) t d f)
          (passed-by _ _ ps b t (eqb d 0) _ _ f (agree-task b m.now m.tasks ps a t _ _ low later))

  -- Suspend
  pub fine-suspend : length (status_at b t).inside ≡ 0 →
      Fine ps (with_status b t (cond (status_at b t).permit (permitted (status_at b t) false) (goes (status_at b t) resting)))
      (suspend m)
  unfolding stopped away_of
  fine-suspend z =
      fine m.running ps _ (suspend m) (rest m t) (suspend-0 m t e (outside z)) (pending-rest m t h e (outside z))
      (rests (task_at m t).permit refl)
    where
      permit-is : (status_at b t).permit ≡ (task_at m t).permit
      permit-is = ap (λ (v : Status). v.permit) is

      rests : (c : Bool) → (task_at m t).permit ≡ c →
          Agree (with_status b t (cond (status_at b t).permit (permitted (status_at b t) false) (goes (status_at b t) resting)))
          (rest m t).now (rest m t).tasks ps
      rests true f =
          at-model ps _ (rest m t) _ (rest-permit m t f)
          (chosen _ _ ps b t (status_at b t).permit _ _ (permit-is ∙ f)
          (agree-task b m.now m.tasks ps a t _ _ low (ap (λ (v : Status). permitted v false) is)))
      rests false f =
          at-model ps _ (rest m t) _ (rest-none m t f)
          (passed-by _ _ ps b t (status_at b t).permit _ _ (permit-is ∙ f)
          (agree-task b m.now m.tasks ps a t _ _ low (ap (λ (v : Status). goes v resting) is)))

  -- Finish
  pub fine-finish : length (status_at b t).inside ≡ 0 → Fine ps (with_status b t (goes (status_at b t) gone)) (finish m)
  unfolding stopped away_of
  fine-finish z =
      fine m.running ps _ (finish m) (end m t) (finish-0 m t e (outside z)) (pending-end m t h e (outside z))
      (agree-task b m.now m.tasks ps a t _ _ low (ap (λ (v : Status). goes v gone) is))

  -- Set of the running task itself
  pub fine-set : (p : ℕ) → in_range p ≡ true → Fine ps (with_status b t (after_set (status_at b t) p)) (set_base m t p)
  unfolding is_ended
  fine-set p g =
      fine m.running ps _ (set_base m t p) (rebase m t p) (set-0 m t p (lt-leb (length m.tasks) t low) g (ap is_ended place_is))
      (pending-rebase m t p h.pending low g) (sets (inside (task_at m t)) refl)
    where
      x : Status
      x = status_at b t

      depth_is : length x.inside ≡ length (task_at m t).held
      depth_is = ap length held-is

      calm : length (task_at m t).held ≡ 0 → (task_at m t).waiting ≡ None
      calm = (h.pending.fair t low).calm

      moved : status_of (with_base (task_at m t) p) (get_or ps t 0) ≡ based_on x p (task_at m t).waiting
      moved = ap (λ (v : Status). based_on v p (task_at m t).waiting) (sym is)

      requeued : length (task_at m t).held ≡ 0 →
          Agree (with_status b t (based_on x p None)) (requeue (with_task m t (with_base (task_at m t) p)) t (active m t) Running).now
          (requeue (with_task m t (with_base (task_at m t) p)) t (active m t) Running).tasks ps
      requeued z =
          rejoins ps (with_status b t (based_on x p None)) (with_task m t (with_base (task_at m t) p)) t (active m t)
          (agree-task b m.now m.tasks ps a t (with_base (task_at m t) p) (based_on x p None) low
          (ap (based_on x p) (sym (calm z)) ∙ sym moved))
          (at_same (λ (v : TaskRecord). v.place) blank m.tasks t (with_base (task_at m t) p) t refl low ∙ place_is)

      sets : (c : Bool) → inside (task_at m t) ≡ c → Agree (with_status b t (after_set x p)) (rebase m t p).now (rebase m t p).tasks ps
      sets true f =
          at-model ps _ (rebase m t p) _ (rebase-inside m t p f)
          (passed-by _ _ ps b t (eqb (length x.inside) 0) _ _
          (ne_eqb (length x.inside) 0 (λ i. omega (arith, i, depth_is, ltb-true 0 (length (task_at m t).held) f)))
          (agree-task b m.now m.tasks ps a t _ _ low (ap (λ (v : Status). based_on v v.base (Some p)) is)))
      sets false f =
          let z : length (task_at m t).held ≡ 0 = hold-none (task_at m t) f in
          chosen _ _ ps b t (eqb (length x.inside) 0) _ _ (eq-eqb (length x.inside) 0 (depth_is ∙ z))
          (at-model ps _ (rebase m t p) _
          (rebase-outside m t p f ∙ ap (requeue (with_task m t (with_base (task_at m t) p)) t (active m t)) place_is) (requeued z))

  -- Leave: the status gives up o, its innermost
  pub fine-leave : (o : ℕ) → o < length m.ceilings → innermost (task_at m t) o ≡ true →
      without o (status_at b t).inside ≡ take (length (task_at m t).held - 1) (task_at m t).held →
      Fine ps (with_status b t (at_leave (inside_of (status_at b t) (without o (status_at b t).inside)))) (leave m o)
  unfolding becomes_base
  fine-leave o l i f =
      fine m.running ps _ (leave m o) (settle (give_up m t) t) (leave-0 m o t (lt-leb (length m.ceilings) o l) e i)
      (pending-leave m t h e)
      (settles (inside (task_at n t)) refl)
    where
      n : Model
      n = give_up m t

      y : Status
      y = inside_of (status_at b t) (without o (status_at b t).inside)

      k : TaskRecord
      k = with_held (task_at m t) (take (length (task_at m t).held - 1) (task_at m t).held)

      y-is : y ≡ status_of k (get_or ps t 0)
      y-is =
          ap (inside_of (status_at b t)) f ∙ ap (λ (v : Status). inside_of v (take (length (task_at m t).held - 1) (task_at m t).held)) is

      left : Agree (with_status b t y) n.now n.tasks ps
      left = agree-task b m.now m.tasks ps a t k y low y-is

      at_n : task_at n t ≡ k
      at_n = at_same (λ (v : TaskRecord). v) blank m.tasks t k t refl low

      depth_is : length y.inside ≡ length (task_at n t).held
      depth_is = ap (λ (v : Status). length v.inside) y-is ∙ sym (ap (λ (v : TaskRecord). length v.held) at_n)

      waiting-is : y.waiting ≡ (task_at n t).waiting
      waiting-is = ap (λ (v : Status). v.waiting) y-is ∙ sym (ap (λ (v : TaskRecord). v.waiting) at_n)

      low-n : t < length n.tasks
      low-n = omega (arith, low, length-set m.tasks t k)

      running-n : (task_at n t).place ≡ Running
      running-n = ap (λ (v : TaskRecord). v.place) at_n ∙ place_is

      by-waiting : (w : Option ℕ) → (task_at n t).waiting ≡ w → inside (task_at n t) ≡ false →
          Agree (with_status b t (becomes_base y w)) (settle n t).now (settle n t).tasks ps
      by-waiting None w g = at-model ps _ (settle n t) n (settle-none n t g w) left
      by-waiting (Some p) w g =
          at-model ps _ (settle n t) _ (settle-due n t p g w)
          (takes-effect ps b n t y p left low-n (omega (arith, low, a.size)) running-n)

      settles : (c : Bool) → inside (task_at n t) ≡ c → Agree (with_status b t (at_leave y)) (settle n t).now (settle n t).tasks ps
      settles true g =
          passed-by _ _ ps b t (eqb (length y.inside) 0) _ _
          (ne_eqb (length y.inside) 0 (λ z. omega (arith, z, depth_is, ltb-true 0 (length (task_at n t).held) g)))
          (at-model ps _ (settle n t) n (settle-inside n t g) left)
      settles false g =
          chosen _ _ ps b t (eqb (length y.inside) 0) _ _ (eq-eqb (length y.inside) 0 (depth_is ∙ hold-none (task_at n t) g))
          (subst (λ (w : Option ℕ). Agree (with_status b t (becomes_base y w)) (settle n t).now (settle n t).tasks ps) (sym waiting-is)
          (by-waiting (task_at n t).waiting refl g))

-- Release, by an event or a step
pub fine-release : (ps : List ℕ) (b : Reckoning) (m : Model) → Good true m → Agree b m.now m.tasks ps →
    (u : ℕ) → u < length m.tasks →
    Fine ps (released_in b u) (release m u)
unfolding release_from released away_of become_ready
fine-release ps b m h a u l =
    fine m.running ps _ (release m u) _ (release-0 m u (lt-leb (length m.tasks) u l)) (pending-release m u h.pending l)
    (subst (λ (x : Away). Agree (with_status b u (released (status_at b u) x)) (release_from m u (task_at m u).place).now
    (release_from m u (task_at m u).place).tasks ps)
    (sym (ap (λ (v : Status). v.away) (a.each u))) (go (task_at m u).place))
  where
    on : Agree (with_status b u (permitted (status_at b u) true)) (permit_on m u).now (permit_on m u).tasks ps
    on = agree-task b m.now m.tasks ps a u _ _ l (ap (λ (v : Status). permitted v true) (a.each u))

    go : (x : Place) → Agree (with_status b u (released (status_at b u) (away_of x))) (release_from m u x).now
        (release_from m u x).tasks ps
    go Running = on
    go Ready = on
    go (Delayed d) = on
    go Suspended = agree-task b m.now m.tasks ps a u _ _ l (ap (λ (v : Status). goes v here) (a.each u))
    go Ended = on

-- Clock
away-awake : (r : ℕ) (x : Place) → away_of (awake_at r x) ≡ away_after r (away_of x)
unfolding away_of awake_at away_after
away-awake r Running = refl
away-awake r Ready = refl
away-awake r (Delayed d) = go (leb d r)
  where
    go : (c : Bool) → away_of (cond c Ready (Delayed d)) ≡ cond c here (until d)
    go true = refl
    go false = refl
away-awake r Suspended = refl
away-awake r Ended = refl

pub fine-clock : (ps : List ℕ) (b : Reckoning) (m : Model) → Good true m → Agree b m.now m.tasks ps → (r : ℕ) →
    bad_reading m.now r ≡ false → Fine ps (record { now = r; tasks = map (read_at r) b.tasks }) (clock m r)
unfolding away_after
fine-clock ps b m h a r e =
    fine m.running ps _ (clock m r) n (clock-0 m r e)
    (pending-clock m r h.pending (reading-early m.now r e) (reading-low m.now r e)) (record {
      reading = sym w.now;
      size = length-map b.tasks (read_at r) ∙ a.size ∙ sym w.count;
      spots = a.spots ∙ sym w.count;
      each = λ u. get_or-map (read_at r) b.tasks u unknown ∙ ap (read_at r) (a.each u) ∙
          ap (goes (status_of (task_at m u) (get_or ps u 0))) (sym (away-awake r (task_at m u).place)) ∙
          ap (λ (k : TaskRecord). status_of k (get_or ps u 0)) (sym (w.each u));
    })
  where
    n : Model
    n = take_reading m r

    w : Awake true r (with_now m r) n
    w = wakes r (length m.tasks) (with_now m r) (core-now m r h.pending.core) (dues-most r m.tasks)
