-- A clock reading: every task that is due becomes ready, no other changes, and the soonest goes first.
use mathlib.Core.Path.{◌≡◌, refl, ap, ◌∙◌, sym, subst}
use mathlib.Core.Bool.{Bool, true, false, cond}
use mathlib.Core.List.{List, [], ◌∷◌}
use Prim.Native.Nat.{ℕ, zero, suc, ◌+◌, ◌-◌, ◌≤◌, ◌<◌}
use native.Mathlib.Nat.{not-suc-le-zero}
use native.Mathlib.Omega.{arith}
use borrow.Author.Tests.{leb-true, leb-false, le-leb, lt-leb}
use lib.Dec.{leb}
use lib.ListN.{length, set, length-set}
use Rattle.rules.specs.Limits.{task_limit}
use Rattle.rules.specs.Model.{Model, TaskRecord, blank, with_place, with_now, task_at}
use Rattle.rules.specs.Moves.{become_ready}
use Rattle.rules.specs.Events.{Due, nobody, task, due_at, earlier, first_due, wake, wake_up}
use Rattle.rules.specs.Sound.{is_ready, is_running}
use Rattle.rules.specs.declared.Place.{Place}
use Rattle.rules.specs.declared.Place.TheVariants.{Running, Ready, Delayed, Suspended, Ended}
use Rattle.rules.proofs.Choices.{compare, both_ways}
use Rattle.rules.proofs.TaskLaws.{entry, at-keeps}
use Rattle.rules.proofs.Core.{Core, core-wake, core-ready}

-- the place of a task once the tasks due at r are awake, and the task with it
unfoldable pub awake_at : ℕ → Place → Place
awake_at r Running = Running
awake_at r Ready = Ready
awake_at r (Delayed d) = cond (leb d r) Ready (Delayed d)
awake_at r Suspended = Suspended
awake_at r Ended = Ended

abbrev pub awake : ℕ → TaskRecord → TaskRecord
awake r k = with_place k (awake_at r k.place)

-- 1 where the place is due at the reading r
unfoldable pub is_due : ℕ → Place → ℕ
is_due r Running = 0
is_due r Ready = 0
is_due r (Delayed d) = cond (leb d r) 1 0
is_due r Suspended = 0
is_due r Ended = 0

-- a due place is a delayed one, of a due time that has come
pub record DueTime (r : ℕ) (x : Place) : Type 0 where
  pub time : ℕ
  pub place : x ≡ Delayed time
  pub come : time ≤ r

pub due-time : (r : ℕ) (x : Place) → 0 < is_due r x → DueTime r x
unfolding is_due
due-time r Running h = absurd (not-suc-le-zero h)
due-time r Ready h = absurd (not-suc-le-zero h)
due-time r (Delayed d) h = go (leb d r) refl h
  where
    go : (b : Bool) → leb d r ≡ b → 0 < cond {A = ℕ} b 1 0 → DueTime r (Delayed d)
    go true e g = record { time = d; place = refl; come = leb-true d r e }
    go false e g = absurd (not-suc-le-zero g)
due-time r Suspended h = absurd (not-suc-le-zero h)
due-time r Ended h = absurd (not-suc-le-zero h)

pub due-is : (r d : ℕ) (x : Place) → x ≡ Delayed d → d ≤ r → is_due r x ≡ 1
unfolding is_due
due-is r d x e h = ap (is_due r) e ∙ ap (λ (b : Bool). cond b 1 0) (le-leb d r h)

pub due-most : (r : ℕ) (x : Place) → is_due r x ≤ 1
unfolding is_due
due-most r Running = omega arith
due-most r Ready = omega arith
due-most r (Delayed d) = both_ways (λ (n : ℕ). n ≤ 1) (leb d r) 1 0 (λ e. omega arith) (λ e. omega arith)
due-most r Suspended = omega arith
due-most r Ended = omega arith

pub delayed-off : (x : Place) (d : ℕ) → x ≡ Delayed d → is_ready x + is_running x ≡ 0
unfolding is_ready is_running
delayed-off x d e = ap (λ (v : Place). is_ready v + is_running v) e

-- a due place wakes, any other stays
pub awake-due : (r d : ℕ) (x : Place) → x ≡ Delayed d → d ≤ r → awake_at r x ≡ Ready
unfolding awake_at
awake-due r d x e h = ap (awake_at r) e ∙ ap (λ (b : Bool). cond b Ready (Delayed d)) (le-leb d r h)

pub awake-not : (r : ℕ) (x : Place) → is_due r x ≡ 0 → awake_at r x ≡ x
unfolding is_due awake_at
awake-not r Running e = refl
awake-not r Ready e = refl
awake-not r (Delayed d) e = go (leb d r) e
  where
    go : (b : Bool) → cond {A = ℕ} b 1 0 ≡ 0 → cond b Ready (Delayed d) ≡ Delayed d
    go true i = absurd (omega arith)
    go false i = refl
awake-not r Suspended e = refl
awake-not r Ended e = refl

-- how many are due
unfoldable pub dues : ℕ → List TaskRecord → ℕ
dues r [] = 0
dues r (k ∷ ks) = is_due r k.place + dues r ks

pub dues-set : (r : ℕ) (ts : List TaskRecord) (t : ℕ) (k : TaskRecord) → t < length ts →
    dues r (set ts t k) + is_due r (entry ts t).place ≡ dues r ts + is_due r k.place
unfolding dues
dues-set r [] t k h = absurd (not-suc-le-zero h)
dues-set r (x ∷ ts) zero k h = omega arith
dues-set r (x ∷ ts) (suc t) k h = omega (arith, dues-set r ts t k (omega arith))

pub dues-at : (r : ℕ) (ts : List TaskRecord) (u : ℕ) → is_due r (entry ts u).place ≤ dues r ts
unfolding dues is_due
dues-at r [] u = omega arith
dues-at r (x ∷ ts) zero = omega arith
dues-at r (x ∷ ts) (suc u) = omega (arith, dues-at r ts u)

pub dues-most : (r : ℕ) (ts : List TaskRecord) → dues r ts ≤ length ts
unfolding dues
dues-most r [] = omega arith
dues-most r (x ∷ ts) = omega (arith, due-most r x.place, dues-most r ts)

-- the search may begin with the first task or go on from the best so far
earlier-assoc : (a b c : Due) → earlier (earlier a b) c ≡ earlier a (earlier b c)
unfolding earlier
earlier-assoc nobody b c = refl
earlier-assoc (task t d) nobody c = refl
earlier-assoc (task t d) (task u e) nobody =
    both_ways (λ (x : Due). earlier x nobody ≡ x) (leb d e) (task t d) (task u e) (λ i. refl) (λ i. refl)
earlier-assoc (task t d) (task u e) (task v f) =
    compare d e
    (λ i. compare e f
    (λ j. rw (le-leb d e i, le-leb e f j, le-leb d e i, le-leb d f (omega arith)))
    (λ j. rw (le-leb d e i, lt-leb e f j)))
    (λ i. compare e f
    (λ j. rw (lt-leb d e i, le-leb e f j, lt-leb d e i))
    (λ j. rw (lt-leb d e i, lt-leb e f j, lt-leb d f (omega arith))))

search-on : (r : ℕ) (best : Due) (t : ℕ) (ks : List TaskRecord) → first_due r best t ks ≡ earlier best (first_due r nobody t ks)
unfolding first_due earlier
search-on r best t [] = right-none best
  where
    right-none : (x : Due) → x ≡ earlier x nobody
    right-none nobody = refl
    right-none (task u e) = refl
search-on r best t (k ∷ ks) =
    let x : Due = due_at r t k.place in
    search-on r (earlier best x) (suc t) ks ∙ earlier-assoc best x (first_due r nobody (suc t) ks) ∙
    ap (earlier best) (sym (search-on r x (suc t) ks))

-- what the search finds among the tasks ks, numbered from i: the task t, due at d, and nobody before it
pub record Soonest (r i : ℕ) (ks : List TaskRecord) (t d : ℕ) : Type 0 where
  pub at : ℕ
  pub is : t ≡ i + at
  pub low : at < length ks
  pub place : (entry ks at).place ≡ Delayed d
  pub come : d ≤ r
  pub first : (j e : ℕ) → (entry ks j).place ≡ Delayed e → e ≤ r → (d ≤ e) × (j < at → d < e)

abbrev pub Finds : ℕ → ℕ → List TaskRecord → Due → Type 0
Finds r i ks nobody = dues r ks ≡ 0
Finds r i ks (task t d) = Soonest r i ks t d

-- what is found at one place
abbrev pub FindsAt : ℕ → ℕ → Place → Due → Type 0
FindsAt r i x nobody = is_due r x ≡ 0
FindsAt r i x (task t d) = (t ≡ i) × (x ≡ Delayed d) × (d ≤ r)

pub finds-at : (r i : ℕ) (x : Place) → FindsAt r i x (due_at r i x)
unfolding due_at is_due
finds-at r i Running = refl
finds-at r i Ready = refl
finds-at r i (Delayed d) = go (leb d r) refl
  where
    go : (b : Bool) → leb d r ≡ b → FindsAt r i (Delayed d) (cond b (task i d) nobody)
    go true e = (refl, refl, leb-true d r e)
    go false e = ap (λ (b : Bool). cond b 1 0) e
finds-at r i Suspended = refl
finds-at r i Ended = refl

due-same : (x : Place) (d e : ℕ) → x ≡ Delayed d → x ≡ Delayed e → d ≡ e
due-same x d e p q = cc

module _ (r i : ℕ) (k : TaskRecord) (ks : List TaskRecord) where
  -- the task at i is the first, or one behind it is
  head_first : (t d : ℕ) → t ≡ i → k.place ≡ Delayed d → d ≤ r → ((j e : ℕ) → (entry ks j).place ≡ Delayed e → e ≤ r → d ≤ e) →
      Soonest r i (k ∷ ks) t d
  head_first t d e p h f = record { at = 0; is = omega arith; low = omega arith; place = p; come = h; first = go }
    where
      go : (j e : ℕ) → (entry (k ∷ ks) j).place ≡ Delayed e → e ≤ r → (d ≤ e) × (j < 0 → d < e)
      go zero e q g = (omega (arith, due-same k.place d e p q), λ n. absurd (not-suc-le-zero n))
      go (suc j) e q g = (f j e q g, λ n. absurd (not-suc-le-zero n))

  tail-first : (t d : ℕ) → Soonest r (suc i) ks t d → ((e : ℕ) → k.place ≡ Delayed e → e ≤ r → d < e) → Soonest r i (k ∷ ks) t d
  tail-first t d h f =
      record { at = suc h.at; is = omega (arith, h.is); low = omega (arith, h.low); place = h.place; come = h.come; first = go }
    where
      go : (j e : ℕ) → (entry (k ∷ ks) j).place ≡ Delayed e → e ≤ r → (d ≤ e) × (j < suc h.at → d < e)
      go zero e q g = (omega (arith, f e q g), λ n. f e q g)
      go (suc j) e q g = let b = h.first j e q g in (b.0, λ n. b.1 (omega arith))

  finds-both : (f g : Due) → FindsAt r i k.place f → Finds r (suc i) ks g → Finds r i (k ∷ ks) (earlier f g)
  unfolding earlier dues
  finds-both nobody nobody a b = omega arith
  finds-both nobody (task t d) a b = tail-first t d b (λ e q h. absurd (omega (arith, a, due-is r e k.place q h)))
  finds-both (task t d) nobody a b =
      head_first t d a.0 a.1 a.2 (λ j e q h. absurd (omega (arith, b, dues-at r ks j, due-is r e (entry ks j).place q h)))
  finds-both (task t d) (task u e) a b =
      both_ways (Finds r i (k ∷ ks)) (leb d e) (task t d) (task u e)
      (λ z. head_first t d a.0 a.1 a.2 (λ j v q h. omega (arith, leb-true d e z, (b.first j v q h).0)))
      (λ z. tail-first u e b (λ v q h. omega (arith, leb-false d e z, due-same k.place d v a.1 q)))

pub finds : (r i : ℕ) (ks : List TaskRecord) → Finds r i ks (first_due r nobody i ks)
unfolding first_due dues earlier
finds r i [] = refl
finds r i (k ∷ ks) =
    subst (Finds r i (k ∷ ks)) (sym (search-on r (due_at r i k.place) (suc i) ks))
    (finds-both r i k ks (due_at r i k.place) (first_due r nobody (suc i) ks) (finds-at r i k.place) (finds r (suc i) ks))

-- what waking one task keeps: m before, n after
pub record Woke (ord : Bool) (r : ℕ) (m n : Model) : Type 0 where
  pub core : Core ord n task_limit
  pub now : n.now ≡ m.now
  pub running : n.running ≡ m.running
  pub count : length n.tasks ≡ length m.tasks
  pub ceilings : n.ceilings ≡ m.ceilings
  pub each : (u : ℕ) → awake r (task_at n u) ≡ awake r (task_at m u)
  pub fewer : dues r n.tasks ≤ dues r m.tasks - 1

woke-one : {ord : Bool} (r t d : ℕ) (m : Model) → Core ord m task_limit → t < length m.tasks → (task_at m t).place ≡ Delayed d → d ≤ r →
    Woke ord r m (become_ready m t)
unfolding become_ready awake_at is_due
woke-one r t d m c h p e = record {
  core = core-ready m t (core-wake m c t (delayed-off (task_at m t).place d p)) h;
  now = refl;
  running = refl;
  count = length-set m.tasks t _;
  ceilings = refl;
  each = at-keeps (awake r) blank m.tasks t (with_place (task_at m t) Ready)
      (ap (with_place (task_at m t)) (sym (awake-due r d (task_at m t).place p e)));
  fewer = omega (arith, dues-set r m.tasks t (with_place (task_at m t) Ready) h, due-is r d (task_at m t).place p e);
}

pub woke : {ord : Bool} (r : ℕ) (m : Model) (f : Due) → Core ord m task_limit → Finds r 0 m.tasks f → Woke ord r m (wake m f)
unfolding wake
woke r m nobody c s =
    record { core = c; now = refl; running = refl; count = refl; ceilings = refl; each = λ u. refl; fewer = omega arith }
woke r m (task t d) c s =
    let e : t ≡ s.at = omega (arith, s.is) in
    woke-one r t d m c (omega (arith, s.low)) (ap (λ (v : ℕ). (task_at m v).place) e ∙ s.place) s.come

-- once all due tasks are awake: each task is as the reading leaves it, and nobody is due
pub record Awake (ord : Bool) (r : ℕ) (m n : Model) : Type 0 where
  pub core : Core ord n task_limit
  pub now : n.now ≡ m.now
  pub running : n.running ≡ m.running
  pub count : length n.tasks ≡ length m.tasks
  pub ceilings : n.ceilings ≡ m.ceilings
  pub each : (u : ℕ) → task_at n u ≡ awake r (task_at m u)
  pub done : dues r n.tasks ≡ 0

pub wakes : {ord : Bool} (r n : ℕ) (m : Model) → Core ord m task_limit → dues r m.tasks ≤ n → Awake ord r m (wake_up r n m)
unfolding wake_up
wakes r zero m c h = record {
  core = c;
  now = refl;
  running = refl;
  count = refl;
  ceilings = refl;
  done = omega arith;
  each = λ u. ap (with_place (task_at m u)) (sym (awake-not r (task_at m u).place (omega (arith, h, dues-at r m.tasks u))));
}
wakes {ord} r (suc n) m c h =
    let m₁ : Model = wake m (first_due r nobody 0 m.tasks) in
    let w : Woke ord r m m₁ = woke r m (first_due r nobody 0 m.tasks) c (finds r 0 m.tasks) in
    let a : Awake ord r m₁ (wake_up r n m₁) = wakes r n m₁ w.core (omega (arith, w.fewer)) in
    record {
      core = a.core;
      now = a.now ∙ w.now;
      running = a.running ∙ w.running;
      count = a.count ∙ w.count;
      ceilings = a.ceilings ∙ w.ceilings;
      each = λ u. a.each u ∙ w.each u;
      done = a.done;
    }

pub core-now : {ord : Bool} (m : Model) (r : ℕ) → Core ord m task_limit → Core ord (with_now m r) task_limit
core-now m r c = record { stand = c.stand; count = c.count; queues = c.queues; ceils = c.ceils; low = c.low; high = c.high }
