-- The test of soundness says just what specs/Clauses.antt says clause by clause.
use mathlib.Core.Path.{◌≡◌, refl, ap, ◌∙◌, sym, subst}
use mathlib.Core.Bool.{Bool, true, false, not, ◌&&◌, ◌||◌}
use mathlib.Core.List.{List, [], ◌∷◌, map}
use Prim.Native.Nat.{ℕ, zero, suc, ◌+◌, ◌-◌, ◌≤◌, ◌<◌}
use native.Mathlib.Nat.{not-suc-le-zero}
use native.Mathlib.Numerals.{add-one}
use native.Mathlib.Omega.{arith}
use borrow.Author.Tests.{eqb-true, eq-eqb, leb-true, leb-false, le-leb, lt-leb, ltb-true, lt-ltb, le-ltb, not-true}
use lib.Dec.{eqb, leb, ltb}
use lib.ListN.{length, get_or}
use Rattle.std.specs.Prelude.{None, Option, Some, ℕ}
use Rattle.rules.specs.Limits.{task_limit, object_limit, last_reading, last_delay, last_priority}
use Rattle.rules.specs.Priorities.{in_range}
use Rattle.rules.specs.Model.{Model, TaskRecord, task_at, queue, ceiling_of, active}
use Rattle.rules.specs.Moves.{highest_to, highest}
use Rattle.rules.specs.Events.{no_task, inside}
use Rattle.rules.specs.Sound.{sizes_good, waiting_good, record_good, runner_good, numbers_good, is_running, is_ready, runs, queued}
use Rattle.rules.specs.Sound.{stands_in, in_one_place, one_place, own_queue, due_good, due_ahead, highest_runs}
use Rattle.rules.specs.Sound.{distinct, rising, held_good, holders_here, is_none}
use Rattle.rules.specs.Sound.{waiting_inside, sound}
use Rattle.rules.specs.declared.Place.{Place}
use Rattle.rules.specs.declared.Place.TheVariants.{Running, Ready, Delayed, Suspended, Ended}
use Rattle.rules.specs.Lists.{all_of, times_in, below}
use Rattle.rules.specs.Clauses.{Numbers, Sound, SoundClaim}
use Rattle.rules.proofs.Choices.{clash, split, compare, and_left, and_right, and-make, or_right, or-first, or-second}
use Rattle.rules.proofs.Counts.{times-same, times-cons, times_none, queued-at, Row, row-of}
use Rattle.rules.proofs.Levels.{highest-top, highest-above, highest-full}
use Rattle.rules.proofs.TaskLaws.{ready, running, depth}
use Rattle.rules.proofs.HeldLaws.{all-at, all-make, distinct-once, once-distinct}

-- a test of every number below n
pub below_at : (n : ℕ) (f : ℕ → Bool) → below n f ≡ true → (i : ℕ) → i < n → f i ≡ true
unfolding below
below_at zero f e i h = absurd (not-suc-le-zero h)
below_at (suc n) f e i h =
    split i n (λ q. ap f q ∙ and_right (below n f) (f n) e) (λ q. below_at n f (and_left (below n f) (f n) e) i (omega (arith, q)))

pub below-make : (n : ℕ) (f : ℕ → Bool) → ((i : ℕ) → i < n → f i ≡ true) → below n f ≡ true
unfolding below
below-make zero f h = refl
below-make (suc n) f h = and-make (below n f) (f n) (below-make n f (λ i g. h i (omega arith))) (h n (omega arith))

pub below_more : (n : ℕ) (f : ℕ → Bool) → below n f ≡ true → f n ≡ true → below (n + 1) f ≡ true
unfolding below
below_more n f e g = rw add-one (and-make (below n f) (f n) e g)

pub below_fails : (n i : ℕ) (f : ℕ → Bool) → i < n → f i ≡ false → below n f ≡ false
unfolding below
below_fails n i f h e = go (below n f) refl
  where
    go : (b : Bool) → below n f ≡ b → b ≡ false
    go true g = clash (sym (below_at n f g i h) ∙ e)
    go false g = refl

-- single tests and what they say
pub waiting-is : (w : Option ℕ) → waiting_good w ≡ true → (p : ℕ) → w ≡ Some p → in_range p ≡ true
unfolding waiting_good
waiting-is w e p q = sym (ap waiting_good q) ∙ e

pub waiting-make : (w : Option ℕ) → ((p : ℕ) → w ≡ Some p → in_range p ≡ true) → waiting_good w ≡ true
unfolding waiting_good
waiting-make None h = refl
waiting-make (Some p) h = h p refl

-- the test of one place, as two counts
pub stands-is : (r n : ℕ) (x : Place) → stands_in r n x ≡ (eqb r (is_running x) && eqb n (is_ready x))
unfolding stands_in is_running is_ready
stands-is r n Running = refl
stands-is r n Ready = refl
stands-is r n (Delayed d) = refl
stands-is r n Suspended = refl
stands-is r n Ended = refl

pub due-is : (now : ℕ) (x : Place) → due_good now x ≡ true → (d : ℕ) → x ≡ Delayed d → (now < d) × (d ≤ now + last_delay)
unfolding due_good
due-is now x e d q =
    let f : (ltb now d && leb d (now + last_delay)) ≡ true = sym (ap (due_good now) q) ∙ e in
    (ltb-true now d (and_left _ _ f), leb-true d (now + last_delay) (and_right (ltb now d) (leb d (now + last_delay)) f))

pub due-make : (now : ℕ) (x : Place) → ((d : ℕ) → x ≡ Delayed d → (now < d) × (d ≤ now + last_delay)) → due_good now x ≡ true
unfolding due_good
due-make now Running h = refl
due-make now Ready h = refl
due-make now (Delayed d) h =
    let g = h d refl in and-make (ltb now d) (leb d (now + last_delay)) (lt-ltb now d g.0) (le-leb d (now + last_delay) g.1)
due-make now Suspended h = refl
due-make now Ended h = refl

pub rising-is : (cs : List ℕ) (b : ℕ) (l : List ℕ) → rising cs b l ≡ true → (i : ℕ) → i < length l →
    get_or (b ∷ map (ceiling_of cs) l) i 0 ≤ ceiling_of cs (get_or l i 0)
unfolding rising
rising-is cs b [] e i h = absurd (not-suc-le-zero h)
rising-is cs b (o ∷ l) e zero h = leb-true b (ceiling_of cs o) (and_left (leb b (ceiling_of cs o)) (rising cs (ceiling_of cs o) l) e)
rising-is cs b (o ∷ l) e (suc i) h =
    rising-is cs (ceiling_of cs o) l (and_right (leb b (ceiling_of cs o)) (rising cs (ceiling_of cs o) l) e) i (omega arith)

pub rising-make : (cs : List ℕ) (b : ℕ) (l : List ℕ) →
    ((i : ℕ) → i < length l → get_or (b ∷ map (ceiling_of cs) l) i 0 ≤ ceiling_of cs (get_or l i 0)) → rising cs b l ≡ true
unfolding rising
rising-make cs b [] h = refl
rising-make cs b (o ∷ l) h =
    and-make (leb b (ceiling_of cs o)) (rising cs (ceiling_of cs o) l) (le-leb b (ceiling_of cs o) (h 0 (omega arith)))
    (rising-make cs (ceiling_of cs o) l (λ i g. h (suc i) (omega arith)))

present-is : (k : TaskRecord) → (not (inside k) || eqb (ready k + running k) 1) ≡ true → 0 < depth k → ready k + running k ≡ 1
present-is k e h =
    eqb-true (ready k + running k) 1 (or_right (not (inside k)) (eqb (ready k + running k) 1) (ap not (lt-ltb 0 (depth k) h)) e)

present-make : (k : TaskRecord) → (0 < depth k → ready k + running k ≡ 1) → (not (inside k) || eqb (ready k + running k) 1) ≡ true
present-make k h =
    compare 1 (depth k) (λ g. or-second (not (inside k)) _ (eq-eqb (ready k + running k) 1 (h g)))
    (λ g. or-first (not (inside k)) _ (ap not (le-ltb 0 (depth k) (omega arith))))

calm-is : (k : TaskRecord) → (inside k || is_none k.waiting) ≡ true → depth k ≡ 0 → k.waiting ≡ None
unfolding is_none
calm-is k e z = none_is k.waiting (or_right (inside k) (is_none k.waiting) (le-ltb 0 (depth k) (omega arith)) e)
  where
    none_is : (w : Option ℕ) → is_none w ≡ true → w ≡ None
    none_is None i = refl
    none_is (Some p) i = absurd (let y : ◌≡◌ {A = ℕ} 0 1 = cc in omega arith)

calm-make : (k : TaskRecord) → (depth k ≡ 0 → k.waiting ≡ None) → (inside k || is_none k.waiting) ≡ true
unfolding is_none
calm-make k h =
    compare 1 (depth k) (λ g. or-first (inside k) _ (lt-ltb 0 (depth k) g)) (λ g. or-second (inside k) _ (ap is_none (h (omega arith))))

-- three, four, six and eight tests taken apart
three : (a b c : Bool) → (a && b && c) ≡ true → (a ≡ true) × (b ≡ true) × (c ≡ true)
three a b c e = let f = and_left (a && b) c e in (and_left a b f, and_right a b f, and_right (a && b) c e)

four : (a b c d : Bool) → (a && b && c && d) ≡ true → (a ≡ true) × (b ≡ true) × (c ≡ true) × (d ≡ true)
four a b c d e = let f = three a b c (and_left (a && b && c) d e) in (f.0, f.1, f.2, and_right (a && b && c) d e)

six : (a b c d x y : Bool) → (a && b && c && d && x && y) ≡ true →
    (a ≡ true) × (b ≡ true) × (c ≡ true) × (d ≡ true) × (x ≡ true) × (y ≡ true)
six a b c d x y e =
    let g = and_left (a && b && c && d && x) y e in
    let f = four a b c d (and_left (a && b && c && d) x g) in
    (f.0, f.1, f.2, f.3, and_right (a && b && c && d) x g, and_right (a && b && c && d && x) y e)

eight : (a b c d x y v w : Bool) → (a && b && c && d && x && y && v && w) ≡ true →
    (a ≡ true) × (b ≡ true) × (c ≡ true) × (d ≡ true) × (x ≡ true) × (y ≡ true) × (v ≡ true) × (w ≡ true)
eight a b c d x y v w e =
    let g = and_left (a && b && c && d && x && y && v) w e in
    let f = six a b c d x y (and_left (a && b && c && d && x && y) v g) in
    (f.0, f.1, f.2, f.3, f.4, f.5, and_right (a && b && c && d && x && y) v g, and_right (a && b && c && d && x && y && v) w e)

pub one_less : (p : ℕ) → suc p - 1 ≡ p
one_less p = omega arith

runner-is : (m : Model) (w : Option ℕ) → runner_good m w ≡ true → (t : ℕ) → w ≡ Some t → t < length m.tasks
unfolding runner_good
runner-is m w e t q = leb-false (length m.tasks) t (not-true (no_task m t) (sym (ap (runner_good m) q) ∙ e))

runner-make : (m : Model) (w : Option ℕ) → ((t : ℕ) → w ≡ Some t → t < length m.tasks) → runner_good m w ≡ true
unfolding runner_good
runner-make m None h = refl
runner-make m (Some t) h = ap not (lt-leb (length m.tasks) t (h t refl))

-- whoever is queued is at most at the highest queue
pub under-highest : (m : Model) (u : ℕ) → length m.ready ≡ last_priority →
    ((p t : ℕ) → p < last_priority → 0 < times_in t (get_or m.ready p []) → active m t ≡ suc p) → 0 < queued m.ready u →
    active m u ≤ highest m
unfolding highest
under-highest m u e f g =
    let v : Row m.ready u = row-of m.ready u g in
    let low : v.at < last_priority = omega (arith, v.low, e) in
    compare (highest_to m.ready last_priority) v.at
    (λ i. absurd (omega (arith, v.has, times_none u (get_or m.ready v.at []) (highest-above m.ready last_priority v.at i low))))
    (λ i. omega (arith, f v.at u low v.has))

-- and somebody stands in the highest queue
highest-has : (m : Model) → 0 < highest m →
    (t : ℕ) × ((highest m - 1 < last_priority) × (0 < times_in t (get_or m.ready (highest m - 1) [])))
unfolding highest times_in
highest-has m h = first (get_or m.ready (highest_to m.ready last_priority - 1) []) (highest-full m.ready last_priority h)
  where
    low : highest_to m.ready last_priority - 1 < last_priority
    low = omega (arith, highest-top m.ready last_priority)

    first : (l : List ℕ) → 0 < length l → (t : ℕ) × ((highest_to m.ready last_priority - 1 < last_priority) × (0 < times_in t l))
    first [] g = absurd (not-suc-le-zero g)
    first (x ∷ l) g = (x, (low, omega (arith, times-cons x x l, times-same x x refl)))

-- the test says each clause
module _ (m : Model) (e : sound m ≡ true) where
  clauses : (numbers_good m ≡ true) × (one_place m ≡ true) × (own_queue m ≡ true) × (due_ahead m ≡ true) ×
      (highest_runs m m.running ≡ true) ×
      (held_good m ≡ true) × (holders_here m ≡ true) × (waiting_inside m ≡ true)
  unfolding sound
  clauses = eight (numbers_good m) (one_place m) (own_queue m) (due_ahead m) (highest_runs m m.running) (held_good m) (holders_here m)
      (waiting_inside m) e

  number-tests : (sizes_good m ≡ true) × (below (length m.tasks) (λ t. record_good m (task_at m t)) ≡ true) ×
      (runner_good m m.running ≡ true) ×
      (below last_priority (λ q. all_of (λ t. not (no_task m t)) (queue m (suc q))) ≡ true)
  unfolding numbers_good
  number-tests =
      four (sizes_good m) (below (length m.tasks) (λ t. record_good m (task_at m t))) (runner_good m m.running)
      (below last_priority (λ q. all_of (λ t. not (no_task m t)) (queue m (suc q)))) clauses.0

  size-tests : (leb 1 (length m.tasks) ≡ true) × (leb (length m.tasks) task_limit ≡ true) ×
      (leb (length m.ceilings) object_limit ≡ true) ×
      (eqb (length m.ready) last_priority ≡ true) × (leb m.now last_reading ≡ true) × (all_of in_range m.ceilings ≡ true)
  size-tests =
      six (leb 1 (length m.tasks)) (leb (length m.tasks) task_limit) (leb (length m.ceilings) object_limit)
      (eqb (length m.ready) last_priority) (leb m.now last_reading) (all_of in_range m.ceilings) number-tests.0

  record-tests : (t : ℕ) → t < length m.tasks → (in_range (task_at m t).base ≡ true) × (waiting_good (task_at m t).waiting ≡ true) ×
      (all_of (λ o. not (leb (length m.ceilings) o)) (task_at m t).held ≡ true)
  record-tests t h =
      three (in_range (task_at m t).base) (waiting_good (task_at m t).waiting)
      (all_of (λ o. not (leb (length m.ceilings) o)) (task_at m t).held)
      (below_at (length m.tasks) (λ u. record_good m (task_at m u)) number-tests.1 t h)

  numbers-are : Numbers m
  numbers-are = record {
    some = leb-true 1 (length m.tasks) size-tests.0;
    count = leb-true (length m.tasks) task_limit size-tests.1;
    objects = leb-true (length m.ceilings) object_limit size-tests.2;
    queues = eqb-true (length m.ready) last_priority size-tests.3;
    reading = leb-true m.now last_reading size-tests.4;
    ceiling = all-at in_range m.ceilings size-tests.5;
    base = λ t h. (record-tests t h).0;
    waiting = λ t p h q. waiting-is (task_at m t).waiting (record-tests t h).1 p q;
    held = λ t o h g. leb-false (length m.ceilings) o
        (not-true _ (all-at (λ x. not (leb (length m.ceilings) x)) _ (record-tests t h).2 o g));
    runner = runner-is m m.running number-tests.2;
    queued = λ p t l h.
        let f = below_at last_priority (λ q. all_of (λ u. not (no_task m u)) (queue m (suc q))) number-tests.3 p l in
        leb-false (length m.tasks) t (not-true (no_task m t) (all-at (λ u. not (no_task m u)) (queue m (suc p)) f t h));
  }

  placed-is : (t : ℕ) → t < length m.tasks →
      (runs m.running t ≡ is_running (task_at m t).place) × (queued m.ready t ≡ is_ready (task_at m t).place)
  unfolding one_place
  placed-is t h =
      let a = eqb (runs m.running t) (is_running (task_at m t).place) in
      let b = eqb (queued m.ready t) (is_ready (task_at m t).place) in
      let f = sym (stands-is _ _ (task_at m t).place) ∙ below_at (length m.tasks) (in_one_place m) clauses.1 t h in
      (eqb-true _ _ (and_left a b f), eqb-true _ _ (and_right a b f))

  level-is : (p t : ℕ) → p < last_priority → 0 < times_in t (queue m (suc p)) → active m t ≡ suc p
  unfolding own_queue
  level-is p t l h =
      let f = below_at last_priority (λ q. all_of (λ u. eqb (active m u) (suc q)) (queue m (suc q))) clauses.2 p l in
      eqb-true (active m t) (suc p) (all-at (λ u. eqb (active m u) (suc p)) (queue m (suc p)) f t h)

  level-at : (p t : ℕ) → p < last_priority → 0 < times_in t (get_or m.ready p []) → active m t ≡ suc p
  level-at p t l h = level-is p t l (subst (λ (v : ℕ). 0 < times_in t (get_or m.ready v [])) (sym (one_less p)) h)

  due-are : (t d : ℕ) → t < length m.tasks → (task_at m t).place ≡ Delayed d → (m.now < d) × (d ≤ m.now + last_delay)
  unfolding due_ahead
  due-are t d h q =
      due-is m.now (task_at m t).place (below_at (length m.tasks) (λ u. due_good m.now (task_at m u).place) clauses.3 t h) d q

  highest-is : (t u : ℕ) → m.running ≡ Some t → 0 < queued m.ready u → active m u ≤ active m t
  unfolding highest_runs
  highest-is t u q g =
      let f : leb (highest m) (active m t) ≡ true = sym (ap (highest_runs m) q) ∙ clauses.4 in
      omega (arith, leb-true (highest m) (active m t) f, under-highest m u numbers-are.queues level-at g)

  busy-is : (u : ℕ) → 0 < queued m.ready u → m.running ≡ None → ⊥
  unfolding highest_runs
  busy-is u g q =
      let f : eqb (highest m) 0 ≡ true = sym (ap (highest_runs m) q) ∙ clauses.4 in
      let v : Row m.ready u = row-of m.ready u g in
      let l : v.at < last_priority = omega (arith, v.low, numbers-are.queues) in
      omega (arith, eqb-true (highest m) 0 f, under-highest m u numbers-are.queues level-at g, level-at v.at u l v.has)

  held-tests : (t : ℕ) → t < length m.tasks →
      (distinct (task_at m t).held ≡ true) × (rising m.ceilings (task_at m t).base (task_at m t).held ≡ true)
  unfolding held_good
  held-tests t h =
      let a = distinct (task_at m t).held in
      let b = rising m.ceilings (task_at m t).base (task_at m t).held in
      let f = below_at (length m.tasks) _ clauses.5 t h in
      (and_left a b f, and_right a b f)

  present-are : (t : ℕ) → t < length m.tasks → 0 < depth (task_at m t) → ready (task_at m t) + running (task_at m t) ≡ 1
  unfolding holders_here
  present-are t h = present-is (task_at m t) (below_at (length m.tasks) _ clauses.6 t h)

  calm-are : (t : ℕ) → t < length m.tasks → depth (task_at m t) ≡ 0 → (task_at m t).waiting ≡ None
  unfolding waiting_inside
  calm-are t h = calm-is (task_at m t) (below_at (length m.tasks) _ clauses.7 t h)

  pub sound-is : Sound m
  sound-is = record {
    numbers = numbers-are;
    placed = placed-is;
    level = level-is;
    due = due-are;
    highest = highest-is;
    busy = busy-is;
    once = λ t o h. distinct-once (task_at m t).held (held-tests t h).0 o;
    rises = λ t i h. rising-is m.ceilings (task_at m t).base (task_at m t).held (held-tests t h).1 i;
    present = present-are;
    calm = calm-are;
  }

-- the clauses make the test
module _ (m : Model) (s : Sound m) where
  make-sizes : sizes_good m ≡ true
  make-sizes =
      let k = s.numbers in
      let c = and-make _ _ (and-make _ _ (le-leb 1 (length m.tasks) k.some) (le-leb (length m.tasks) task_limit k.count))
      (le-leb (length m.ceilings) object_limit k.objects) in
      and-make _ _
      (and-make _ _ (and-make _ _ c (eq-eqb (length m.ready) last_priority k.queues)) (le-leb m.now last_reading k.reading))
      (all-make in_range m.ceilings k.ceiling)

  make-numbers : numbers_good m ≡ true
  unfolding numbers_good
  make-numbers =
      and-make _ _ (and-make _ _ (and-make _ _ make-sizes
      (below-make (length m.tasks) (λ t. record_good m (task_at m t)) each))
      (runner-make m m.running s.numbers.runner))
      (below-make last_priority (λ q. all_of (λ t. not (no_task m t)) (queue m (suc q)))
      (λ p l. all-make (λ t. not (no_task m t)) (queue m (suc p))
      (λ t h. ap not (lt-leb (length m.tasks) t (s.numbers.queued p t l h)))))
    where
      each : (t : ℕ) → t < length m.tasks → record_good m (task_at m t) ≡ true
      each t h =
          and-make _ _ (and-make _ _ (s.numbers.base t h) (waiting-make (task_at m t).waiting (λ p q. s.numbers.waiting t p h q)))
          (all-make (λ o. not (leb (length m.ceilings) o)) (task_at m t).held
          (λ o g. ap not (lt-leb (length m.ceilings) o (s.numbers.held t o h g))))

  make-placed : one_place m ≡ true
  unfolding one_place
  make-placed =
      below-make (length m.tasks) (in_one_place m) (λ t h.
      let f = s.placed t h in
      stands-is _ _ (task_at m t).place ∙ and-make _ _ (eq-eqb _ _ f.0) (eq-eqb _ _ f.1))

  make-level : own_queue m ≡ true
  unfolding own_queue
  make-level =
      below-make last_priority (λ q. all_of (λ t. eqb (active m t) (suc q)) (queue m (suc q)))
      (λ p l. all-make (λ t. eqb (active m t) (suc p)) (queue m (suc p)) (λ t h. eq-eqb (active m t) (suc p) (s.level p t l h)))

  make-due : due_ahead m ≡ true
  unfolding due_ahead
  make-due = below-make (length m.tasks) _ (λ t h. due-make m.now (task_at m t).place (λ d q. s.due t d h q))

  standing : (t : ℕ) → highest m - 1 < last_priority → 0 < times_in t (get_or m.ready (highest m - 1) []) → 0 < highest m →
      active m t ≡ highest m
  standing t l h g =
      let e : active m t ≡ suc (highest m - 1) =
      s.level (highest m - 1) t l (subst (λ (v : ℕ). 0 < times_in t (get_or m.ready v [])) (sym (one_less (highest m - 1))) h) in
      omega (arith, e)

  make-highest : (w : Option ℕ) → m.running ≡ w → highest_runs m w ≡ true
  unfolding highest_runs
  make-highest None e =
      eq-eqb (highest m) 0 (compare 1 (highest m)
      (λ g. let v = highest-has m g in absurd (s.busy v.0 (omega (arith, v.1.1, queued-at m.ready (highest m - 1) v.0)) e))
      (λ g. omega arith))
  make-highest (Some t) e =
      le-leb (highest m) (active m t) (compare (highest m) (active m t) (λ g. g)
      (λ g.
      let v = highest-has m (omega arith) in
      let q : 0 < queued m.ready v.0 = omega (arith, v.1.1, queued-at m.ready (highest m - 1) v.0) in
      omega (arith, s.highest t v.0 e q, standing v.0 v.1.0 v.1.1 (omega arith))))

  make-held : held_good m ≡ true
  unfolding held_good
  make-held =
      below-make (length m.tasks) _ (λ t h.
      and-make _ _ (once-distinct (task_at m t).held (λ o. s.once t o h))
      (rising-make m.ceilings (task_at m t).base (task_at m t).held (λ i g. s.rises t i h g)))

  make-present : holders_here m ≡ true
  unfolding holders_here
  make-present = below-make (length m.tasks) _ (λ t h. present-make (task_at m t) (s.present t h))

  make-calm : waiting_inside m ≡ true
  unfolding waiting_inside
  make-calm = below-make (length m.tasks) _ (λ t h. calm-make (task_at m t) (s.calm t h))

  pub sound-make : sound m ≡ true
  unfolding sound
  sound-make =
      and-make _ _
      (and-make _ _
      (and-make _ _ (and-make _ _ (and-make _ _ (and-make _ _ (and-make _ _ make-numbers make-placed) make-level) make-due)
      (make-highest m.running refl)) make-held) make-present) make-calm

pub sound-says : SoundClaim
sound-says m = (sound-is m, sound-make m)
