-- Laws of the test of soundness: its clauses regrouped, and the loops of each clause.
use mathlib.Core.Path.{◌≡◌, refl, ap, ◌∙◌, sym}
use mathlib.Core.Bool.{Bool, true, false, not, ◌&&◌}
use mathlib.Core.List.{List, [], ◌∷◌, map}
use Rattle.std.specs.List.{list_all}
use Prim.Native.Nat.{ℕ, suc, ◌+◌, ◌-◌, ◌≤◌, ◌<◌}
use native.Mathlib.Numerals.{add-one}
use native.Mathlib.Omega.{arith}
use borrow.Author.Tests.{le-leb, lt-leb, lt-ltb, leb-true, eqb-true}
use lib.Dec.{eqb, leb, ltb}
use lib.ListN.{length, drop, get_or, drop_of_length-le, get_or-eq_default}
use lib.Seq.{drop-cons}
use Rattle.rules.specs.Limits.{last_priority, last_delay}
use Rattle.rules.specs.Model.{Model, TaskRecord, blank, task_at, queue, ceiling_of, highest_of, active}
use Rattle.rules.specs.Events.{no_task}
use Rattle.rules.specs.Sound.{sizes_good, record_good, runner_good}
use Rattle.rules.specs.Sound.{highest_runs, due_good, rising, each_task, each_priority}
use Rattle.rules.specs.Sound.{numbers_good, in_one_place, one_place, own_queue, due_ahead, held_good, holders_here, waiting_inside, sound}
use Rattle.rules.specs.declared.Place.{Place}
use Rattle.rules.specs.declared.Place.TheVariants.{Running, Ready, Delayed, Suspended, Ended}
use Rattle.rules.specs.declared.Priority.{Priority}
use Rattle.rules.specs.Priorities.{level}
use Rattle.rules.specs.Lists.{all_of, times_in, below}
use Rattle.rules.proofs.Choices.{clash, compare, and_left, and_right}
use Rattle.rules.proofs.HeldLaws.{all-at, all-make}
use Rattle.rules.proofs.SoundLaws.{below_at, below-make}
use Rattle.soundness.specs.Tested.{held_good_at, holder_here, waits_inside, task_sound, queue_sound}

-- two tests that hold together are equal
pub same_test : (a b : Bool) → (a ≡ true → b ≡ true) → (b ≡ true → a ≡ true) → a ≡ b
same_test true b f g = sym (f refl)
same_test false true f g = g refl
same_test false false f g = refl

-- an "and" whose first part fails, or holds
pub fails-first : (a b : Bool) → a ≡ false → (a && b) ≡ false
fails-first true b e = clash e
fails-first false b e = refl

pub holds-first : (a b : Bool) → a ≡ true → (a && b) ≡ b
holds-first true b e = refl
holds-first false b e = clash (sym e)

-- all clauses
unfoldable pub tested : Model → Bool
tested m =
    sizes_good m && runner_good m m.running && highest_runs m m.running && each_priority (queue_sound m) &&
    below (length m.tasks) (task_sound m)

-- a test of each of some numbers, of some priorities
pub all-listed : (f : ℕ → Bool) (l : List ℕ) → list_all f l ≡ all_of f l
unfolding all_of
all-listed f [] = refl
all-listed f (x ∷ l) = ap (λ (b : Bool). f x && b) (all-listed f l)

pub all-levels : (f : ℕ → Bool) (ps : List Priority) → list_all (λ p. f p.0) ps ≡ all_of f (map level ps)
unfolding all_of
all-levels f [] = refl
all-levels f (p ∷ ps) = ap (λ (b : Bool). f p.0 && b) (all-levels f ps)

-- ceilings that do not fall, in a loop from the front
module _ (cs : List ℕ) (b low i : ℕ) (l : List ℕ) (e : rising cs b l ≡ rising cs low (drop i l)) where
  pub rising-more : (c : ℕ) → i < length l → c ≡ ceiling_of cs (get_or l i 0) → low ≤ c → rising cs b l ≡ rising cs c (drop (i + 1) l)
  unfolding rising
  rising-more c h f g = e ∙ rw (add-one, drop-cons l i 0 h, ← f) (holds-first (leb low c) (rising cs c (drop (suc i) l)) (le-leb low c g))

  pub rising-fails : (c : ℕ) → i < length l → c ≡ ceiling_of cs (get_or l i 0) → c < low → rising cs b l ≡ false
  unfolding rising
  rising-fails c h f g = e ∙ rw (drop-cons l i 0 h, ← f) (fails-first (leb low c) (rising cs c (drop (suc i) l)) (lt-leb low c g))

  pub rising-end : length l ≤ i → rising cs b l ≡ true
  unfolding rising
  rising-end h = e ∙ rw (drop_of_length-le l {i = i} h)

-- a due time after now, and not too far
pub due-ahead : (now d : ℕ) (x : Place) → x ≡ Delayed d → now < d → due_good now x ≡ leb (d - now) last_delay
unfolding due_good
due-ahead now d x e h =
    ap (due_good now) e ∙
    (holds-first (ltb now d) (leb d (now + last_delay)) (lt-ltb now d h) ∙
    same_test (leb d (now + last_delay)) (leb (d - now) last_delay)
    (λ f. le-leb (d - now) last_delay (omega (arith, leb-true d (now + last_delay) f)))
    (λ f. le-leb d (now + last_delay) (omega (arith, leb-true (d - now) last_delay f))))

pub due-free : (now : ℕ) (x : Place) → ((d : ℕ) → x ≡ Delayed d → ⊥) → due_good now x ≡ true
unfolding due_good
due-free now Running n = refl
due-free now Ready n = refl
due-free now (Delayed d) n = absurd (n d refl)
due-free now Suspended n = refl
due-free now Ended n = refl

-- "and" of several, taken apart and made
four-each : (a b c d : Bool) → (a && b && c && d) ≡ true → (a ≡ true) × (b ≡ true) × (c ≡ true) × (d ≡ true)
four-each a b c d e =
    let abc = and_left (a && b && c) d e in
    let ab = and_left (a && b) c abc in
    (and_left a b ab, and_right a b ab, and_right (a && b) c abc, and_right (a && b && c) d e)

five-each : (a b c d e : Bool) → (a && b && c && d && e) ≡ true → (a ≡ true) × (b ≡ true) × (c ≡ true) × (d ≡ true) × (e ≡ true)
five-each a b c d e h =
    let x = four-each a b c d (and_left (a && b && c && d) e h) in
    (x.0, x.1, x.2, x.3, and_right (a && b && c && d) e h)

six-each : (a b c d e f : Bool) → (a && b && c && d && e && f) ≡ true →
    (a ≡ true) × (b ≡ true) × (c ≡ true) × (d ≡ true) × (e ≡ true) × (f ≡ true)
six-each a b c d e f h =
    let x = five-each a b c d e (and_left (a && b && c && d && e) f h) in
    (x.0, x.1, x.2, x.3, x.4, and_right (a && b && c && d && e) f h)

eight-each : (a b c d e f g h : Bool) → (a && b && c && d && e && f && g && h) ≡ true →
    (a ≡ true) × (b ≡ true) × (c ≡ true) × (d ≡ true) × (e ≡ true) × (f ≡ true) × (g ≡ true) × (h ≡ true)
eight-each a b c d e f g h i =
    let seven = and_left (a && b && c && d && e && f && g) h i in
    let x = six-each a b c d e f (and_left (a && b && c && d && e && f) g seven) in
    (x.0, x.1, x.2, x.3, x.4, x.5, and_right (a && b && c && d && e && f) g seven, and_right (a && b && c && d && e && f && g) h i)

-- the active priority of no task is 0, and a number that has one is a task's
pub active-none : (m : Model) (t : ℕ) → length m.tasks ≤ t → active m t ≡ 0
unfolding highest_of
active-none m t h =
    ap (λ (k : TaskRecord). highest_of m.ceilings k.base k.held) (get_or-eq_default m.tasks blank {n = t} h)

pub active-few : (m : Model) (t p : ℕ) → 1 ≤ p → active m t ≡ p → t < length m.tasks
active-few m t p h e = compare (length m.tasks) t (λ g. absurd (omega (arith, e, active-none m t g))) (λ g. g)

-- the clauses of a Model that passes the one test, and the other
module _ (m : Model) where
  active-task : (t : ℕ) → 0 < active m t → not (no_task m t) ≡ true
  active-task t h =
      let few : t < length m.tasks =
      compare (length m.tasks) t (λ g. absurd (omega (arith, h, active-none m t g))) (λ g. g) in
      ap not (lt-leb (length m.tasks) t few)

  at-task : (below (length m.tasks) (task_sound m) ≡ true) → (t : ℕ) → t < length m.tasks →
      (record_good m (task_at m t) ≡ true) × (in_one_place m t ≡ true) × (due_good m.now (task_at m t).place ≡ true) ×
      (held_good_at m (task_at m t) ≡ true) × (holder_here (task_at m t) ≡ true) × (waits_inside (task_at m t) ≡ true)
  unfolding task_sound
  at-task e t h =
      six-each (record_good m (task_at m t)) (in_one_place m t) (due_good m.now (task_at m t).place) (held_good_at m (task_at m t))
      (holder_here (task_at m t)) (waits_inside (task_at m t)) (below_at (length m.tasks) (task_sound m) e t h)

  at-queue : (each_priority (queue_sound m) ≡ true) → (p : ℕ) → p < last_priority →
      (all_of (λ t. not (no_task m t)) (queue m (suc p)) ≡ true) × (all_of (λ t. eqb (active m t) (suc p)) (queue m (suc p)) ≡ true)
  unfolding queue_sound
  at-queue e p h =
      let own = below_at last_priority (λ q. queue_sound m (suc q)) e p h in
      let level : (u : ℕ) → 0 < times_in u (queue m (suc p)) → active m u ≡ suc p = λ u g.
      eqb-true (active m u) (suc p) (all-at (λ t. eqb (active m t) (suc p)) (queue m (suc p)) own u g) in
      (all-make (λ t. not (no_task m t)) (queue m (suc p)) (λ u g. active-task u (omega (arith, level u g))), own)

  tested-sound : tested m ≡ true → sound m ≡ true
  unfolding tested sound numbers_good one_place own_queue due_ahead held_good holders_here waiting_inside
  tested-sound e =
      let x = five-each (sizes_good m) (runner_good m m.running) (highest_runs m m.running)
      (each_priority (queue_sound m)) (below (length m.tasks) (task_sound m)) e in
      let line = at-queue x.3 in
      let task = at-task x.4 in
      let count = length m.tasks in
      let records = below-make count (λ t. record_good m (task_at m t)) (λ t h. (task t h).0) in
      let known = below-make last_priority (λ p. all_of (λ t. not (no_task m t)) (queue m (suc p))) (λ p h. (line p h).0) in
      let own = below-make last_priority (λ p. all_of (λ t. eqb (active m t) (suc p)) (queue m (suc p))) (λ p h. (line p h).1) in
      let places = below-make count (in_one_place m) (λ t h. (task t h).1) in
      let dues = below-make count (λ t. due_good m.now (task_at m t).place) (λ t h. (task t h).2) in
      let lists = below-make count (λ t. held_good_at m (task_at m t)) (λ t h. (task t h).3) in
      let holders = below-make count (λ t. holder_here (task_at m t)) (λ t h. (task t h).4) in
      let waits = below-make count (λ t. waits_inside (task_at m t)) (λ t h. (task t h).5) in
      rw (x.0, records, x.1, known, places, own, dues, x.2, lists, holders, waits)

  sound-tested : sound m ≡ true → tested m ≡ true
  unfolding tested sound numbers_good one_place own_queue due_ahead held_good holders_here waiting_inside task_sound queue_sound
  sound-tested e =
      let x = eight-each (numbers_good m) (one_place m) (own_queue m) (due_ahead m) (highest_runs m m.running) (held_good m)
      (holders_here m) (waiting_inside m) e in
      let count = length m.tasks in
      let known = each_priority (λ p. all_of (λ t. not (no_task m t)) (queue m p)) in
      let y = four-each (sizes_good m) (each_task m (record_good m)) (runner_good m m.running) known x.0 in
      let tasks = below-make count (task_sound m) (λ t h.
      rw (
        below_at count (λ t. record_good m (task_at m t)) y.1 t h,
        below_at count (in_one_place m) x.1 t h,
        below_at count (λ t. due_good m.now (task_at m t).place) x.3 t h,
        below_at count (λ t. held_good_at m (task_at m t)) x.5 t h,
        below_at count (λ t. holder_here (task_at m t)) x.6 t h,
        below_at count (λ t. waits_inside (task_at m t)) x.7 t h,
      )) in
      let lines = below-make last_priority (λ p. queue_sound m (suc p))
      (below_at last_priority (λ p. all_of (λ t. eqb (active m t) (suc p)) (queue m (suc p))) x.2) in
      rw (y.0, y.2, x.4, lines, tasks)

pub tested-is : (m : Model) → tested m ≡ sound m
tested-is m = same_test (tested m) (sound m) (tested-sound m) (sound-tested m)
