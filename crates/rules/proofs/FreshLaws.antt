-- The fresh start is sound and keeps the ceiling order, for every count, base and ceiling in range; so is the state beside a refused one.
use mathlib.Core.Path.{◌≡◌, refl, ap, ◌∙◌, sym, subst}
use mathlib.Core.Bool.{true, false, cond, not}
use mathlib.Core.List.{List, [], ◌∷◌}
use Prim.Native.Nat.{ℕ, zero, suc, ◌+◌, ◌≤◌, ◌<◌}
use native.Mathlib.Nat.{not-suc-le-zero}
use native.Mathlib.Omega.{arith}
use borrow.Author.Tests.{not-false}
use lib.ListN.{length, get_or, drop, replicate, length-set, length-replicate}
use Rattle.std.specs.Prelude.{Ok, Err}
use Rattle.rules.specs.Limits.{task_limit, last_priority}
use Rattle.rules.specs.Priorities.{in_range}
use Rattle.rules.specs.Model.{Model, TaskRecord, blank, with_place, task_at}
use Rattle.rules.specs.Moves.{become_ready}
use Rattle.rules.specs.Fresh.{Begun, Setup, new_task, new_tasks, unstarted, join_from, fresh_model, single_task, refused_fresh}
use Rattle.rules.specs.Fresh.{setup_counted, setup_in_range, fresh, Startable}
use Rattle.rules.specs.Sound.{runs, is_ready, is_running, due_good, sound}
use Rattle.rules.specs.declared.Place.TheVariants.{Ready}
use Rattle.rules.specs.declared.Refusal.TheVariants.{BadCounts, BadBases}
use Rattle.rules.specs.Lists.{all_of, times_in}
use Rattle.rules.proofs.LimitLaws.{counted-by}
use Rattle.rules.proofs.Choices.{split, both_ways, cond-true, cond-false, and_left, and_right}
use Rattle.rules.proofs.PriorityLaws.{in_bounds}
use Rattle.rules.proofs.Counts.{queued-empty}
use Rattle.rules.proofs.TaskLaws.{entry, ready, running, depth, at_same, at_other}
use Rattle.rules.proofs.Core.{Core, core-wake, core-ready}
use Rattle.rules.proofs.DispatchLaws.{unplaced, upright, alike-dispatch}
use Rattle.rules.proofs.Pending.{Fair, Pending, Good, fair-bare}
use Rattle.rules.proofs.Kept.{good-dispatch}
use Rattle.rules.proofs.Soundness.{ceilings-high, good-sound}

-- the tasks before they join
pub new-length : (bs : List ℕ) → length (new_tasks bs) ≡ length bs
unfolding new_tasks
new-length [] = refl
new-length (b ∷ bs) = ap suc (new-length bs)

pub new-at : (bs : List ℕ) (u : ℕ) → u < length bs → entry (new_tasks bs) u ≡ new_task (get_or bs u 0)
unfolding new_tasks
new-at [] u h = absurd (not-suc-le-zero h)
new-at (b ∷ bs) zero h = refl
new-at (b ∷ bs) (suc u) h = new-at bs u (omega arith)

-- none of them is anywhere yet
new-off : (bs : List ℕ) (u : ℕ) →
    (ready (entry (new_tasks bs) u) ≡ 0) × (running (entry (new_tasks bs) u) ≡ 0) × (depth (entry (new_tasks bs) u) ≡ 0)
unfolding new_tasks is_ready is_running
new-off [] u = (refl, refl, refl)
new-off (b ∷ bs) zero = (refl, refl, refl)
new-off (b ∷ bs) (suc u) = new-off bs u

in-range-at : (bs : List ℕ) → all_of in_range bs ≡ true → (u : ℕ) → u < length bs → in_range (get_or bs u 0) ≡ true
unfolding all_of
in-range-at [] e u h = absurd (not-suc-le-zero h)
in-range-at (b ∷ bs) e zero h = and_left (in_range b) (all_of in_range bs) e
in-range-at (b ∷ bs) e (suc u) h = in-range-at bs (and_right (in_range b) (all_of in_range bs) e) u (omega arith)

no-queue : (n p : ℕ) → get_or {A = List ℕ} (replicate n []) p [] ≡ []
no-queue zero p = refl
no-queue (suc n) zero = refl
no-queue (suc n) (suc p) = no-queue n p

module _ (s : Setup) (ok : Startable s) where
  no_row : (p u : ℕ) → 0 < times_in u (get_or (replicate last_priority []) p []) → ⊥
  unfolding times_in
  no_row p u g = not-suc-le-zero (subst (λ (l : List ℕ). 0 < times_in u l) (no-queue last_priority p) g)

  no-behind : (p u : ℕ) → 0 < times_in u (drop 1 (get_or (replicate last_priority []) p [])) → ⊥
  unfolding times_in
  no-behind p u g = not-suc-le-zero (subst (λ (l : List ℕ). 0 < times_in u (drop 1 l)) (no-queue last_priority p) g)

  base-in : (u : ℕ) → u < length (new_tasks s.bases) → in_range (entry (new_tasks s.bases) u).base ≡ true
  base-in u h =
      let l : u < length s.bases = omega (arith, h, new-length s.bases) in
      ap (λ (k : TaskRecord). in_range k.base) (new-at s.bases u l) ∙ in-range-at s.bases ok.bases u l

  core-new : Core true (unstarted s) task_limit
  unfolding runs
  core-new = record {
    stand = record {
      runner = λ u n. sym (new-off s.bases u).1;
      queueing = λ u n. queued-empty u last_priority ∙ sym (new-off s.bases u).0;
      idle = refl;
      unqueued = queued-empty task_limit last_priority;
      empty = (new-off s.bases task_limit).2;
      level = λ p u g. absurd (no_row p u g);
      present = λ u g. absurd (omega (arith, g, (new-off s.bases u).2));
      heads = λ on p u g. absurd (no-behind p u g);
      above = λ on t u g. absurd (not-suc-le-zero g);
      apart = λ on t u n g. absurd (omega (arith, g, (new-off s.bases t).2));
    };
    count = omega (arith, ok.count, new-length s.bases);
    queues = length-replicate {A = List ℕ} last_priority [];
    ceils = ceilings-high s.ceilings ok.ceilings;
    low = λ u h. (in_bounds _ (base-in u h)).0;
    high = λ u h. (in_bounds _ (base-in u h)).1;
  }

  -- the tasks below i have joined
  pub record Joined (i : ℕ) (m : Model) : Type 0 where
    pub core : Core true m task_limit
    pub now : m.now ≡ 0
    pub objects : m.ceilings ≡ s.ceilings
    pub size : length m.tasks ≡ length s.bases
    pub done : (u : ℕ) → u < i → task_at m u ≡ with_place (new_task (get_or s.bases u 0)) Ready
    pub left : (u : ℕ) → i ≤ u → task_at m u ≡ entry (new_tasks s.bases) u

  -- the next one is on its way
  pub join-core : (i : ℕ) (m : Model) → Joined i m → Core true m i
  join-core i m a =
      let is : task_at m i ≡ entry (new_tasks s.bases) i = a.left i (omega arith) in
      core-wake m a.core i (omega (arith, ap ready is, ap running is, (new-off s.bases i).0, (new-off s.bases i).1))

  pub join_one : (i : ℕ) (m : Model) → i < length s.bases → Joined i m → Joined (suc i) (become_ready m i)
  unfolding become_ready
  join_one i m h a =
      let is : task_at m i ≡ entry (new_tasks s.bases) i = a.left i (omega arith) in
      let k : TaskRecord = with_place (task_at m i) Ready in
      let l : i < length m.tasks = omega (arith, a.size) in
      record {
        core = core-ready m i (join-core i m a) l;
        now = a.now;
        objects = a.objects;
        size = length-set m.tasks i k ∙ a.size;
        done = λ u g. split u i
            (λ e. at_same (λ (v : TaskRecord). v) blank m.tasks i k u e l ∙ ap (λ (v : TaskRecord). with_place v Ready)
            (is ∙ new-at s.bases i h) ∙
            ap (λ (v : ℕ). with_place (new_task (get_or s.bases v 0)) Ready) (sym e))
            (λ n. at_other (λ (v : TaskRecord). v) blank m.tasks i k u n ∙ a.done u (omega (arith, n)));
        left = λ u g. at_other (λ (v : TaskRecord). v) blank m.tasks i k u (λ e. omega arith) ∙ a.left u (omega arith);
      }

  join-all : (n i : ℕ) (m : Model) → i + n ≡ length s.bases → Joined i m → Joined (length s.bases) (join_from i n m)
  unfolding join_from
  join-all zero i m h a = let e : i ≡ length s.bases = omega arith in subst (λ (v : ℕ). Joined v m) e a
  join-all (suc n) i m h a = join-all n (suc i) (become_ready m i) (omega arith) (join_one i m (omega arith) a)

  pub joined-none : Joined 0 (unstarted s)
  joined-none = record {
    core = core-new;
    now = refl;
    objects = refl;
    size = new-length s.bases;
    done = λ u g. absurd (not-suc-le-zero g);
    left = λ u g. refl;
  }

  pub joined : Joined (length s.bases) (join_from 0 (length s.bases) (unstarted s))
  joined = join-all (length s.bases) 0 (unstarted s) (omega arith) joined-none

  -- the Model whose dispatch is the fresh one
  pub joined-pending : Pending true (join_from 0 (length s.bases) (unstarted s))
  unfolding due_good
  joined-pending = record {
    core = joined.core;
    sizes = record {
      some = omega (arith, ok.some, joined.size);
      objects = omega (arith, ok.objects, ap length joined.objects);
      reading = omega (arith, joined.now);
      ceilings = ap (all_of in_range) joined.objects ∙ ok.ceilings;
    };
    fair = λ u h. subst (Fair m.ceilings m.now) (sym (joined.done u (omega (arith, h, joined.size))))
        (fair-bare m.ceilings m.now (with_place (new_task (get_or s.bases u 0)) Ready) refl refl refl);
  }
    where
      m : Model
      m = join_from 0 (length s.bases) (unstarted s)

  -- sound, in ceiling order, and each task as document 01 says
  pub fresh-good : Good true (fresh_model s)
  unfolding fresh_model
  fresh-good = good-dispatch (join_from 0 (length s.bases) (unstarted s)) joined-pending

  -- what is fresh: now 0, the ceilings given, and each task at its base, ready or running, with no permit, holding nothing
  pub fresh-now : (fresh_model s).now ≡ 0
  unfolding fresh_model
  fresh-now = (alike-dispatch _ joined.core).now ∙ joined.now

  pub fresh-ceilings : (fresh_model s).ceilings ≡ s.ceilings
  unfolding fresh_model
  fresh-ceilings = (alike-dispatch _ joined.core).ceilings ∙ joined.objects

  pub fresh-count : length (fresh_model s).tasks ≡ length s.bases
  unfolding fresh_model
  fresh-count = (alike-dispatch _ joined.core).count ∙ joined.size

  pub fresh-task : (u : ℕ) → u < length s.bases → unplaced (task_at (fresh_model s) u) ≡ with_place (new_task (get_or s.bases u 0)) Ready
  unfolding fresh_model upright
  fresh-task u h = (alike-dispatch _ joined.core).each u ∙ ap unplaced (joined.done u h)

-- the three ways of a fresh start
module _ (s : Setup) where
  -- with counts in range, with bases and ceilings in range too
  counted : Begun
  counted =
      cond (not (setup_in_range s)) (record { answer = Err BadBases; model = refused_fresh })
      (record { answer = Ok tt; model = fresh_model s })

  pub fresh-13 : setup_counted s ≡ false → fresh s ≡ record { answer = Err BadCounts; model = refused_fresh }
  unfolding fresh counted
  fresh-13 e = cond-true (not (setup_counted s)) (record { answer = Err BadCounts; model = refused_fresh }) counted (ap not e)

  on-counts : setup_counted s ≡ true → fresh s ≡ counted
  unfolding fresh counted
  on-counts e = cond-false (not (setup_counted s)) (record { answer = Err BadCounts; model = refused_fresh }) counted (ap not e)

  pub fresh-15 : setup_counted s ≡ true → setup_in_range s ≡ false → fresh s ≡ record { answer = Err BadBases; model = refused_fresh }
  unfolding counted
  fresh-15 e f = on-counts e ∙ cond-true (not (setup_in_range s)) _ (record { answer = Ok tt; model = fresh_model s }) (ap not f)

  pub fresh-0 : setup_counted s ≡ true → setup_in_range s ≡ true → fresh s ≡ record { answer = Ok tt; model = fresh_model s }
  unfolding counted
  fresh-0 e f = on-counts e ∙ cond-false (not (setup_in_range s)) (record { answer = Err BadBases; model = refused_fresh }) _ (ap not f)

  -- the tests said apart
  pub startable-by : setup_counted s ≡ true → setup_in_range s ≡ true → Startable s
  startable-by e f =
      let bs = s.bases in
      let cs = s.ceilings in
      let counted = counted-by (length bs) (length cs) e in
      record {
        some = counted.some;
        count = counted.tasks;
        objects = counted.objects;
        bases = and_left (all_of in_range bs) (all_of in_range cs) f;
        ceilings = and_right (all_of in_range bs) (all_of in_range cs) f;
      }

-- in every one of them the Model is sound and in ceiling order
pub refused-good : Good true refused_fresh
unfolding refused_fresh all_of
refused-good = fresh-good single_task (startable-by single_task refl refl)

pub start-good : (s : Setup) → Good true (fresh s).model
unfolding fresh
start-good s =
    both_ways (λ (r : Begun). Good true r.model) (not (setup_counted s)) _ _ (λ e. refused-good)
    (λ e. both_ways (λ (r : Begun). Good true r.model) (not (setup_in_range s)) _ _ (λ f. refused-good)
    (λ f. fresh-good s (startable-by s (not-false _ e) (not-false _ f))))

pub fresh-sound : (s : Setup) → sound (fresh s).model ≡ true
fresh-sound s = good-sound (fresh s).model (start-good s)
