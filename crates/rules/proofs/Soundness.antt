-- Every accepted event of a sound Model gives a sound Model, whose running task is one of the highest active priority.
use mathlib.Core.Path.{◌≡◌, refl, ap, ◌∙◌, sym, subst}
use mathlib.Core.Bool.{Bool, true, false, not}
use mathlib.Core.List.{List, [], ◌∷◌}
use Prim.Native.Nat.{ℕ, zero, suc, ◌≤◌, ◌<◌}
use native.Mathlib.Omega.{arith}
use borrow.Author.Tests.{leb-false, lt-leb, not-true}
use lib.ListN.{length, get_or, get_or-eq_default}
use Rattle.std.specs.Prelude.{None, Option, Some, ℕ}
use Rattle.rules.specs.Limits.{task_limit, last_priority}
use Rattle.rules.specs.Priorities.{in_range}
use Rattle.rules.specs.Model.{Model, task_at, queue, ceiling_of, active}
use Rattle.rules.specs.Events.{apply}
use Rattle.rules.specs.Sound.{runs, queued, is_running, is_ready, sound}
use Rattle.rules.specs.declared.Event.{Event}
use Rattle.rules.specs.Lists.{all_of, times_in}
use Rattle.rules.specs.Histories.{delay_fits, KeptClaim}
use Rattle.rules.specs.Clauses.{Numbers, Sound}
use Rattle.rules.proofs.Choices.{compare, and_left, and_right}
use Rattle.rules.proofs.PriorityLaws.{in_bounds, bounds-in}
use Rattle.rules.proofs.Counts.{times_none, queued-at, queued-none}
use Rattle.rules.proofs.TaskLaws.{ready, running, depth, runs-apart, runs-is, runs-named, out_of}
use Rattle.rules.proofs.Standing.{all_runs, all-queueing}
use Rattle.rules.proofs.Core.{Core, Top, runner-in}
use Rattle.rules.proofs.Room.{queue-most}
use Rattle.rules.proofs.HeldLaws.{all-at, all-make, distinct-once, once-distinct, held-most}
use Rattle.rules.proofs.Pending.{listed, Fair, Good}
use Rattle.rules.proofs.Kept.{keep}
use Rattle.rules.proofs.SoundLaws.{sound-is, sound-make, one_less, waiting-is, waiting-make}
use Rattle.rules.proofs.SoundLaws.{due-is, due-make, rising-is, rising-make}

-- all ceilings in range: none above the last priority
pub ceilings-high : (cs : List ℕ) → all_of in_range cs ≡ true → (o : ℕ) → ceiling_of cs o ≤ last_priority
unfolding all_of
ceilings-high [] e o = omega arith
ceilings-high (c ∷ cs) e zero = (in_bounds c (and_left (in_range c) (all_of in_range cs) e)).1
ceilings-high (c ∷ cs) e (suc o) = ceilings-high cs (and_right (in_range c) (all_of in_range cs) e) o

-- a sound Model is good
module _ (m : Model) (s : Sound m) where
  k : Numbers m
  k = s.numbers

  out-runs : (w : Option ℕ) (u : ℕ) → m.running ≡ w → length m.tasks ≤ u → runs w u ≡ 0
  unfolding runs
  out-runs None u e g = refl
  out-runs (Some t) u e g = runs-apart t u (λ i. omega (arith, g, i, k.runner t e))

  runners : (u : ℕ) → runs m.running u ≡ running (task_at m u)
  unfolding is_running
  runners u =
      compare (length m.tasks) u (λ g. out-runs m.running u refl g ∙ sym (out_of running m.tasks u g)) (λ g. (s.placed u g).0)

  -- a row of the ready queues, by its index
  row_in : (p t : ℕ) → p < last_priority → 0 < times_in t (get_or m.ready p []) → t < length m.tasks
  row_in p t l h = k.queued p t l (subst (λ (v : ℕ). 0 < times_in t (get_or m.ready v [])) (sym (one_less p)) h)

  queueing : (u : ℕ) → queued m.ready u ≡ ready (task_at m u)
  unfolding is_ready
  queueing u =
      compare (length m.tasks) u
      (λ g. queued-none m.ready u (λ p l. none p (omega (arith, l, k.queues)) g) ∙ sym (out_of ready m.tasks u g))
      (λ g. (s.placed u g).1)
    where
      none : (p : ℕ) → p < last_priority → length m.tasks ≤ u → times_in u (get_or m.ready p []) ≡ 0
      none p l g =
          compare 1 (times_in u (get_or m.ready p [])) (λ i. absurd (omega (arith, g, row_in p u l i))) (λ i. omega arith)

  level : (p u : ℕ) → 0 < times_in u (get_or m.ready p []) → active m u ≡ suc p
  level p u h =
      compare last_priority p
      (λ i. absurd (omega (
        arith,
        h,
        times_none u (get_or m.ready p [])
            (ap (λ (l : List ℕ). length l) (get_or-eq_default m.ready [] {n = p} (omega (arith, k.queues)))),
      )))
      (λ i. s.level p u i (subst (λ (v : ℕ). 0 < times_in u (get_or m.ready v [])) (sym (one_less p)) h))

  holder_in : (u : ℕ) → 0 < depth (task_at m u) → u < length m.tasks
  holder_in u h = compare (length m.tasks) u (λ i. absurd (omega (arith, h, out_of depth m.tasks u i))) (λ i. i)

  ceilings : all_of in_range m.ceilings ≡ true
  ceilings = all-make in_range m.ceilings k.ceiling

  core : Core false m task_limit
  unfolding is_running is_ready
  core = record {
    stand = record {
      runner = λ u n. runners u;
      queueing = λ u n. queueing u;
      idle = runners task_limit ∙ out_of running m.tasks task_limit k.count;
      unqueued = queueing task_limit ∙ out_of ready m.tasks task_limit k.count;
      empty = out_of depth m.tasks task_limit k.count;
      level = level;
      present = λ u h. s.present u (holder_in u h) h;
      heads = λ z. absurd (let y : ◌≡◌ {A = ℕ} 0 1 = cc in omega arith);
      above = λ z. absurd (let y : ◌≡◌ {A = ℕ} 0 1 = cc in omega arith);
      apart = λ z. absurd (let y : ◌≡◌ {A = ℕ} 0 1 = cc in omega arith);
    };
    count = k.count;
    queues = k.queues;
    ceils = ceilings-high m.ceilings ceilings;
    low = λ u h. (in_bounds _ (k.base u h)).0;
    high = λ u h. (in_bounds _ (k.base u h)).1;
  }

  fair : (u : ℕ) → u < length m.tasks → Fair m.ceilings m.now (task_at m u)
  fair u h = record {
    waiting = waiting-make (task_at m u).waiting (λ p q. k.waiting u p h q);
    listing = all-make (listed m.ceilings) (task_at m u).held (λ o g. ap not (lt-leb (length m.ceilings) o (k.held u o h g)));
    once = once-distinct (task_at m u).held (λ o. s.once u o h);
    rises = rising-make m.ceilings (task_at m u).base (task_at m u).held (λ i g. s.rises u i h g);
    calm = s.calm u h;
    due = due-make m.now (task_at m u).place (λ d q. s.due u d h q);
  }

  pub good_of : Good false m
  good_of = record {
    pending = record {
      core = core;
      sizes = record { some = k.some; objects = k.objects; reading = k.reading; ceilings = ceilings };
      fair = fair;
    };
    top = record { busy = s.busy; most = λ t u r g. s.highest t u (runs-is m.running t r) g };
  }

-- a good Model is sound
module _ {ord : Bool} (m : Model) (g : Good ord m) where
  c : Core ord m task_limit
  c = g.pending.core

  at_row : (p t : ℕ) → 0 < times_in t (queue m (suc p)) → 0 < times_in t (get_or m.ready p [])
  at_row p t h = subst (λ (v : ℕ). 0 < times_in t (get_or m.ready v [])) (one_less p) h

  queued-in : (t : ℕ) → 0 < queued m.ready t → t < length m.tasks
  unfolding is_ready
  queued-in t h =
      compare (length m.tasks) t
      (λ i. absurd (omega (arith, h, all-queueing _ _ _ _ task_limit c.stand c.count t, out_of ready m.tasks t i))) (λ i. i)

  numbers_of : Numbers m
  numbers_of = record {
    some = g.pending.sizes.some;
    count = c.count;
    objects = g.pending.sizes.objects;
    queues = c.queues;
    reading = g.pending.sizes.reading;
    ceiling = all-at in_range m.ceilings g.pending.sizes.ceilings;
    base = λ t h. bounds-in _ (c.low t h) (c.high t h);
    waiting = λ t p h q. waiting-is (task_at m t).waiting (g.pending.fair t h).waiting p q;
    held = λ t o h i.
        leb-false (length m.ceilings) o
        (not-true _ (all-at (listed m.ceilings) (task_at m t).held (g.pending.fair t h).listing o i));
    runner = λ t e. runner-in m c t (runs-named m.running t e);
    queued = λ p t l h. queued-in t (omega (arith, at_row p t h, queued-at m.ready p t));
  }

  pub sound-of : Sound m
  sound-of = record {
    numbers = numbers_of;
    placed = λ t h. (all_runs _ _ _ _ task_limit c.stand c.count t, all-queueing _ _ _ _ task_limit c.stand c.count t);
    level = λ p t l h. c.stand.level p t (at_row p t h);
    due = λ t d h q. due-is m.now (task_at m t).place (g.pending.fair t h).due d q;
    highest = λ t u e h. g.top.most t u (runs-named m.running t e) h;
    busy = g.top.busy;
    once = λ t o h. distinct-once (task_at m t).held (g.pending.fair t h).once o;
    rises = λ t i h. rising-is m.ceilings (task_at m t).base (task_at m t).held (g.pending.fair t h).rises i;
    present = λ t h i. c.stand.present t i;
    calm = λ t h. (g.pending.fair t h).calm;
  }

-- the test and the invariant
pub sound-good : (m : Model) → sound m ≡ true → Good false m
sound-good m e = good_of m (sound-is m e)

pub good-sound : {ord : Bool} (m : Model) → Good ord m → sound m ≡ true
good-sound m g = sound-make m (sound-of m g)

-- every event, accepted or refused, keeps a sound Model sound; a Delay has 16 bits
pub sound-kept : KeptClaim
sound-kept m e f s = good-sound (apply m e).model (keep m e f (sound-good m s))

-- after it somebody runs if anybody is ready, and no ready task has a higher active priority
pub dispatched-top : (m : Model) (e : Event) → delay_fits e ≡ true → sound m ≡ true → Top (apply m e).model
dispatched-top m e f s = (keep m e f (sound-good m s)).top

-- room: no ready queue is longer than the number of tasks, no held list than the number of objects
pub ready-room : (m : Model) → sound m ≡ true → (p : ℕ) → length (get_or m.ready p []) ≤ length m.tasks
ready-room m s p = queue-most m task_limit (sound-good m s).pending.core p

pub held-room-of : (m : Model) → sound m ≡ true → (t : ℕ) → t < length m.tasks → length (task_at m t).held ≤ length m.ceilings
held-room-of m s t h =
    let f = (sound-good m s).pending.fair t h in held-most (length m.ceilings) (task_at m t).held f.listing f.once
