-- What no event changes, shown once over what it is: events replace task records, ready queues, the running task and now, which becomes
-- a reading that is taken, and nothing else. So no event changes the ceilings or the number of tasks, and now makes no leap.
use mathlib.Core.Path.{◌≡◌, refl, ◌∙◌}
use mathlib.Core.Bool.{false}
use mathlib.Core.List.{List}
use Prim.Native.Nat.{ℕ, zero, suc, ◌+◌, ◌≤◌}
use native.Mathlib.Omega.{arith}
use lib.Dec.{eqb, leb}
use lib.ListN.{length, length-set}
use Rattle.std.specs.Prelude.{None, Option, Some, ℕ}
use Rattle.rules.specs.Limits.{longest_advance}
use Rattle.rules.specs.Model.{Model, TaskRecord, with_running, with_ready, with_now, task_at, with_task, with_queue}
use Rattle.rules.specs.Model.{queue, active}
use Rattle.rules.specs.Moves.{stopped, become_ready, preempt, start, highest, dispatch_by, dispatch}
use Rattle.rules.specs.Moved.{Moved, accepted}
use Rattle.rules.specs.Events.{inside, give_up, settle_with, settle, put_off, rest, release_from, Due, nobody, task}
use Rattle.rules.specs.Events.{first_due, wake, wake_up, bad_reading, requeue, rebase, end, apply}
use Rattle.rules.specs.Effect.{for_runner, effect}
use Rattle.rules.specs.Refusals.{bad_clock, table, applies_at}
use Rattle.rules.specs.Histories.{NoLeapClaim}
use Rattle.rules.specs.declared.Place.{Place}
use Rattle.rules.specs.declared.Place.TheVariants.{Running, Ready, Delayed, Suspended, Ended}
use Rattle.rules.specs.declared.Event.{Event}
use Rattle.rules.specs.declared.Event.TheVariants.{Enter, Leave, Delay, Suspend, Release, Clock, Set, Work, Finish}
use Rattle.rules.specs.Lists.{without}
use Rattle.rules.proofs.Choices.{both_ways}
use Rattle.rules.proofs.Readings.{reading-early, reading-near}
use Rattle.rules.proofs.Refusals.{each-done}

module _ (P : Model → Type 0)
    (put : (m : Model) (t : ℕ) (k : TaskRecord) → P m → P (with_task m t k))
    (line : (m : Model) (qs : List (List ℕ)) → P m → P (with_ready m qs))
    (run : (m : Model) (w : Option ℕ) → P m → P (with_running m w)) where
  pub on-ready : (m : Model) (t : ℕ) → P m → P (become_ready m t)
  unfolding become_ready
  on-ready m t h = put (with_queue m (active m t) _) t _ (line m _ h)

  on-stopped : (m : Model) → P m → P (stopped m)
  unfolding stopped
  on-stopped m h = run m None h

  on-start : (m : Model) (p : ℕ) → P m → P (start m p)
  unfolding start
  on-start m p h = run _ _ (put (with_queue m p _) _ _ (line m _ h))

  on-preempt : (m : Model) (t : ℕ) → P m → P (preempt m t)
  unfolding preempt stopped
  on-preempt m t h = put (with_queue (stopped m) (active m t) _) t _ (line (stopped m) _ (run m None h))

  pub on-dispatch : (m : Model) → P m → P (dispatch m)
  unfolding dispatch dispatch_by
  on-dispatch m h = go m.running
    where
      go : (w : Option ℕ) → P (dispatch_by m w)
      go None = both_ways P (eqb (highest m) 0) m _ (λ e. h) (λ e. on-start m (highest m) h)
      go (Some t) =
          both_ways P (leb (highest m) (active m t)) m _ (λ e. h) (λ e. on-start (preempt m t) (highest m) (on-preempt m t h))

  on-settle : (m : Model) (t : ℕ) → P m → P (settle m t)
  unfolding settle settle_with
  on-settle m t h = both_ways P (inside (task_at m t)) m _ (λ e. h) (λ e. go (task_at m t).waiting)
    where
      go : (w : Option ℕ) → P (settle_with m t w)
      go None = h
      go (Some p) = on-ready _ t (on-stopped _ (put m t _ h))

  on-wake : (m : Model) (x : Due) → P m → P (wake m x)
  unfolding wake
  on-wake m nobody h = h
  on-wake m (task t d) h = on-ready m t h

  on-wakes : (r k : ℕ) (m : Model) → P m → P (wake_up r k m)
  unfolding wake_up
  on-wakes r zero m h = h
  on-wakes r (suc k) m h = on-wakes r k (wake m (first_due r nobody 0 m.tasks)) (on-wake m (first_due r nobody 0 m.tasks) h)

  on-release : (m : Model) (t : ℕ) (x : Place) → P m → P (release_from m t x)
  unfolding release_from
  on-release m t Running h = put m t _ h
  on-release m t Ready h = put m t _ h
  on-release m t (Delayed d) h = put m t _ h
  on-release m t Suspended h = on-ready m t h
  on-release m t Ended h = put m t _ h

  on-requeue : (m : Model) (t p : ℕ) (x : Place) → P m → P (requeue m t p x)
  unfolding requeue
  on-requeue m t p Running h = on-ready (stopped m) t (on-stopped m h)
  on-requeue m t p Ready h = on-ready (with_queue m p (without t (queue m p))) t (line m _ h)
  on-requeue m t p (Delayed d) h = h
  on-requeue m t p Suspended h = h
  on-requeue m t p Ended h = h

  on-rebase : (m : Model) (t p : ℕ) → P m → P (rebase m t p)
  unfolding rebase
  on-rebase m t p h =
      both_ways P (inside (task_at m t)) _ _ (λ e. put m t _ h)
      (λ e. on-requeue _ t (active m t) (task_at m t).place (put m t _ h))

  on-put : (m : Model) (t d : ℕ) → P m → P (put_off m t d)
  unfolding put_off
  on-put m t d h = both_ways P (eqb d 0) _ _ (λ e. on-ready m t h) (λ e. put m t _ h)

  on-rest : (m : Model) (t : ℕ) → P m → P (rest m t)
  unfolding rest stopped
  on-rest m t h = both_ways P (task_at m t).permit _ _ (λ e. put m t _ h) (λ e. put (stopped m) t _ (run m None h))

  on-end : (m : Model) (t : ℕ) → P m → P (end m t)
  unfolding stopped
  on-end m t h = put (stopped m) t _ (run m None h)

  on-runner : (m : Model) (w : Option ℕ) (f : ℕ → Model) → P m → ((t : ℕ) → P (f t)) → P (for_runner m w f)
  unfolding for_runner
  on-runner m None f h g = h
  on-runner m (Some t) f h g = g t

  -- up to the dispatch of any event; `read` is for a Clock
  pub on_effect : (m : Model) (e : Event) → P m → ((r : ℕ) → bad_reading m.now r ≡ false → P (with_now m r)) →
      bad_clock m e ≡ false → P (effect m e)
  unfolding effect bad_clock
  on_effect m (Enter o) h read z = on-runner m m.running _ h (λ t. put m t _ h)
  on_effect m (Leave o) h read z = on-runner m m.running _ h (λ t. on-settle (give_up m t) t (put m t _ h))
  on_effect m (Delay d) h read z = on-runner m m.running _ h (λ t. on-put (stopped m) t d (on-stopped m h))
  on_effect m Suspend h read z = on-runner m m.running _ h (λ t. on-rest m t h)
  on_effect m (Release t) h read z = on-release m t (task_at m t).place h
  on_effect m (Clock r) h read z = on-wakes r (length m.tasks) (with_now m r) (read r z)
  on_effect m (Set t p) h read z = on-rebase m t p.0 h
  on_effect m Work h read z = h
  on_effect m Finish h read z = on-runner m m.running _ h (λ t. on-end m t h)

  -- every event, refused ones too; row 4 does not apply to an accepted one
  pub on-apply : (m : Model) (e : Event) → P m → ((r : ℕ) → bad_reading m.now r ≡ false → P (with_now m r)) → P (apply m e).model
  unfolding accepted applies_at table
  on-apply m e h read =
      each-done (λ (r : Moved). P r.model) m e (λ a. h) (λ none. on-dispatch (effect m e) (on_effect m e h read (none 3)))

pub ceilings-kept : (m : Model) (e : Event) → (apply m e).model.ceilings ≡ m.ceilings
ceilings-kept m e =
    on-apply (λ (n : Model). n.ceilings ≡ m.ceilings) (λ n t k h. h) (λ n qs h. h) (λ n w h. h) m e refl (λ r z. refl)

pub count_kept : (m : Model) (e : Event) → length (apply m e).model.tasks ≡ length m.tasks
count_kept m e =
    on-apply (λ (n : Model). length n.tasks ≡ length m.tasks) (λ n t k h. length-set n.tasks t k ∙ h) (λ n qs h. h)
    (λ n w h. h) m e refl (λ r z. refl)

pub no-leap : NoLeapClaim
no-leap m e =
    on-apply (λ (n : Model). (m.now ≤ n.now) × (n.now ≤ m.now + longest_advance)) (λ n t k h. h) (λ n qs h. h) (λ n w h. h) m e
    (omega arith, omega arith) (λ r z. (reading-early m.now r z, reading-near m.now r z))
