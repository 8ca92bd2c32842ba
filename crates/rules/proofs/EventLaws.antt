-- The ways of each event, in plain variables: which refusal, or what is accepted.
use mathlib.Core.Path.{◌≡◌, ap, ◌∙◌}
use mathlib.Core.Bool.{true, false, cond, not}
use Prim.Native.Nat.{ℕ, ◌+◌}
use lib.Dec.{eqb}
use Rattle.std.specs.Prelude.{None, Option, Some, ℕ}
use Rattle.rules.specs.Priorities.{in_range}
use Rattle.rules.specs.Model.{Model, with_place, with_base, with_waiting, with_permit, task_at, with_task, active}
use Rattle.rules.specs.Moves.{stopped, become_ready}
use Rattle.rules.specs.Moved.{Moved, refused, accepted, refuse_if_nobody}
use Rattle.rules.specs.Events.{no_task, no_object, holds, inside, take_hold, enter, innermost, give_up, settle_with, settle, leave}
use Rattle.rules.specs.Events.{put_off, delay, rest, suspend, release_from, release, clock}
use Rattle.rules.specs.Events.{requeue, rebase, is_ended, set_base, work, finish, bad_reading, over_ceiling, take_reading, end}
use Rattle.rules.specs.declared.Place.TheVariants.{Delayed, Suspended}
use Rattle.rules.specs.declared.Refusal.TheVariants.{NoSuchTask, NoSuchObject, BadPriority, BadReading, NobodyRuns, EndedTask}
use Rattle.rules.specs.declared.Refusal.TheVariants.{InsideAction, AboveCeiling, NotInnermost}
use Rattle.rules.proofs.Choices.{cond-true, cond-false}

-- nobody runs; the task t runs
by-nobody : (m : Model) (f : ℕ → Moved) → m.running ≡ None → refuse_if_nobody m m.running f ≡ refused m NobodyRuns
unfolding refuse_if_nobody
by-nobody m f e = ap (λ (w : Option ℕ). refuse_if_nobody m w f) e

by-task : (m : Model) (f : ℕ → Moved) (t : ℕ) → m.running ≡ Some t → refuse_if_nobody m m.running f ≡ f t
unfolding refuse_if_nobody
by-task m f t e = ap (λ (w : Option ℕ). refuse_if_nobody m w f) e

-- Enter
module _ (m : Model) (o : ℕ) where
  -- what the running task gets, the object being listed
  entering : ℕ → Moved
  entering t =
      cond (holds (task_at m t) o) (refused m InsideAction)
      (cond (over_ceiling m o t) (refused m AboveCeiling) (accepted m.running (take_hold m o t)))

  pub enter-2 : no_object m o ≡ true → enter m o ≡ refused m NoSuchObject
  unfolding enter entering
  enter-2 e = cond-true (no_object m o) (refused m NoSuchObject) (refuse_if_nobody m m.running entering) e

  on-enter : no_object m o ≡ false → enter m o ≡ refuse_if_nobody m m.running entering
  unfolding enter entering
  on-enter e = cond-false (no_object m o) (refused m NoSuchObject) (refuse_if_nobody m m.running entering) e

  pub enter-5 : no_object m o ≡ false → m.running ≡ None → enter m o ≡ refused m NobodyRuns
  enter-5 e w = on-enter e ∙ by-nobody m entering w

  pub enter-7 : (t : ℕ) → no_object m o ≡ false → m.running ≡ Some t → holds (task_at m t) o ≡ true → enter m o ≡ refused m InsideAction
  unfolding entering
  enter-7 t e w h = on-enter e ∙ by-task m entering t w ∙ cond-true (holds (task_at m t) o) (refused m InsideAction) _ h

  pub enter-8 : (t : ℕ) → no_object m o ≡ false → m.running ≡ Some t → holds (task_at m t) o ≡ false →
      over_ceiling m o t ≡ true → enter m o ≡ refused m AboveCeiling
  unfolding entering
  enter-8 t e w h a =
      on-enter e ∙ by-task m entering t w ∙ cond-false (holds (task_at m t) o) (refused m InsideAction) _ h ∙
      cond-true (over_ceiling m o t) (refused m AboveCeiling) _ a

  pub enter-0 : (t : ℕ) → no_object m o ≡ false → m.running ≡ Some t → holds (task_at m t) o ≡ false →
      over_ceiling m o t ≡ false → enter m o ≡ accepted m.running (take_hold m o t)
  unfolding entering
  enter-0 t e w h a =
      on-enter e ∙ by-task m entering t w ∙ cond-false (holds (task_at m t) o) (refused m InsideAction) _ h ∙
      cond-false (over_ceiling m o t) (refused m AboveCeiling) _ a

-- Leave
module _ (m : Model) (o : ℕ) where
  leaving : ℕ → Moved
  leaving t = cond (not (innermost (task_at m t) o)) (refused m NotInnermost) (accepted m.running (settle (give_up m t) t))

  pub leave-2 : no_object m o ≡ true → leave m o ≡ refused m NoSuchObject
  unfolding leave leaving
  leave-2 e = cond-true (no_object m o) (refused m NoSuchObject) (refuse_if_nobody m m.running leaving) e

  on-leave : no_object m o ≡ false → leave m o ≡ refuse_if_nobody m m.running leaving
  unfolding leave leaving
  on-leave e = cond-false (no_object m o) (refused m NoSuchObject) (refuse_if_nobody m m.running leaving) e

  pub leave-5 : no_object m o ≡ false → m.running ≡ None → leave m o ≡ refused m NobodyRuns
  leave-5 e w = on-leave e ∙ by-nobody m leaving w

  pub leave-9 : (t : ℕ) → no_object m o ≡ false → m.running ≡ Some t → innermost (task_at m t) o ≡ false →
      leave m o ≡ refused m NotInnermost
  unfolding leaving
  leave-9 t e w h =
      on-leave e ∙ by-task m leaving t w ∙ cond-true (not (innermost (task_at m t) o)) (refused m NotInnermost) _ (ap not h)

  pub leave-0 : (t : ℕ) → no_object m o ≡ false → m.running ≡ Some t → innermost (task_at m t) o ≡ true →
      leave m o ≡ accepted m.running (settle (give_up m t) t)
  unfolding leaving
  leave-0 t e w h =
      on-leave e ∙ by-task m leaving t w ∙ cond-false (not (innermost (task_at m t) o)) (refused m NotInnermost) _ (ap not h)

-- what becomes due at a Leave: nothing while something is held, or where no base waits
pub settle-inside : (m : Model) (t : ℕ) → inside (task_at m t) ≡ true → settle m t ≡ m
unfolding settle
settle-inside m t e = cond-true (inside (task_at m t)) m _ e

pub settle-none : (m : Model) (t : ℕ) → inside (task_at m t) ≡ false → (task_at m t).waiting ≡ None → settle m t ≡ m
unfolding settle settle_with
settle-none m t e w = cond-false (inside (task_at m t)) m (settle_with m t (task_at m t).waiting) e ∙ ap (settle_with m t) w

pub settle-due : (m : Model) (t p : ℕ) → inside (task_at m t) ≡ false → (task_at m t).waiting ≡ Some p →
    settle m t ≡ become_ready (stopped (with_task m t (with_waiting (with_base (task_at m t) p) None))) t
unfolding settle settle_with
settle-due m t p e w = cond-false (inside (task_at m t)) m (settle_with m t (task_at m t).waiting) e ∙ ap (settle_with m t) w

-- an event of the running task that is refused inside an action, and does x
module _ (m : Model) (x : ℕ → Model) where
  outside : Moved
  outside = refuse_if_nobody m m.running (λ t. cond (inside (task_at m t)) (refused m InsideAction) (accepted m.running (x t)))

  outside-5 : m.running ≡ None → outside ≡ refused m NobodyRuns
  unfolding outside
  outside-5 w = by-nobody m _ w

  outside-7 : (t : ℕ) → m.running ≡ Some t → inside (task_at m t) ≡ true → outside ≡ refused m InsideAction
  unfolding outside
  outside-7 t w h = by-task m _ t w ∙ cond-true (inside (task_at m t)) (refused m InsideAction) (accepted m.running (x t)) h

  outside-0 : (t : ℕ) → m.running ≡ Some t → inside (task_at m t) ≡ false → outside ≡ accepted m.running (x t)
  unfolding outside
  outside-0 t w h = by-task m _ t w ∙ cond-false (inside (task_at m t)) (refused m InsideAction) (accepted m.running (x t)) h

-- Delay
module _ (m : Model) (d : ℕ) where
  pub delay-5 : m.running ≡ None → delay m d ≡ refused m NobodyRuns
  unfolding delay outside
  delay-5 w = outside-5 m (λ t. put_off (stopped m) t d) w

  pub delay-7 : (t : ℕ) → m.running ≡ Some t → inside (task_at m t) ≡ true → delay m d ≡ refused m InsideAction
  unfolding delay outside
  delay-7 t w h = outside-7 m (λ t. put_off (stopped m) t d) t w h

  pub delay-0 : (t : ℕ) → m.running ≡ Some t → inside (task_at m t) ≡ false → delay m d ≡ accepted m.running (put_off (stopped m) t d)
  unfolding delay outside
  delay-0 t w h = outside-0 m (λ t. put_off (stopped m) t d) t w h

pub put-tail : (m : Model) (t d : ℕ) → eqb d 0 ≡ true → put_off m t d ≡ become_ready m t
unfolding put_off
put-tail m t d e = cond-true (eqb d 0) (become_ready m t) _ e

pub put-until : (m : Model) (t d : ℕ) → eqb d 0 ≡ false → put_off m t d ≡ with_task m t (with_place (task_at m t) (Delayed (m.now + d)))
unfolding put_off
put-until m t d e = cond-false (eqb d 0) (become_ready m t) _ e

-- Suspend
module _ (m : Model) where
  pub suspend-5 : m.running ≡ None → suspend m ≡ refused m NobodyRuns
  unfolding suspend outside
  suspend-5 w = outside-5 m (rest m) w

  pub suspend-7 : (t : ℕ) → m.running ≡ Some t → inside (task_at m t) ≡ true → suspend m ≡ refused m InsideAction
  unfolding suspend outside
  suspend-7 t w h = outside-7 m (rest m) t w h

  pub suspend-0 : (t : ℕ) → m.running ≡ Some t → inside (task_at m t) ≡ false → suspend m ≡ accepted m.running (rest m t)
  unfolding suspend outside
  suspend-0 t w h = outside-0 m (rest m) t w h

pub rest-permit : (m : Model) (t : ℕ) → (task_at m t).permit ≡ true → rest m t ≡ with_task m t (with_permit (task_at m t) false)
unfolding rest
rest-permit m t e = cond-true (task_at m t).permit (with_task m t (with_permit (task_at m t) false)) _ e

pub rest-none : (m : Model) (t : ℕ) → (task_at m t).permit ≡ false → rest m t ≡ with_task (stopped m) t (with_place (task_at m t) Suspended)
unfolding rest
rest-none m t e = cond-false (task_at m t).permit (with_task m t (with_permit (task_at m t) false)) _ e

-- Finish and Work
module _ (m : Model) where
  pub finish-5 : m.running ≡ None → finish m ≡ refused m NobodyRuns
  unfolding finish outside
  finish-5 w = outside-5 m (end m) w

  pub finish-7 : (t : ℕ) → m.running ≡ Some t → inside (task_at m t) ≡ true → finish m ≡ refused m InsideAction
  unfolding finish outside
  finish-7 t w h = outside-7 m (end m) t w h

  pub finish-0 : (t : ℕ) → m.running ≡ Some t → inside (task_at m t) ≡ false →
      finish m ≡ accepted m.running (end m t)
  unfolding finish outside
  finish-0 t w h = outside-0 m (end m) t w h

  pub work-5 : m.running ≡ None → work m ≡ refused m NobodyRuns
  unfolding work
  work-5 w = by-nobody m (λ t. accepted m.running m) w

  pub work-0 : (t : ℕ) → m.running ≡ Some t → work m ≡ accepted m.running m
  unfolding work
  work-0 t w = by-task m (λ t. accepted m.running m) t w

-- Release
module _ (m : Model) (t : ℕ) where
  pub release-1 : no_task m t ≡ true → release m t ≡ refused m NoSuchTask
  unfolding release
  release-1 e = cond-true (no_task m t) (refused m NoSuchTask) _ e

  pub release-0 : no_task m t ≡ false → release m t ≡ accepted m.running (release_from m t (task_at m t).place)
  unfolding release
  release-0 e = cond-false (no_task m t) (refused m NoSuchTask) _ e

-- Clock
module _ (m : Model) (r : ℕ) where
  pub clock-4 : bad_reading m.now r ≡ true → clock m r ≡ refused m BadReading
  unfolding clock
  clock-4 e = cond-true (bad_reading m.now r) (refused m BadReading) _ e

  pub clock-0 : bad_reading m.now r ≡ false → clock m r ≡ accepted m.running (take_reading m r)
  unfolding clock
  clock-0 e = cond-false (bad_reading m.now r) (refused m BadReading) _ e

-- Set
module _ (m : Model) (t p : ℕ) where
  -- the priority being good; the task being there
  known : Moved
  known = cond (is_ended (task_at m t).place) (refused m EndedTask) (accepted m.running (rebase m t p))

  setting : Moved
  setting = cond (not (in_range p)) (refused m BadPriority) known

  pub set-1 : no_task m t ≡ true → set_base m t p ≡ refused m NoSuchTask
  unfolding set_base setting known
  set-1 e = cond-true (no_task m t) (refused m NoSuchTask) setting e

  on-set : no_task m t ≡ false → set_base m t p ≡ setting
  unfolding set_base setting known
  on-set e = cond-false (no_task m t) (refused m NoSuchTask) setting e

  pub set-3 : no_task m t ≡ false → in_range p ≡ false → set_base m t p ≡ refused m BadPriority
  unfolding setting
  set-3 e g = on-set e ∙ cond-true (not (in_range p)) (refused m BadPriority) known (ap not g)

  on-known : no_task m t ≡ false → in_range p ≡ true → set_base m t p ≡ known
  unfolding setting
  on-known e g = on-set e ∙ cond-false (not (in_range p)) (refused m BadPriority) known (ap not g)

  pub set-6 : no_task m t ≡ false → in_range p ≡ true → is_ended (task_at m t).place ≡ true → set_base m t p ≡ refused m EndedTask
  unfolding known
  set-6 e g h = on-known e g ∙ cond-true (is_ended (task_at m t).place) (refused m EndedTask) _ h

  pub set-0 : no_task m t ≡ false → in_range p ≡ true → is_ended (task_at m t).place ≡ false →
      set_base m t p ≡ accepted m.running (rebase m t p)
  unfolding known
  set-0 e g h = on-known e g ∙ cond-false (is_ended (task_at m t).place) (refused m EndedTask) _ h

  -- inside an action the base waits; outside, the base changes and the task moves
  pub rebase-inside : inside (task_at m t) ≡ true → rebase m t p ≡ with_task m t (with_waiting (task_at m t) (Some p))
  unfolding rebase
  rebase-inside e = cond-true (inside (task_at m t)) (with_task m t (with_waiting (task_at m t) (Some p))) _ e

  pub rebase-outside : inside (task_at m t) ≡ false →
      rebase m t p ≡ requeue (with_task m t (with_base (task_at m t) p)) t (active m t) (task_at m t).place
  unfolding rebase
  rebase-outside e = cond-false (inside (task_at m t)) (with_task m t (with_waiting (task_at m t) (Some p))) _ e
