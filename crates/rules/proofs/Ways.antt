-- Every event, whatever it answers: the dispatch of what it does, or a refusal that changes nothing.
use mathlib.Core.Bool.{Bool, cond, not}
use Rattle.std.specs.Prelude.{None, Option, Some, ℕ}
use Rattle.rules.specs.Priorities.{in_range}
use Rattle.rules.specs.Model.{Model, task_at}
use Rattle.rules.specs.Moves.{stopped}
use Rattle.rules.specs.Moved.{Moved, refused, accepted, refuse_if_nobody}
use Rattle.rules.specs.Events.{no_task, no_object, holds, inside, take_hold, over_ceiling, enter, innermost, give_up, settle, leave}
use Rattle.rules.specs.Events.{put_off, delay, rest, suspend, release, bad_reading, clock, is_ended, set_base, work, end, finish, apply}
use Rattle.rules.specs.Effect.{for_runner, effect}
use Rattle.rules.specs.declared.Event.{Event}
use Rattle.rules.specs.declared.Event.TheVariants.{Enter, Leave, Delay, Suspend, Release, Clock, Set, Work, Finish}
use Rattle.rules.specs.declared.Refusal.{Refusal}
use Rattle.rules.specs.declared.Refusal.TheVariants.{NobodyRuns}
use Rattle.rules.proofs.Choices.{both_ways}

-- a fact of the accepted event and of every refusal is one of the event
module _ (P : Moved → Type 0) (m : Model) (no : (a : Refusal) → P (refused m a)) where
  unless : (b : Bool) (a : Refusal) (r : Moved) → P r → P (cond b (refused m a) r)
  unless b a r p = both_ways P b (refused m a) r (λ e. no a) (λ e. p)

  by-runner : (w : Option ℕ) (f : ℕ → Moved) (x : ℕ → Model) → P (accepted m.running (for_runner m w x)) →
      ((t : ℕ) → P (accepted m.running (x t)) → P (f t)) → P (refuse_if_nobody m w f)
  unfolding refuse_if_nobody for_runner
  by-runner None f x p g = no NobodyRuns
  by-runner (Some t) f x p g = g t p

  pub each_way : (e : Event) → P (accepted m.running (effect m e)) → P (apply m e)
  unfolding for_runner apply effect enter leave delay suspend release clock set_base work finish
  each_way (Enter o) p =
      unless (no_object m o) _ _ (by-runner m.running _ (take_hold m o) p (λ t q.
      unless (holds (task_at m t) o) _ _ (unless (over_ceiling m o t) _ _ q)))
  each_way (Leave o) p =
      unless (no_object m o) _ _ (by-runner m.running _ (λ t. settle (give_up m t) t) p (λ t q.
      unless (not (innermost (task_at m t) o)) _ _ q))
  each_way (Delay d) p =
      by-runner m.running _ (λ t. put_off (stopped m) t d) p (λ t q. unless (inside (task_at m t)) _ _ q)
  each_way Suspend p = by-runner m.running _ (rest m) p (λ t q. unless (inside (task_at m t)) _ _ q)
  each_way (Release t) p = unless (no_task m t) _ _ p
  each_way (Clock r) p = unless (bad_reading m.now r) _ _ p
  each_way (Set t v) p =
      unless (no_task m t) _ _ (unless (not (in_range v.0)) _ _
      (unless (is_ended (task_at m t).place) _ _ p))
  each_way Work p = by-runner m.running _ (λ t. m) (idle m.running) (λ t q. q)
    where
      idle : (w : Option ℕ) → P (accepted m.running (for_runner m w (λ t. m)))
      idle None = p
      idle (Some t) = p
  each_way Finish p = by-runner m.running _ (end m) p (λ t q. unless (inside (task_at m t)) _ _ q)
