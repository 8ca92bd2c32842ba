-- Every event keeps what is sound, and with ord the ceiling order too: any Model, any event, refused or not.
use mathlib.Core.Path.{◌≡◌, refl, ap, ◌∙◌, sym, subst}
use mathlib.Core.Bool.{Bool, true, false}
use mathlib.Core.List.{List}
use Prim.Native.Nat.{ℕ, ◌≤◌, ◌<◌}
use native.Mathlib.Omega.{arith}
use borrow.Author.Tests.{leb-true, leb-false, not-false}
use lib.ListN.{length}
use Rattle.std.specs.Prelude.{None, Option, Some, ℕ, Ok}
use Rattle.rules.specs.Limits.{last_delay}
use Rattle.rules.specs.Priorities.{in_range}
use Rattle.rules.specs.Model.{Model, TaskRecord, task_at, ceiling_of}
use Rattle.rules.specs.Moves.{dispatch}
use Rattle.rules.specs.Moved.{Moved, accepted}
use Rattle.rules.specs.Events.{apply}
use Rattle.rules.specs.declared.Event.{Event}
use Rattle.rules.specs.declared.Event.TheVariants.{Enter, Leave, Delay, Suspend, Release, Clock, Set, Work, Finish}
use Rattle.rules.specs.Effect.{effect, for_runner}
use Rattle.rules.specs.Lists.{all_of, times_in}
use Rattle.rules.specs.Refusals.{table, applies_at, no_such_task, no_such_object, bad_priority, bad_clock, inside_action, above_ceiling}
use Rattle.rules.specs.Histories.{delay_fits, OneHolder}
use Rattle.rules.proofs.Choices.{split, compare}
use Rattle.rules.proofs.TaskLaws.{out_of}
use Rattle.rules.proofs.Standing.{exclusive}
use Rattle.rules.proofs.Core.{dispatched}
use Rattle.rules.proofs.DispatchLaws.{unplaced, Alike, alike-dispatch}
use Rattle.rules.proofs.HeldLaws.{rising-covers}
use Rattle.rules.proofs.Pending.{Fair, Pending, Good, fair-unplaced, fair-placed, pending-enter, pending-leave, pending-delay}
use Rattle.rules.proofs.Pending.{pending-rest, pending-end, pending-release, pending-clock, pending-rebase}
use Rattle.rules.proofs.Readings.{reading-early, reading-low}
use Rattle.rules.proofs.Refusals.{done-only-when, each-done, of-task}

-- a dispatch
pub good-dispatch : {ord : Bool} (m : Model) → Pending ord m → Good ord (dispatch m)
good-dispatch {ord} m h = record {
  pending = record {
    core = (dispatched m h.core).core;
    sizes = record {
      some = omega (arith, a.count, h.sizes.some);
      objects = omega (arith, ap length a.ceilings, h.sizes.objects);
      reading = omega (arith, a.now, h.sizes.reading);
      ceilings = ap (all_of in_range) a.ceilings ∙ h.sizes.ceilings;
    };
    fair = every;
  };
  top = (dispatched m h.core).top;
}
  where
    a : Alike m (dispatch m)
    a = alike-dispatch m h.core

    every : (u : ℕ) → u < length (dispatch m).tasks → Fair (dispatch m).ceilings (dispatch m).now (task_at (dispatch m) u)
    every u g =
        let f = fair-unplaced _ _ _ (h.fair u (omega (arith, g, a.count))) in
        let f₁ = subst (Fair m.ceilings m.now) (sym (a.each u)) f in
        let f₂ = subst (λ (v : ℕ). Fair m.ceilings v (unplaced (task_at (dispatch m) u))) (sym a.now) f₁ in
        fair-placed _ _ _ (subst (λ (cs : List ℕ). Fair cs (dispatch m).now (unplaced (task_at (dispatch m) u))) (sym a.ceilings) f₂)

-- what an event gives back
abbrev Keeps : Bool → Moved → Type 0
Keeps ord r = Good ord r.model

keep-accepted : {ord : Bool} (w : Option ℕ) (m : Model) → Pending ord m → Keeps ord (accepted w m)
unfolding accepted
keep-accepted w m h = good-dispatch m h

-- for the running task, if there is one
for-runner : {ord : Bool} (m : Model) (x : ℕ → Model) → Pending ord m → ((t : ℕ) → m.running ≡ Some t → Pending ord (x t)) →
    Pending ord (for_runner m m.running x)
unfolding for_runner
for-runner {ord} m x h g = go m.running refl
  where
    go : (w : Option ℕ) → m.running ≡ w → Pending ord (for_runner m w x)
    go None e = h
    go (Some t) e = g t e

-- up to the dispatch of an event to which no row of the table of refusals applies
pending-effect : {ord : Bool} (m : Model) (e : Event) → delay_fits e ≡ true → Good ord m → ((j : ℕ) → applies_at (table m e) j ≡ false) →
    Pending ord (effect m e)
unfolding effect delay_fits applies_at table no_such_task no_such_object bad_priority bad_clock inside_action above_ceiling
pending-effect m (Enter o) f h none =
    for-runner m _ h.pending (λ t e. pending-enter m o t h e (none 1) (of-task _ _ t e (none 6)) (of-task _ _ t e (none 7)))
pending-effect m (Leave o) f h none = for-runner m _ h.pending (λ t e. pending-leave m t h e)
pending-effect m (Delay d) f h none =
    for-runner m _ h.pending (λ t e. pending-delay m d t (leb-true d last_delay f) h e (of-task _ _ t e (none 6)))
pending-effect m Suspend f h none = for-runner m _ h.pending (λ t e. pending-rest m t h e (of-task _ _ t e (none 6)))
pending-effect m (Release t) f h none = pending-release m t h.pending (leb-false (length m.tasks) t (none 0))
pending-effect m (Clock r) f h none =
    pending-clock m r h.pending (reading-early m.now r (none 3)) (reading-low m.now r (none 3))
pending-effect m (Set t p) f h none =
    pending-rebase m t p.0 h.pending (leb-false (length m.tasks) t (none 0)) (not-false (in_range p.0) (none 2))
pending-effect m Work f h none = h.pending
pending-effect m Finish f h none = for-runner m _ h.pending (λ t e. pending-end m t h e (of-task _ _ t e (none 6)))

-- .. which is one that answers 0
pub pending_done : {ord : Bool} (m : Model) (e : Event) → delay_fits e ≡ true → Good ord m → (apply m e).answer ≡ Ok tt →
    Pending ord (effect m e)
pending_done m e f h d = pending-effect m e f h (done-only-when m e d)

-- every event
pub keep : {ord : Bool} (m : Model) (e : Event) → delay_fits e ≡ true → Good ord m → Keeps ord (apply m e)
keep {ord} m e f h = each-done (Keeps ord) m e (λ a. h) (λ none. keep-accepted m.running (effect m e) (pending-effect m e f h none))

-- one holder for each object, wherever the ceiling order holds
pub one-holder : (m : Model) → Good true m → OneHolder m
unfolding times_in
one-holder m h t u o i j =
    split t u (λ e. e) (λ n. absurd (exclusive h.pending.core.stand covered t u o i j n))
  where
    covered : (v x : ℕ) → 0 < times_in x (task_at m v).held → (task_at m v).base ≤ ceiling_of m.ceilings x
    covered v x y =
        compare (length m.tasks) v
        (λ k. absurd (omega (arith, y, out_of (λ (k : TaskRecord). times_in x k.held) m.tasks v k)))
        (λ k. rising-covers m.ceilings (task_at m v).base x (task_at m v).held (h.pending.fair v k).rises y)
