-- An event of the rules, refused or done: what two Models with the same view make of it, and one of which nothing is seen.
use Rattle.std.specs.Prelude.{Err, Ok}
use mathlib.Core.Path.{◌≡◌, refl, ap, ◌∙◌, sym, subst}
use mathlib.Core.Bool.{Bool, true, cond}
use Prim.Native.Nat.{ℕ, ◌<◌}
use borrow.Author.Tests.{leb-false}
use lib.ListN.{length}
use Rattle.rules.specs.Model.{Model}
use Rattle.rules.specs.Moves.{dispatch}
use Rattle.rules.specs.Events.{no_task, bad_reading, apply}
use Rattle.rules.specs.Effect.{effect}
use Rattle.rules.specs.Histories.{delay_fits}
use Rattle.rules.specs.Refusals.{table, lowest, applies_at, no_such_task, no_such_object, bad_priority, bad_clock, nobody_runs, ended_task}
use Rattle.rules.specs.Refusals.{inside_action, above_ceiling, not_innermost}
use Rattle.rules.specs.declared.Event as asked
use Rattle.rules.specs.declared.Event.TheVariants as event
use Rattle.rules.specs.declared.Refusal.TheVariants.{NoSuchTask, BadReading}
use Rattle.rules.proofs.Pending.{Pending, Good}
use Rattle.rules.proofs.Kept.{pending_done}
use Rattle.rules.proofs.Effects.{done-model}
use Rattle.rules.proofs.Refusals.{answers, done-only-when, refused-same, by_answer}
use Rattle.rules.proofs.StillLaws.{still_alike}
use Rattle.isolation.proofs.View.{View, view-is}
use Rattle.isolation.proofs.Layers.{Layer, Firm, layer-back}
use Rattle.isolation.proofs.Dispatching.{dispatch-both}

-- what a reading and a release answer goes by now, and by whether the task is listed
pub clock-answers : (m n : Model) (x : ℕ) → m.now ≡ n.now → (apply m (event.Clock x)).answer ≡ (apply n (event.Clock x)).answer
unfolding lowest table no_such_task no_such_object bad_priority bad_clock nobody_runs ended_task inside_action above_ceiling not_innermost
clock-answers m n x e =
    answers m (event.Clock x) ∙ ap (λ (now : ℕ). cond (bad_reading now x) (Err BadReading) (Ok tt)) e ∙ sym (answers n (event.Clock x))

pub release-answers : (m n : Model) (t : ℕ) → no_task m t ≡ no_task n t →
    (apply m (event.Release t)).answer ≡ (apply n (event.Release t)).answer
unfolding lowest table no_such_task no_such_object bad_priority bad_clock nobody_runs ended_task inside_action above_ceiling not_innermost
release-answers m n t e =
    answers m (event.Release t) ∙ ap (λ (b : Bool). cond b (Err NoSuchTask) (Ok tt)) e ∙ sym (answers n (event.Release t))

-- a release that is done is of a task that there is
pub release-in : (m : Model) (t : ℕ) → (apply m (event.Release t)).answer ≡ Ok tt → t < length m.tasks
unfolding applies_at table no_such_task
release-in m t d = leb-false (length m.tasks) t (done-only-when m (event.Release t) d 0)

-- dispatches of two Models, or of one that follows a settled one
module _ (p : ℕ) (high : ℕ → Bool) where
  firm : (x m : Model) → x ≡ dispatch m → Pending true m → Layer p high x → Firm p high m
  firm x m e a l = record { pending = a; layer = layer-back p high m a.core (subst (Layer p high) e l) }

  pub both_end : (x y m n : Model) → x ≡ dispatch m → y ≡ dispatch n → Pending true m → Pending true n → Layer p high x → Layer p high y →
      (Firm p high m → Firm p high n → View p high m n) → View p high x y
  both_end x y m n e d a b k l f =
      let g = firm x m e a k in
      let h = firm y n d b l in
      view-is p high (dispatch m) (dispatch n) x y e d (dispatch-both p high m n (f g h) g h)

  pub one_end : (m x n : Model) → Good true m → Layer p high m → x ≡ dispatch n → Pending true n → Layer p high x →
      (Firm p high n → View p high m n) → View p high m x
  one_end m x n g l e a k f =
      both_end m x m n (sym (still_alike m m g refl (λ t. refl) refl)) e g.pending a l k (λ i j. f j)

  -- an event of the rules that both answer alike; one of which nothing is seen
  pub both-event : (m n : Model) (x : asked.Event) → delay_fits x ≡ true → Good true m → Good true n →
      (apply m x).answer ≡ (apply n x).answer → Layer p high (apply m x).model → Layer p high (apply n x).model → View p high m n →
      ((apply m x).answer ≡ Ok tt → View p high (effect m x) (effect n x)) → View p high (apply m x).model (apply n x).model
  both-event m n x i g h e k l v f =
      by_answer (apply m x).answer
      (λ d. both_end (apply m x).model (apply n x).model (effect m x) (effect n x) (done-model m x d) (done-model n x (sym e ∙ d))
      (pending_done m x i g d) (pending_done n x i h (sym e ∙ d)) k l (λ a b. f d))
      (λ z. view-is p high m n (apply m x).model (apply n x).model (refused-same m x z) (refused-same n x (λ d. z (e ∙ d))) v)

  pub one-event : (m : Model) (x : asked.Event) → delay_fits x ≡ true → Good true m → Layer p high m → Layer p high (apply m x).model →
      View p high m m → ((apply m x).answer ≡ Ok tt → View p high m (effect m x)) → View p high m (apply m x).model
  one-event m x i g k l self f =
      by_answer (apply m x).answer
      (λ d. one_end m (apply m x).model (effect m x) g k (done-model m x d) (pending_done m x i g d) l (λ a. f d))
      (λ z. subst (View p high m) (sym (refused-same m x z)) self)
