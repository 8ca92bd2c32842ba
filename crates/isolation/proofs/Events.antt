-- Two runs: every event keeps the view of the tasks above p, their records, queues and script positions.
use mathlib.Core.Path.{◌≡◌, refl, ap, ◌∙◌, sym, subst}
use mathlib.Core.Bool.{Bool, true, false}
use mathlib.Core.List.{List}
use Prim.Native.Nat.{ℕ}
use native.Mathlib.Omega.{arith}
use borrow.Author.Tests.{lt-leb}
use lib.ListN.{length, get_or}
use Rattle.std.specs.Prelude.{None, Option, Some, ℕ}
use Rattle.rules.specs.Effect.{effect}
use Rattle.rules.specs.Histories.{delay_fits}
use Rattle.rules.specs.declared.Event.TheVariants as event
use Rattle.rules.proofs.Choices.{split}
use Rattle.rules.proofs.TaskLaws.{at_same, at_other}
use Rattle.format.specs.Steps.{step_in}
use Rattle.format.specs.Roster.{Roster, script_of}
use Rattle.format.specs.declared.Step.{Step}
use Rattle.trace.specs.Config.{Config, position_after, next_step, position_at, happen}
use Rattle.safety.specs.History.{Event, clock, release, step, input_of}
use Rattle.isolation.proofs.View.{seen, seen_low, seen-high, seen-is, View, view-sym, view_then, view-is}
use Rattle.isolation.proofs.Layers.{Layer}
use Rattle.isolation.proofs.Waking.{clock-both}
use Rattle.isolation.proofs.Effects.{release-both, both-effect}
use Rattle.isolation.proofs.Answering.{clock-answers, release-answers, both_end, both-event}
use Rattle.isolation.proofs.Courses.{Course, now-firm, layer-next, clock-model, clock-places, release-model, release-places}
use Rattle.isolation.proofs.Courses.{release-unseen, ruled, took, step-model, step-places, step-unseen}

-- two runs
pub record Both (p : ℕ) (high : ℕ → Bool) (c d : Config) : Type 0 where
  pub view : View p high c.model d.model
  pub places : (t : ℕ) → high t ≡ true → position_at c t ≡ position_at d t

module _ (p : ℕ) (high : ℕ → Bool) (r s : Roster) (scripts : (t : ℕ) → high t ≡ true → script_of r t ≡ script_of s t)
    (c d : Config) (u : Course p high r c) (w : Course p high s d) (both : Both p high c d) where
  abbrev left : Event → Config
  left e = (happen r c (input_of e)).config

  abbrev right : Event → Config
  right e = (happen s d (input_of e)).config

  v : View p high c.model d.model
  v = both.view

  both-clock : (z : ℕ) → View p high (left (clock z)).model (right (clock z)).model
  unfolding effect delay_fits
  both-clock z =
      let e = clock-model p high r c u z in
      let f = clock-model p high s d w z in
      view-is p high _ _ (left (clock z)).model (right (clock z)).model e f
      (both-event p high c.model d.model (event.Clock z) refl u.inv.good w.inv.good
      (clock-answers c.model d.model z v.now) (subst (Layer p high) e (layer-next p high r c u (clock z)))
      (subst (Layer p high) f (layer-next p high s d w (clock z))) v
      (λ i. clock-both p high z c.model d.model v (now-firm p high r c u) (now-firm p high s d w)))

  -- of a task that is high, or not
  high-release : (t : ℕ) → high t ≡ true → View p high (left (release t)).model (right (release t)).model
  unfolding effect delay_fits
  high-release t h =
      let e = release-model p high r c u t in
      let f = release-model p high s d w t in
      let i = (v.listed t h).0 in
      let j = (v.listed t h).1 in
      view-is p high _ _ (left (release t)).model (right (release t)).model e f
      (both-event p high c.model d.model (event.Release t) refl u.inv.good w.inv.good
      (release-answers c.model d.model t (lt-leb (length c.model.tasks) t i ∙ sym (lt-leb (length d.model.tasks) t j)))
      (subst (Layer p high) e (layer-next p high r c u (release t)))
      (subst (Layer p high) f (layer-next p high s d w (release t))) v
      (λ n. release-both p high c.model d.model v t i j (now-firm p high r c u) (now-firm p high s d w)))

  both-release : (t : ℕ) → View p high (left (release t)).model (right (release t)).model
  both-release t = by (high t) refl
    where
      by : (f : Bool) → high t ≡ f → View p high (left (release t)).model (right (release t)).model
      by true h = high-release t h
      by false h =
          view_then p high (left (release t)).model c.model (right (release t)).model
          (view-sym p high c.model (left (release t)).model (release-unseen p high r c u t h))
          (view_then p high c.model d.model (right (release t)).model v (release-unseen p high s d w t h))

  -- a step of the same high task
  high-step : (t : ℕ) → high t ≡ true → c.model.running ≡ Some t → d.model.running ≡ Some t → Both p high (left step) (right step)
  high-step t h e f = record {
    view = both_end p high (left step).model (right step).model _ _ (step-model p high r c u t e n refl)
        (step-model p high s d w t f n same) (took p high r c u t e n refl).pending (took p high s d w t f n same).pending
        (layer-next p high r c u step) (layer-next p high s d w step)
        (λ i j. both-effect p high c.model d.model t u.inv.good w.inv.good e f h v n (ruled p high r c u t e n refl)
        (ruled p high s d w t f n same) (now-firm p high r c u) (now-firm p high s d w) i);
    places = places;
  }
    where
      n : Step
      n = next_step r t (position_at c t)

      same : next_step s t (position_at d t) ≡ n
      same =
          ap (λ (q : List Step). step_in q (position_at d t)) (sym (scripts t h)) ∙ ap (step_in (script_of r t)) (sym (both.places t h))

      places : (i : ℕ) → high i ≡ true → position_at (left step) i ≡ position_at (right step) i
      places i g =
          ap (λ (q : List ℕ). get_or q i 0) (step-places p high r c u t e n refl) ∙
          split i t
          (λ j. at_same (λ (z : ℕ). z) 0 c.positions t _ i j (omega (arith, (v.listed t h).0, u.inv.agree.spots)) ∙
          ap (λ (z : ℕ). position_after z n) (both.places t h) ∙
          sym (at_same (λ (z : ℕ). z) 0 d.positions t _ i j (omega (arith, (v.listed t h).1, w.inv.agree.spots))))
          (λ j. at_other (λ (z : ℕ). z) 0 c.positions t _ i j ∙ both.places i g ∙
          sym (at_other (λ (z : ℕ). z) 0 d.positions t _ i j)) ∙
          sym (ap (λ (q : List ℕ). get_or q i 0) (step-places p high s d w t f n same))

  unseen-steps : seen high c.model.running ≡ None → Both p high (left step) (right step)
  unseen-steps n =
      let f = step-unseen p high r c u n in
      let g = step-unseen p high s d w (sym v.runner ∙ n) in
      record {
        view = view_then p high (left step).model c.model (right step).model (view-sym p high c.model (left step).model f.0)
            (view_then p high c.model d.model (right step).model v g.0);
        places = λ t h. f.1 t h ∙ both.places t h ∙ sym (g.1 t h);
      }

  -- who is high and runs in one runs in the other
  pub other-runs : (t : ℕ) → high t ≡ true → c.model.running ≡ Some t → d.model.running ≡ Some t
  other-runs t h e = (seen-is high d.model.running t (sym v.runner ∙ ap (seen high) e ∙ seen-high high t h)).0

  both-step : Both p high (left step) (right step)
  unfolding seen
  both-step = by c.model.running refl
    where
      by : (z : Option ℕ) → c.model.running ≡ z → Both p high (left step) (right step)
      by None e = unseen-steps (ap (seen high) e)
      by (Some t) e = go (high t) refl
        where
          go : (f : Bool) → high t ≡ f → Both p high (left step) (right step)
          go true h = high-step t h e (other-runs t h e)
          go false h = unseen-steps (ap (seen high) e ∙ seen_low high t h)

  pub both-on : (e : Event) → Both p high (left e) (right e)
  both-on (clock z) = record {
    view = both-clock z;
    places = λ t h. ap (λ (q : List ℕ). get_or q t 0) (clock-places p high r c u z) ∙ both.places t h ∙
        sym (ap (λ (q : List ℕ). get_or q t 0) (clock-places p high s d w z));
  }
  both-on (release i) = record {
    view = both-release i;
    places = λ t h. ap (λ (q : List ℕ). get_or q t 0) (release-places p high r c u i) ∙ both.places t h ∙
        sym (ap (λ (q : List ℕ). get_or q t 0) (release-places p high s d w i));
  }
  both-on step = both-step
