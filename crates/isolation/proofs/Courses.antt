-- One run: its layers, and the events of it that are not seen from above p.
use mathlib.Core.Path.{◌≡◌, refl, ap, ◌∙◌, sym, subst}
use mathlib.Core.Bool.{Bool, true, false}
use mathlib.Core.List.{List}
use Prim.Native.Nat.{ℕ, ◌<◌}
use native.Mathlib.Omega.{arith}
use lib.ListN.{length, get_or, set}
use Rattle.std.specs.Prelude.{None, Option, Some, ℕ, Ok}
use Rattle.rules.specs.Model.{task_at}
use Rattle.rules.specs.Moves.{dispatch}
use Rattle.rules.specs.Events.{apply}
use Rattle.rules.specs.Effect.{effect}
use Rattle.rules.specs.Histories.{delay_fits}
use Rattle.rules.specs.declared.Event.TheVariants as event
use Rattle.rules.proofs.Choices.{cond-true}
use Rattle.rules.proofs.TaskLaws.{at_other}
use Rattle.rules.proofs.Pending.{Good}
use Rattle.format.specs.Roster.{Roster}
use Rattle.format.specs.declared.Step.{Step}
use Rattle.format.proofs.PassedLaws.{Orderly}
use Rattle.trace.specs.Config.{Config, perform, position_after, is_done, advance, next_step, position_at, step_by, outside, happen}
use Rattle.safety.specs.History.{Event, clock, release, step, input_of}
use Rattle.safety.specs.Reckon.{Status, Reckoning, status_at, step_due, noted}
use Rattle.safety.proofs.Discipline.{set_own, release-listed}
use Rattle.safety.proofs.Invariant.{Inv, by-event, step-done}
use Rattle.isolation.specs.Sharing.{Above, Under}
use Rattle.isolation.specs.Unseen.{Unseen}
use Rattle.isolation.proofs.View.{seen, seen_low, seen-high, View, view-self, apart}
use Rattle.isolation.proofs.Layers.{Layer, Firm}
use Rattle.isolation.proofs.Effects.{step_effect, Taken, taken, Ruled, release-low, low-effect}
use Rattle.isolation.proofs.Sorting.{Sorts, listed_above, Floors, task-in, floors-event, layer-of}
use Rattle.isolation.proofs.Answering.{release-in, one_end, one-event}

-- a run of the roster r that has come to the configuration c
pub record Course (p : ℕ) (high : ℕ → Bool) (r : Roster) (c : Config) : Type 0 where
  pub orderly : Orderly r
  pub sorts : Sorts p high r
  pub reckoning : Reckoning
  pub inv : Inv r c reckoning
  pub floors : Floors p high reckoning

-- its layers
pub course-layer : (p : ℕ) (high : ℕ → Bool) (r : Roster) (c : Config) → Course p high r c → Layer p high c.model
course-layer p high r c u = layer-of p high r u.orderly u.sorts c u.reckoning u.inv u.floors

module _ (p : ℕ) (high : ℕ → Bool) (r : Roster) (c : Config) (u : Course p high r c) where
  pub good : Good true c.model
  good = u.inv.good

  layer : Layer p high c.model
  layer = course-layer p high r c u

  pub now-firm : Firm p high c.model
  now-firm = record { pending = good.pending; layer = layer }

  listed : (t : ℕ) → high t ≡ true → t < length c.model.tasks
  listed t h = omega (arith, listed_above p r t (u.sorts.above t h).base, u.inv.agree.size, u.inv.size)

  self : View p high c.model c.model
  self = view-self p high c.model listed

  -- the next configuration
  abbrev next : Event → Config
  next e = (happen r c (input_of e)).config

  pub course-on : (e : Event) → Course p high r (next e)
  course-on e = record {
    orderly = u.orderly;
    sorts = u.sorts;
    reckoning = noted r u.reckoning (record { event = e; answer = (happen r c (input_of e)).answer; ran = c.model.running });
    inv = by-event r u.orderly c u.reckoning u.inv e;
    floors = floors-event p high r u.orderly u.sorts c u.reckoning u.inv u.floors e;
  }

  pub layer-next : (e : Event) → Layer p high (next e).model
  layer-next e = course-layer p high r (next e) (course-on e)

  -- a reading and a release from outside are the rules' own, and move no position
  pub clock-model : (x : ℕ) → (next (clock x)).model ≡ (apply c.model (event.Clock x)).model
  unfolding happen input_of outside apply
  clock-model x = refl

  pub clock-places : (x : ℕ) → (next (clock x)).positions ≡ c.positions
  unfolding happen input_of outside
  clock-places x = refl

  pub release-model : (t : ℕ) → (next (release t)).model ≡ (apply c.model (event.Release t)).model
  unfolding happen input_of outside apply
  release-model t = refl

  pub release-places : (t : ℕ) → (next (release t)).positions ≡ c.positions
  unfolding happen input_of outside
  release-places t = refl

  -- a release of a low task is not seen
  pub release-unseen : (t : ℕ) → high t ≡ false → View p high c.model (next (release t)).model
  unfolding effect delay_fits
  release-unseen t h =
      subst (View p high c.model) (sym (release-model t))
      (one-event p high c.model (event.Release t) refl good layer (subst (Layer p high) (release-model t) (layer-next (release t))) self
      (λ d. release-low p high c.model c.model self t h (release-in c.model t d) now-firm (task_at c.model t).place))

  -- a step of the running task t, which is x
  module _ (t : ℕ) (e : c.model.running ≡ Some t) (x : Step) (is : next_step r t (position_at c t) ≡ x) where
    low : t < length r.bases
    low = task-in p high r u.orderly u.sorts c u.reckoning u.inv u.floors t e

    own-step : step_due r t (status_at u.reckoning t) ≡ x
    own-step = ap (λ (a : Status). next_step r t a.position) (u.inv.agree.each t) ∙ is

    pub ruled : Ruled c.model.tasks t x
    ruled = record {
      own = λ v q i. set_own r u.orderly t low (status_at u.reckoning t) (u.inv.fits t low) v q (own-step ∙ i);
      listed = λ v i. omega (
        arith,
        release-listed r u.orderly t low (status_at u.reckoning t) (u.inv.fits t low) v (own-step ∙ i),
        u.inv.agree.size,
        u.inv.size,
      );
    }

    done : (perform c.model x).answer ≡ Ok tt
    unfolding step_by advance
    done =
        sym (ap (λ (y : Step). (perform c.model y).answer) is) ∙ sym (ap (λ (w : Option ℕ). (step_by r c w).answer) e) ∙
        step-done r u.orderly c u.reckoning u.inv t e

    pub took : Taken c.model (step_effect c.model t x) (perform c.model x).model
    took = taken c.model t x good e (λ d i. u.orderly.delays t (position_at c t) d (is ∙ i)) done

    pub step-model : (next step).model ≡ dispatch (step_effect c.model t x)
    unfolding happen input_of step_by advance
    step-model =
        ap (λ (w : Option ℕ). (step_by r c w).config.model) e ∙ ap (λ (y : Step). (perform c.model y).model) is ∙ took.model

    pub step-places : (next step).positions ≡ set c.positions t (position_after (position_at c t) x)
    unfolding happen input_of step_by advance
    step-places =
        ap (λ (w : Option ℕ). (step_by r c w).config.positions) e ∙
        ap (λ (y : Step). (advance c t (position_after (position_at c t) y) (perform c.model y)).config.positions) is ∙
        cond-true (is_done (perform c.model x).answer) (set c.positions t (position_after (position_at c t) x)) c.positions
        (ap is_done done)

  -- who is not above is not high
  not-high : (v : ℕ) → (Above p r v → ⊥) → high v ≡ false
  not-high v f = go (high v) refl
    where
      go : (d : Bool) → high v ≡ d → d ≡ false
      go true i = absurd (f (u.sorts.above v i))
      go false i = refl

  -- of a low task, or with nobody running: not seen
  low_step : (t : ℕ) → c.model.running ≡ Some t → high t ≡ false → View p high c.model (next step).model
  low_step t e h =
      let x : Step = next_step r t (position_at c t) in
      let y : Under p r t = u.sorts.below t h (low t e x refl) in
      one_end p high c.model (next step).model (step_effect c.model t x) good layer (step-model t e x refl) (took t e x refl).pending
      (layer-next step)
      (λ f. low-effect p high c.model t good e h self x (ruled t e x refl)
      (λ v i. not-high v (y.releases (position_at c t) v i)) now-firm f)

  nobody-step : c.model.running ≡ None → next step ≡ c
  unfolding happen input_of step_by
  nobody-step e = ap (λ (w : Option ℕ). (step_by r c w).config) e

  pub step-unseen : seen high c.model.running ≡ None →
      View p high c.model (next step).model × ((v : ℕ) → high v ≡ true → position_at (next step) v ≡ position_at c v)
  step-unseen n = by c.model.running refl
    where
      by : (w : Option ℕ) → c.model.running ≡ w →
          View p high c.model (next step).model × ((v : ℕ) → high v ≡ true → position_at (next step) v ≡ position_at c v)
      by None e = (
        subst (λ (d : Config). View p high c.model d.model) (sym (nobody-step e)) self,
        λ v h. ap (λ (d : Config). position_at d v) (nobody-step e),
      )
      by (Some t) e = go (high t) refl
        where
          go : (d : Bool) → high t ≡ d →
              View p high c.model (next step).model × ((v : ℕ) → high v ≡ true → position_at (next step) v ≡ position_at c v)
          go true h =
              absurd (let x : Some t ≡ None = sym (seen-high high t h) ∙ sym (ap (seen high) e) ∙ n in
              let z : ◌≡◌ {A = ℕ} 0 1 = cc in omega arith)
          go false h = (
            low_step t e h,
            λ v i. ap (λ (l : List ℕ). get_or l v 0) (step-places t e (next_step r t (position_at c t)) refl) ∙
                at_other (λ (y : ℕ). y) 0 c.positions t _ v (apart high t v i h),
          )

  -- where no task above runs, none is seen to run
  none_seen : Unseen p r c step → (w : Option ℕ) → c.model.running ≡ w → seen high w ≡ None
  unfolding Unseen seen
  none_seen n None e = refl
  none_seen n (Some t) e = seen_low high t (not-high t (λ a. n t a e))

  -- an event that is not seen changes nothing above p
  pub unseen-event : (e : Event) → Unseen p r c e →
      View p high c.model (next e).model × ((v : ℕ) → high v ≡ true → position_at (next e) v ≡ position_at c v)
  unfolding Unseen
  unseen-event (clock x) n = absurd n
  unseen-event (release t) n = (release-unseen t (not-high t n), λ v h. ap (λ (l : List ℕ). get_or l v 0) (release-places t))
  unseen-event step n = step-unseen (none_seen n c.model.running refl)
