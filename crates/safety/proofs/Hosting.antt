-- A caller that folds the dispatcher's methods over a list holds, at every prefix, the State of the claim's Model.
use mathlib.Core.Path.{◌≡◌, refl, ap, ◌∙◌, sym}
use mathlib.Core.Bool.{true}
use mathlib.Core.List.{List, [], ◌∷◌}
use native.Mathlib.Omega.{arith}
use lib.ListN.{length, replicate}
use Rattle.std.specs.Prelude.{None, Option, Some, ℕ, Err}
use Rattle.rules.specs.Answers.{number_of}
use Rattle.rules.specs.Events.{apply}
use Rattle.rules.specs.Sound.{sound}
use Rattle.rules.specs.declared.Event.TheVariants as event
use Rattle.rules.specs.declared.Refusal.TheVariants.{Unsound}
use Rattle.rules.proofs.LimitLaws.{counts-in}
use Rattle.rules.proofs.Soundness.{good-sound}
use Rattle.rules.proofs.EventLaws.{work-5}
use Rattle.format.specs.Roster.{Roster, roster_of, setup_of}
use Rattle.format.specs.Check.{check_of}
use Rattle.format.specs.declared.Step.{Step}
use Rattle.format.specs.declared.Step.TheVariants.{Enter, Leave, Delay, Work, Suspend, Release, Set, Again, Finish}
use Rattle.format.proofs.PassedLaws.{Orderly, orderly}
use Rattle.trace.specs.Config.{Config, Outcome, Asked, event as asks, nothing, start_of, event_of, answer_to, perform}
use Rattle.trace.specs.Config.{position_at, next_step, advance, outside, step_by, happen}
use Rattle.dispatch.specs.declared.Started.{Started}
use Rattle.dispatch.specs.State.{view, encode}
use Rattle.dispatch.proofs.EncodeLaws.{view-encode}
use Rattle.dispatch.proofs.RuleLaws.{applied-encode, rule-never}
use Rattle.dispatch.proofs.FreshLaws.{done-0}
use Rattle.safety.specs.History as history
use Rattle.safety.specs.History.{input_of, after_from, after}
use Rattle.safety.specs.Reckon.{Reckoning}
use Rattle.safety.specs.Host.{Host, Reply, opening, called, step_on, call, host_from, host, Hosted, Bridge}
use Rattle.safety.proofs.Invariant.{Inv, by-event}
use Rattle.safety.proofs.Theorem.{invariant}
use Rattle.format.proofs.TestLaws.{passed_is}

-- the caller beside a configuration
abbrev beside : Config → Host
beside c = record { state = encode c.model; positions = c.positions }

abbrev replied : Outcome → Reply
replied o = record { answer = o.answer; report = o.report; host = beside o.config }

module _ (c : Config) (s : sound c.model ≡ true) where
  -- the method that a step calls does what the step does
  called_is : (x : Step) → called (encode c.model) x ≡
      record { answer = (perform c.model x).answer; report = (perform c.model x).report; state = encode (perform c.model x).model }
  unfolding called perform answer_to event_of apply
  called_is (Enter o) = applied-encode c.model s (event.Enter o)
  called_is (Leave o) = applied-encode c.model s (event.Leave o)
  called_is (Delay d) = applied-encode c.model s (event.Delay d)
  called_is Work = applied-encode c.model s event.Work
  called_is Suspend = applied-encode c.model s event.Suspend
  called_is (Release t) = applied-encode c.model s (event.Release t)
  called_is (Set t p) = applied-encode c.model s (event.Set t p)
  called_is Again = refl
  called_is Finish = applied-encode c.model s event.Finish

  step_is : (r : Roster) (w : Option ℕ) → c.model.running ≡ w → step_on r (beside c) w ≡ replied (step_by r c w)
  unfolding step_on step_by advance apply
  step_is r None e = rw (applied-encode c.model s event.Work, work-5 c.model e)
  step_is r (Some t) e = rw (called_is (next_step r t (position_at c t)))

  call-is : (r : Roster) (e : history.Event) → call r (beside c) e ≡ replied (happen r c (input_of e))
  unfolding call happen outside input_of apply encode
  call-is r (history.clock x) = rw (applied-encode c.model s (event.Clock x))
  call-is r (history.release t) = rw (applied-encode c.model s (event.Release t))
  call-is r history.step = step_is r c.model.running refl

  -- and none of it answers 10
  answer-never : (y : Asked) → (answer_to c.model y).answer ≡ (Err Unsound) → ⊥
  unfolding answer_to
  answer-never (asks e) u = rule-never c.model e u
  answer-never nothing u = absurd (omega (arith, ap number_of u))

  step-never : (r : Roster) (w : Option ℕ) → (step_by r c w).answer ≡ (Err Unsound) → ⊥
  unfolding step_by advance perform
  step-never r None u = absurd (omega (arith, ap number_of u))
  step-never r (Some t) u = answer-never (event_of (next_step r t (position_at c t))) u

  event-never : (r : Roster) (e : history.Event) → (happen r c (input_of e)).answer ≡ (Err Unsound) → ⊥
  unfolding happen outside input_of apply
  event-never r (history.clock x) u = rule-never c.model (event.Clock x) u
  event-never r (history.release t) u = rule-never c.model (event.Release t) u
  event-never r history.step u = step-never r c.model.running u

-- every list
hosted-from : (r : Roster) → Orderly r → (es : List history.Event) (c : Config) (b : Reckoning) → Inv r c b →
    host_from r (beside c) es ≡ beside (after_from r c es)
unfolding host_from after_from
hosted-from r k [] c b i = refl
hosted-from r k (e ∷ es) c b i =
    ap (λ (x : Reply). host_from r x.host es) (call-is c (good-sound c.model i.good) r e) ∙
    hosted-from r k es _ _ (by-event r k c b i e)

opened-is : (r : Roster) → Orderly r → opening r ≡ beside (start_of r)
unfolding opening start_of
opened-is r k =
    ap (λ (x : Started). record { state = x.state; positions = replicate (length r.bases) 0 })
    (let s = k.start in
    let counts = counts-in (length r.bases) (length r.ceilings) (record { some = s.some; tasks = s.count; objects = s.objects }) in
    sym (done-0 (setup_of r) counts s.bases s.ceilings))

module _ (r : Roster) (k : Orderly r) (es : List history.Event) where
  host-is : host r es ≡ beside (after r es)
  unfolding after_from
  host-is = ap (λ (h : Host). host_from r h es) (opened-is r k) ∙ hosted-from r k es (start_of r) _ (invariant r k [])

  here-sound : sound (after r es).model ≡ true
  here-sound = good-sound (after r es).model (invariant r k es).good

  reply-is : (e : history.Event) → call r (host r es) e ≡ replied (happen r (after r es) (input_of e))
  reply-is e = ap (λ (h : Host). call r h e) host-is ∙ call-is (after r es) here-sound r e

  pub hosted : Hosted r es
  hosted = record {
    meaning = ap (λ (h : Host). view h.state) host-is ∙ view-encode (after r es).model here-sound;
    positions = ap (λ (h : Host). h.positions) host-is;
    answer = λ e. ap (λ (x : Reply). x.answer) (reply-is e);
    report = λ e. ap (λ (x : Reply). x.report) (reply-is e);
    never = λ e u. event-never (after r es) here-sound r e (sym (ap (λ (x : Reply). x.answer) (reply-is e)) ∙ u);
  }

-- the bridge
pub bridge : Bridge
bridge s y ok es = hosted (roster_of s) (orderly s (passed_is (check_of s) ok) y) es
