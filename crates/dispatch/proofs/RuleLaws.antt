-- The state of a sound Model is sound, and an event on it does what the rule does; no rule answers 10.
use Rattle.std.proofs.Common.{◌≡◌, refl, ap, ◌∙◌, sym, Bool, true, false, cond, Err, suc, ◌-◌, eqb, length, arith, sub-one}
use borrow.Author.Tests.{le-leb, eq-eqb, eqb-true}
use Rattle.rules.specs.Limits.{task_limit, object_limit, last_priority}
use Rattle.rules.specs.Answers.{Answer, number_of}
use Rattle.rules.specs.Model.{Model}
use Rattle.rules.specs.Events.{apply}
use Rattle.rules.specs.Sound.{sound}
use Rattle.rules.specs.declared.Event.{Event}
use Rattle.rules.specs.declared.Refusal.TheVariants.{Unsound}
use Rattle.rules.proofs.Choices.{clash}
use Rattle.rules.proofs.SoundLaws.{sound-is}
use Rattle.rules.specs.Refusals.{table, applies_at}
use Rattle.rules.proofs.Refusals.{exactly-when, refused-same}
use Rattle.marks.specs.Marks.{marks_of}
use Rattle.marks.proofs.MarkLaws.{marks-claim}
use Rattle.memory.specs.Rows.{held_width, queue_width}
use Rattle.loading.specs.Loading.{held_lists}
use Rattle.loading.proofs.RowLaws.{list_count}
use Rattle.loading.proofs.PaddedLaws.{held-count}
use Rattle.loading.proofs.FlatLaws.{lengths-of}
use Rattle.dispatch.specs.declared.State.{State}
use Rattle.dispatch.specs.declared.Stepped.{Stepped}
use Rattle.dispatch.specs.State.{view, encode}
use Rattle.dispatch.specs.Sound.{sizes_fit, marks_good, MarksGoodClaim, sound_of}
use Rattle.dispatch.specs.Methods.{answered, applied_of}
use Rattle.dispatch.proofs.EncodeLaws.{held-short, queue-short, view-encode}

module _ (m : Model) (s : sound m ≡ true) where
  -- the State of a sound Model is sound
  sizes-fit : sizes_fit (encode m) ≡ true
  unfolding sizes_fit encode
  sizes-fit =
      let n = (sound-is m s).numbers in
      let held = held-count m n.count in
      rw (
        lengths-of held_width task_limit (held_lists m) held (held-short m s) (length m.tasks) n.count,
        lengths-of queue_width last_priority m.ready n.queues (queue-short m s) last_priority (omega arith),
        le-leb 1 (length m.tasks) n.some,
        le-leb (length m.tasks) task_limit n.count,
        le-leb (length m.ceilings) object_limit n.objects,
      )

  marks-good : marks_good (encode m) ≡ true
  unfolding marks_good encode
  marks-good =
      eq-eqb (marks_of m.ready) (marks_of (view (encode m)).ready) (ap (λ (n : Model). marks_of n.ready) (sym (view-encode m s)))

  encode-sound : sound_of (encode m) ≡ true
  unfolding sound_of
  encode-sound = rw (sizes-fit, marks-good, view-encode m s, s)

  -- so an event does what the rule does
  pub applied-encode : (e : Event) → applied_of (encode m) e ≡
      record { answer = (apply m e).answer; report = (apply m e).report; state = encode (apply m e).model }
  unfolding applied_of answered
  applied-encode e = rw (encode-sound, view-encode m s) (go (eqb (number_of (apply m e).answer) 0) refl)
    where
      with-state : State → Stepped
      with-state x = record { answer = (apply m e).answer; report = (apply m e).report; state = x }

      go : (b : Bool) → eqb (number_of (apply m e).answer) 0 ≡ b →
          ◌≡◌ {A = Stepped} (with-state (cond b (encode (apply m e).model) (encode m)))
          (with-state (encode (apply m e).model))
      go true f = refl
      go false f = ap {B = Stepped} (λ (v : Model). with-state (encode v))
          (sym (refused-same m e (λ d. clash (sym (ap (λ (a : Answer). eqb (number_of a) 0) d) ∙ f))))

-- a State's marks are good exactly when each is on where its queue is not empty
pub marks-say : MarksGoodClaim
unfolding marks_good view
marks-say s h =
    let qs = (view s).ready in
    let count : length qs ≡ last_priority = list_count queue_width last_priority s.queues in
    let says = marks-claim.exact qs s.marks (rw count h) in (
      λ e p low high. says.0 (eqb-true s.marks (marks_of qs) e) (p - 1) (omega (arith, count)),
      λ f. eq-eqb s.marks (marks_of qs) (says.1 (λ i g. rw sub-one at (f (suc i) (omega arith) (omega (arith, count))))),
    )

-- a rule answers 1 to 9, or 0
pub rule-never : (m : Model) (e : Event) → (apply m e).answer ≡ Err Unsound → ⊥
unfolding table applies_at
rule-never m e u = clash (sym ((exactly-when m e 9).0 (ap number_of u)).applies)
