-- The report of every event (2026-10): 0 exactly when the same runs, 1 exactly when the event's dispatch preempted the old task.
use mathlib.Core.Path.{◌≡◌, refl, ap, ◌∙◌, sym}
use mathlib.Core.Logic.{◌↔◌}
use mathlib.Core.Bool.{Bool, true, false, not, ◌&&◌}
use mathlib.Core.List.{◌∷◌}
use Prim.Native.Nat.{ℕ, ◌≤◌, ◌<◌}
use native.Mathlib.Omega.{arith}
use borrow.Author.Tests.{eqb-true, eq-eqb, le-leb, lt-leb}
use Rattle.std.specs.Prelude.{None, Option, Some, ℕ, Ok}
use Rattle.rules.specs.Limits.{task_limit, first_priority}
use Rattle.rules.specs.Answers.{report_number}
use Rattle.rules.specs.Model.{Model, queue, active}
use Rattle.rules.specs.Moves.{highest, dispatch}
use Rattle.rules.specs.Moved.{Moved, is_nobody, same_runner, report_by, accepted}
use Rattle.rules.specs.Events.{apply}
use Rattle.rules.specs.Effect.{effect}
use Rattle.rules.specs.Sound.{sound}
use Rattle.rules.specs.Histories.{delay_fits}
use Rattle.rules.specs.Reports.{Preempts, ReportsClaim}
use Rattle.rules.specs.declared.Event.{Event}
use Rattle.rules.specs.declared.Report.{Report}
use Rattle.rules.specs.declared.Report.TheVariants.{Unchanged, Preempted, Changed}
use Rattle.rules.proofs.Choices.{compare, clash, cond-true, cond-false, and-make, and_left, and_right}
use Rattle.rules.proofs.TaskLaws.{runs-named}
use Rattle.rules.proofs.Core.{act-low, runner-in}
use Rattle.rules.proofs.DispatchLaws.{alike-active, alike-dispatch}
use Rattle.rules.proofs.Pending.{Pending}
use Rattle.rules.proofs.Soundness.{sound-good}
use Rattle.rules.proofs.Kept.{pending_done}
use Rattle.rules.proofs.MoveLaws.{dispatch-stay, dispatch-switch, preempted-head}
use Rattle.rules.proofs.Refusals.{by_answer, refused-same}
use Rattle.rules.proofs.Effects.{done-model}
use Rattle.rules.proofs.Ways.{each_way}

-- the test of runners: they are the same
same-is : (v w : Option ℕ) → same_runner v w ≡ true → v ≡ w
unfolding same_runner
same-is None None e = refl
same-is None (Some u) e = clash (sym e)
same-is (Some t) None e = clash (sym e)
same-is (Some t) (Some u) e = ap Some (eqb-true t u e)

pub same_self : (v : Option ℕ) → same_runner v v ≡ true
unfolding same_runner
same_self None = refl
same_self (Some t) = eq-eqb t t refl

-- no report is two
apart : {C : Type 0} (r x y : Report) → r ≡ x → r ≡ y → (report_number x ≡ report_number y → ⊥) → C
apart r x y e i n = absurd (n (ap report_number (sym e ∙ i)))

somebody-is : (w : Option ℕ) → not (is_nobody w) ≡ true → (t : ℕ) × (w ≡ Some t)
unfolding is_nobody
somebody-is None e = clash (sym e)
somebody-is (Some t) e = (t, refl)

is-somebody : (w : Option ℕ) (t : ℕ) → w ≡ Some t → not (is_nobody w) ≡ true
unfolding is_nobody
is-somebody w t e = ap (λ (v : Option ℕ). not (is_nobody v)) e

-- who runs before the event, when its dispatch begins, and after it
module _ (b d a : Option ℕ) where
  -- a task that runs before the event and when its dispatch begins, and not after
  abbrev Sent : Type 0
  Sent = (t : ℕ) × ((b ≡ Some t) × (d ≡ Some t) × (a ≡ Some t → ⊥))

  abbrev sends : Bool
  sends = not (is_nobody b) && same_runner b d

  sends-by : Sent → sends ≡ true
  sends-by (t, (x, y, n)) =
      and-make (not (is_nobody b)) (same_runner b d) (is-somebody b t x) (ap (same_runner b) (y ∙ sym x) ∙ same_self b)

  -- the three ways
  by-report : {C : Type 0} → (a ≡ b → report_by b d a ≡ Unchanged → C) → (Sent → report_by b d a ≡ Preempted → C) →
      ((a ≡ b → ⊥) → (Sent → ⊥) → report_by b d a ≡ Changed → C) → C
  unfolding report_by
  by-report {C} f g h = go (same_runner b a) refl sends refl
    where
      go : (x : Bool) → same_runner b a ≡ x → (y : Bool) → sends ≡ y → C
      go true i y j = f (sym (same-is b a i)) (cond-true (same_runner b a) Unchanged _ i)
      go false i true j =
          let (t, e) = somebody-is b (and_left (not (is_nobody b)) (same_runner b d) j) in
          let same = same-is b d (and_right (not (is_nobody b)) (same_runner b d) j) in
          g (t, (e, sym same ∙ e, λ k. clash (sym (ap (same_runner b) (k ∙ sym e) ∙ same_self b) ∙ i)))
          (cond-false (same_runner b a) Unchanged _ i ∙ cond-true sends Preempted _ j)
      go false i false j =
          h (λ k. clash (sym (ap (same_runner b) k ∙ same_self b) ∙ i)) (λ k. clash (sym (sends-by k) ∙ j))
          (cond-false (same_runner b a) Unchanged _ i ∙ cond-false sends Preempted _ j)

  pub same-report : (report_by b d a ≡ Unchanged) ↔ (a ≡ b)
  same-report =
      by-report (λ k e. (λ i. k, λ i. e))
      (λ s e. (λ i. apart _ Preempted Unchanged e i (λ z. omega (arith, z)), λ k. absurd (s.1.2 (k ∙ s.1.0))))
      (λ n m e. (λ i. apart _ Changed Unchanged e i (λ z. omega (arith, z)), λ k. absurd (n k)))

  sent-report : (report_by b d a ≡ Preempted) ↔ Sent
  sent-report =
      by-report (λ k e. (λ i. apart _ Unchanged Preempted e i (λ z. omega (arith, z)), λ s. absurd (s.1.2 (k ∙ s.1.0))))
      (λ s e. (λ i. s, λ i. e))
      (λ n m e. (λ i. apart _ Changed Preempted e i (λ z. omega (arith, z)), λ s. absurd (m s)))

-- a dispatch after which another runs than before it preempted that task
switched : (n : Model) (t : ℕ) → n.running ≡ Some t → ((dispatch n).running ≡ Some t → ⊥) → active n t < highest n
switched n t e f =
    compare (highest n) (active n t)
    (λ h. absurd (f (ap (λ (v : Model). v.running) (dispatch-stay n t e (le-leb (highest n) (active n t) h)) ∙ e))) (λ h. h)

module _ (m : Model) (e : Event) where
  pub report-0 : ((apply m e).report ≡ Unchanged) ↔ ((apply m e).model.running ≡ m.running)
  unfolding accepted
  report-0 =
      each_way (λ (r : Moved). (r.report ≡ Unchanged) ↔ (r.model.running ≡ m.running)) m (λ a. (λ i. refl, λ i. refl)) e
      (same-report m.running (effect m e).running (dispatch (effect m e)).running)

  pub report-refused : ((apply m e).answer ≡ Ok tt → ⊥) → (apply m e).report ≡ Unchanged
  unfolding accepted
  report-refused =
      each_way (λ (r : Moved). (r.answer ≡ Ok tt → ⊥) → r.report ≡ Unchanged) m (λ a f. refl) e (λ f. absurd (f refl))

  -- what preempts is accepted
  preempts-done : (p : Preempts m e) → (apply m e).answer ≡ Ok tt
  preempts-done p =
      by_answer (apply m e).answer (λ d. d) (λ n. absurd (p.other (ap (λ (v : Model). v.running) (refused-same m e n) ∙ p.ran)))

  done-report : (apply m e).answer ≡ Ok tt → (apply m e).report ≡ report_by m.running (effect m e).running (apply m e).model.running
  unfolding accepted
  done-report =
      each_way (λ (r : Moved). r.answer ≡ Ok tt → r.report ≡ report_by m.running (effect m e).running r.model.running) m
      (λ a d. absurd (cc d)) e (λ d. refl)

  pub report-1 : ((apply m e).report ≡ Preempted) ↔ Preempts m e
  report-1 = (only, when)
    where
      only : (apply m e).report ≡ Preempted → Preempts m e
      only x =
          let d = by_answer (apply m e).answer (λ i. i)
          (λ n. apart _ Unchanged Preempted (report-refused n) x (λ z. omega (arith, z))) in
          let is = done-model m e d in
          let (t, (r, s, o)) = (sent-report m.running (effect m e).running (apply m e).model.running).0 (sym (done-report d) ∙ x) in
          let above = switched (effect m e) t s (λ k. o (ap (λ (v : Model). v.running) is ∙ k)) in
          record {
            task = t;
            ran = r;
            still = s;
            sent = is ∙ dispatch-switch (effect m e) t s (lt-leb (highest (effect m e)) (active (effect m e) t) above);
            other = o;
          }

      when : Preempts m e → (apply m e).report ≡ Preempted
      when p =
          done-report (preempts-done p) ∙
          (sent-report m.running (effect m e).running (apply m e).model.running).1 (p.task, (p.ran, p.still, p.other))

  -- 2 where it is neither
  pub report-2 : ((apply m e).report ≡ Changed) ↔ (((apply m e).model.running ≡ m.running → ⊥) × (Preempts m e → ⊥))
  report-2 = (only, λ n. when n (apply m e).report refl)
    where
      only : (apply m e).report ≡ Changed → ((apply m e).model.running ≡ m.running → ⊥) × (Preempts m e → ⊥)
      only x = (
        λ k. apart _ Unchanged Changed (report-0.1 k) x (λ z. omega (arith, z)),
        λ p. apart _ Preempted Changed (report-1.1 p) x (λ z. omega (arith, z)),
      )

      when : ((apply m e).model.running ≡ m.running → ⊥) × (Preempts m e → ⊥) → (r : Report) → (apply m e).report ≡ r →
          (apply m e).report ≡ Changed
      when n Unchanged i = absurd (n.0 (report-0.0 i))
      when n Preempted i = absurd (n.1 (report-1.0 i))
      when n Changed i = i

  -- the old task is the head of its queue: what its active priority is, the dispatch leaves
  pub report-head : sound m ≡ true → delay_fits e ≡ true → (p : Preempts m e) →
      queue (apply m e).model (active (apply m e).model p.task) ≡ p.task ∷ queue (effect m e) (active (apply m e).model p.task)
  report-head s f p =
      ap (queue (apply m e).model) same ∙ ap (λ (v : Model). queue v (active n p.task)) is ∙
      preempted-head n p.task p.still above low c.core.queues ∙
      ap (λ (v : ℕ). p.task ∷ queue n v) (sym same)
    where
      n : Model
      n = effect m e

      d : (apply m e).answer ≡ Ok tt
      d = preempts-done p

      is : (apply m e).model ≡ dispatch n
      is = done-model m e d

      c : Pending false n
      c = pending_done m e f (sound-good m s) d

      above : active n p.task < highest n
      above = switched n p.task p.still (λ k. p.other (ap (λ (v : Model). v.running) is ∙ k))

      low : first_priority ≤ active n p.task
      low = act-low n task_limit c.core p.task (runner-in n c.core p.task (runs-named n.running p.task p.still))

      same : active (apply m e).model p.task ≡ active n p.task
      same = ap (λ (v : Model). active v p.task) is ∙ alike-active (alike-dispatch n c.core) p.task

pub reports : (m : Model) (e : Event) → ReportsClaim m e
reports m e = record {
  same = report-0 m e;
  preempted = report-1 m e;
  head = report-head m e;
  changed = report-2 m e;
  refused = report-refused m e;
}
