-- Every list of readings, releases and steps from the fresh start of a roster that passes is safe: the theorem.
use mathlib.Core.Logic.{◌↔◌}
use mathlib.Core.Path.{◌≡◌, refl, ap, ◌∙◌, sym, subst}
use mathlib.Core.Bool.{true, false}
use mathlib.Core.List.{List, [], ◌∷◌}
use Prim.Native.Nat.{ℕ, zero, suc, ◌+◌, ◌<◌}
use native.Mathlib.Nat.{not-suc-le-zero}
use native.Mathlib.Omega.{arith}
use borrow.Author.Tests.{eq-eqb, ne_eqb}
use lib.Dec.{eqb}
use lib.ListN.{length, get_or, replicate, length-replicate, get_or-eq_default}
use Rattle.std.specs.Prelude.{None, Option, Some, ℕ, Err, Ok}
use Rattle.rules.specs.Limits.{task_limit}
use Rattle.rules.specs.Model.{Model, TaskRecord, blank, with_place, task_at, highest_of, active}
use Rattle.rules.specs.Fresh.{new_task, fresh_model}
use Rattle.rules.specs.Sound.{queued, runs, is_ready, is_running}
use Rattle.rules.specs.declared.Place.{Place}
use Rattle.rules.specs.declared.Place.TheVariants.{Running, Ready, Delayed, Suspended, Ended}
use Rattle.rules.specs.declared.Refusal.TheVariants.{NobodyRuns}
use Rattle.rules.specs.Lists.{times_in}
use Rattle.rules.proofs.Choices.{split, compare, clash, cond-true, cond-false}
use Rattle.rules.proofs.Counts.{times-same, times-other, queued-at, queued-two, Row, row-of}
use Rattle.rules.proofs.TaskLaws.{ready, running, one_place, runs-named}
use Rattle.rules.proofs.Standing.{all_runs, all-queueing}
use Rattle.rules.proofs.Kept.{one-holder}
use Rattle.rules.proofs.FreshLaws.{fresh-good, fresh-now, fresh-ceilings, fresh-count, fresh-task}
use Rattle.format.specs.Roster.{Roster, roster_of, script_of, base_of, setup_of}
use Rattle.format.specs.Check.{held_before, top_at, check_of}
use Rattle.format.proofs.TestLaws.{passed_is}
use Rattle.format.proofs.KeptLaws.{top-low}
use Rattle.format.proofs.PassedLaws.{Orderly, orderly}
use Rattle.trace.specs.Config.{Config, start_of, step_by, happen}
use Rattle.safety.specs.History.{Event, input_of, after_from, after, happenings_from}
use Rattle.safety.specs.Reckon.{Status, Reckoning, unknown, status_at, reckon_from, opened, reckon, active_in, is_here, ready_by}
use Rattle.safety.specs.Safe as claim
use Rattle.safety.specs.Safe.{reckoned, step_answer, Idle, Refused, Once, Safe, Claim}
use Rattle.safety.proofs.Agree.{away_of, status_of, status-unplaced}
use Rattle.safety.proofs.Discipline.{Fits}
use Rattle.safety.proofs.Steps.{away-is}
use Rattle.safety.proofs.Invariant.{Inv, by-event, step-done}

-- the start
opened-length : (bs : List ℕ) → length (opened bs) ≡ length bs
unfolding opened
opened-length [] = refl
opened-length (b ∷ bs) = ap suc (opened-length bs)

opened-at : (bs : List ℕ) (u : ℕ) → u < length bs → get_or (opened bs) u unknown ≡ status_of (with_place (new_task (get_or bs u 0)) Ready) 0
unfolding opened away_of
opened-at [] u h = absurd (not-suc-le-zero h)
opened-at (b ∷ bs) zero h = refl
opened-at (b ∷ bs) (suc u) h = opened-at bs u (omega arith)

pub all-zero : (n u : ℕ) → get_or {A = ℕ} (replicate n 0) u 0 ≡ 0
all-zero zero u = refl
all-zero (suc n) zero = refl
all-zero (suc n) (suc u) = all-zero n u

module _ (r : Roster) (k : Orderly r) where
  b₀ : Reckoning
  b₀ = record { now = 0; tasks = opened r.bases }

  m₀ : Model
  m₀ = fresh_model (setup_of r)

  task₀ : (u : ℕ) → u < length r.bases → status_of (task_at m₀ u) 0 ≡ status_of (with_place (new_task (get_or r.bases u 0)) Ready) 0
  unfolding m₀
  task₀ u h =
      sym (status-unplaced (task_at m₀ u) 0) ∙
      ap (λ (x : TaskRecord). status_of x 0) (fresh-task (setup_of r) k.start u h)

  each₀ : (u : ℕ) → get_or (opened r.bases) u unknown ≡ status_of (task_at m₀ u) (get_or (replicate (length r.bases) 0) u 0)
  unfolding m₀ away_of
  each₀ u =
      compare (length r.bases) u
      (λ h. get_or-eq_default (opened r.bases) unknown {n = u} (omega (arith, h, opened-length r.bases)) ∙
      ap (λ (x : TaskRecord). status_of x 0) (sym (get_or-eq_default m₀.tasks blank {n = u} (omega (arith, h, count₀)))))
      (λ h. opened-at r.bases u h ∙ sym (task₀ u h)) ∙
      ap (status_of (task_at m₀ u)) (sym (all-zero (length r.bases) u))
    where
      count₀ : length m₀.tasks ≡ length r.bases
      count₀ = fresh-count (setup_of r) k.start

  fits₀ : (u : ℕ) → u < length r.bases → Fits r u (status_at b₀ u)
  unfolding b₀ held_before top_at away_of
  fits₀ u h = subst (Fits r u) (sym (opened-at r.bases u h)) (record {
    within = omega arith;
    held = refl;
    based = top-low u (base_of r u) (script_of r u);
    awaits = λ p e. absurd (let z : ◌≡◌ {A = ℕ} 0 1 = cc in omega arith);
  })

  start : Inv r (start_of r) b₀
  unfolding start_of b₀ m₀
  start = record {
    good = fresh-good (setup_of r) k.start;
    agree = record {
      reading = sym (fresh-now (setup_of r) k.start);
      size = opened-length r.bases ∙ sym (fresh-count (setup_of r) k.start);
      spots = length-replicate (length r.bases) 0 ∙ sym (fresh-count (setup_of r) k.start);
      each = each₀;
    };
    ceilings = fresh-ceilings (setup_of r) k.start;
    size = opened-length r.bases;
    fits = fits₀;
  }

-- every list
by-events : (r : Roster) → Orderly r → (es : List Event) (c : Config) (b : Reckoning) → Inv r c b →
    Inv r (after_from r c es) (reckon_from r b (happenings_from r c es))
unfolding after_from happenings_from reckon_from
by-events r k [] c b i = i
by-events r k (e ∷ es) c b i = by-events r k es _ _ (by-event r k c b i e)

pub invariant : (r : Roster) → Orderly r → (es : List Event) → Inv r (after r es) (reckoned r es)
unfolding reckon b₀
invariant r k es = by-events r k es (start_of r) _ (start r k)

-- from the invariant to the claim: here is ready or running
here_place : (x : Place) → is_here (away_of x) ≡ true → is_ready x + is_running x ≡ 1
unfolding is_here away_of is_ready is_running
here_place Running e = refl
here_place Ready e = refl
here_place (Delayed d) e = absurd (let z : ◌≡◌ {A = ℕ} 0 1 = cc in omega arith)
here_place Suspended e = absurd (let z : ◌≡◌ {A = ℕ} 0 1 = cc in omega arith)
here_place Ended e = absurd (let z : ◌≡◌ {A = ℕ} 0 1 = cc in omega arith)

ready-here : (x : Place) → is_ready x ≡ 1 → is_here (away_of x) ≡ true
unfolding is_here away_of is_ready
ready-here Running e = refl
ready-here Ready e = refl
ready-here (Delayed d) e = absurd (omega arith)
ready-here Suspended e = absurd (omega arith)
ready-here Ended e = absurd (omega arith)

module _ (r : Roster) (c : Config) (b : Reckoning) (i : Inv r c b) where
  lines : (u : ℕ) → queued c.model.ready u ≡ ready (task_at c.model u)
  lines u = all-queueing _ _ _ _ task_limit i.good.pending.core.stand i.good.pending.core.count u

  runners : (u : ℕ) → runs c.model.running u ≡ running (task_at c.model u)
  runners u = all_runs _ _ _ _ task_limit i.good.pending.core.stand i.good.pending.core.count u

  away : (u : ℕ) → (status_at b u).away ≡ away_of (task_at c.model u).place
  away u = ap (λ (a : Status). a.away) (i.agree.each u)

  not-runner : (w : Option ℕ) (t : ℕ) → ready_by b w t ≡ true → (runs w t ≡ 0) × (is_here (status_at b t).away ≡ true)
  unfolding ready_by runs
  not-runner None t e = (refl, e)
  not-runner (Some u) t e =
      split t u
      (λ i. absurd (let z : false ≡ true = sym (cond-true (eqb u t) false (is_here (status_at b t).away) (eq-eqb u t (sym i))) ∙ e in
      clash (sym z)))
      (λ n. (times-other u t n, sym (cond-false (eqb u t) false (is_here (status_at b t).away) (ne_eqb u t (λ i. n (sym i)))) ∙ e))

  is-ready : (w : Option ℕ) (t : ℕ) → runs w t ≡ 0 → is_here (status_at b t).away ≡ true → ready_by b w t ≡ true
  unfolding ready_by runs
  is-ready None t z e = e
  is-ready (Some u) t z e =
      cond-false (eqb u t) false (is_here (status_at b t).away) (ne_eqb u t (λ i. omega (arith, z, times-same u t i))) ∙ e

  ready-queued : (t : ℕ) → ready_by b c.model.running t ≡ true → queued c.model.ready t ≡ 1
  ready-queued t e =
      let h = not-runner c.model.running t e in
      omega (arith, h.0, runners t, lines t, here_place (task_at c.model t).place (sym (ap is_here (away t)) ∙ h.1))

  queued-ready : (t : ℕ) → 0 < queued c.model.ready t → ready_by b c.model.running t ≡ true
  queued-ready t h =
      let one = one_place (task_at c.model t).place in
      is-ready c.model.running t (omega (arith, runners t, lines t, one))
      (ap is_here (away t) ∙ ready-here (task_at c.model t).place (omega (arith, lines t, one)))

  active-is : (t : ℕ) → active_in r b t ≡ active c.model t
  active-is t =
      ap (λ (a : Status). highest_of r.ceilings a.base a.inside) (i.agree.each t) ∙
      ap (λ (l : List ℕ). highest_of l (task_at c.model t).base (task_at c.model t).held) (sym i.ceilings)

  exclude : (t u o : ℕ) → 0 < times_in o (status_at b t).inside → 0 < times_in o (status_at b u).inside → t ≡ u
  exclude t u o h g =
      one-holder c.model i.good t u o (omega (arith, h, ap (λ (a : Status). times_in o a.inside) (i.agree.each t)))
      (omega (arith, g, ap (λ (a : Status). times_in o a.inside) (i.agree.each u)))

-- with nobody running a step is refused
step-refused : (r : Roster) (c : Config) → c.model.running ≡ None → (step_by r c c.model.running).answer ≡ (Err NobodyRuns)
unfolding step_by
step-refused r c e = ap (λ (w : Option ℕ). (step_by r c w).answer) e

refusal : (r : Roster) → Orderly r → (es : List Event) → Refused r es ↔ Idle r es
unfolding happen input_of
refusal r k es = (λ n. go (claim.running r es) refl n.is, λ h. record { is = when h })
  where
    i : Inv r (after r es) (reckoned r es)
    i = invariant r k es

    when : Idle r es → step_answer r es ≡ Ok tt → ⊥
    when h f =
        let n : step_answer r es ≡ (Err NobodyRuns) = step-refused r (after r es) h.nobody in let z : ◌≡◌ {A = ℕ} 0 1 = cc in omega arith

    go : (w : Option ℕ) → claim.running r es ≡ w → (step_answer r es ≡ Ok tt → ⊥) → Idle r es
    go None f n = record {
      nobody = f;
      none_ready = λ t h. i.good.top.busy t (omega (arith, ready-queued r (after r es) (reckoned r es) i t h.is)) f;
    }
    go (Some t) f n = absurd (n (step-done r k (after r es) (reckoned r es) i t f))

just-once : (qs : List (List ℕ)) (t : ℕ) → queued qs t ≡ 1 → Once qs t
just-once qs t e =
    let v : Row qs t = row-of qs t (omega arith) in
    record {
      at = v.at;
      one = omega (arith, v.has, queued-at qs v.at t);
      others = λ q n. omega (arith, v.has, queued-two qs q v.at t n);
    }

safe-of : (r : Roster) → Orderly r → (es : List Event) → Safe r es
unfolding is_here
safe-of r k es = record {
  refused = λ before behind f. refusal r k before;
  exclusive = λ t u o h g. exclude r c b i t u o h.is g.is;
  present = λ t f. ap is_here (away-is c.positions b c.model i.good i.agree t f);
  working = λ t h f. i.good.top.busy t (omega (arith, ready-queued r c b i t h.is)) f;
  highest = λ t u f h. omega (
    arith,
    active-is r c b i t,
    active-is r c b i u,
    i.good.top.most t u (runs-named c.model.running t f) (omega (arith, ready-queued r c b i u h.is)),
  );
  once = λ t h. just-once c.model.ready t (ready-queued r c b i t h.is);
  no_other = λ t n q. compare 1 (queued c.model.ready t) (λ h. absurd (n (record { is = queued-ready r c b i t h })))
      (λ h. omega (arith, queued-at c.model.ready q t));
}
  where
    c : Config
    c = after r es

    b : Reckoning
    b = reckoned r es

    i : Inv r c b
    i = invariant r k es

-- the theorem
pub safe : Claim
safe s y ok es = safe-of (roster_of s) (orderly s (passed_is (check_of s) ok) y) es
