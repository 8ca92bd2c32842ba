-- What a dispatch leaves alone: all but who of the ready and running tasks runs.
use mathlib.Core.Path.{◌≡◌, refl, ap, ◌∙◌, sym}
use mathlib.Core.Bool.{Bool}
use mathlib.Core.List.{List}
use Prim.Native.Nat.{ℕ}
use native.Mathlib.Omega.{arith}
use borrow.Author.Tests.{eqb-false, leb-false}
use lib.Dec.{eqb, leb}
use lib.ListN.{length, length-set}
use Rattle.std.specs.Prelude.{None, Option, Some, ℕ}
use Rattle.rules.specs.Limits.{task_limit}
use Rattle.rules.specs.Model.{Model, TaskRecord, blank, with_place, task_at, active_of, active, with_ready, with_running}
use Rattle.rules.specs.Model.{with_task}
use Rattle.rules.specs.Moves.{highest, head_of, stopped, become_ready, preempt, start, dispatch_by, dispatch}
use Rattle.rules.specs.Sound.{is_ready, is_running, runs}
use Rattle.rules.specs.declared.Place.{Place}
use Rattle.rules.specs.declared.Place.TheVariants.{Running, Ready, Delayed, Suspended, Ended}
use Rattle.rules.proofs.Choices.{both_ways}
use Rattle.rules.proofs.TaskLaws.{runs-self, runs-named, at-keeps}
use Rattle.rules.proofs.Standing.{all_runs}
use Rattle.rules.proofs.Core.{Core, highest-is, highest-preempt, head-ready, core-preempt, runner-in, act-low}

-- a running task counts as ready; any other place is as it is
unfoldable pub upright : Place → Place
upright Running = Ready
upright Ready = Ready
upright (Delayed d) = Delayed d
upright Suspended = Suspended
upright Ended = Ended

abbrev pub unplaced : TaskRecord → TaskRecord
unplaced k = with_place k (upright k.place)

pub ready-upright : (x : Place) → is_ready x ≡ 1 → upright x ≡ Ready
unfolding is_ready upright
ready-upright Running e = refl
ready-upright Ready e = refl
ready-upright (Delayed d) e = absurd (omega arith)
ready-upright Suspended e = absurd (omega arith)
ready-upright Ended e = absurd (omega arith)

pub running-place : (x : Place) → is_running x ≡ 1 → x ≡ Running
unfolding is_running
running-place Running e = refl
running-place Ready e = absurd (omega arith)
running-place (Delayed d) e = absurd (omega arith)
running-place Suspended e = absurd (omega arith)
running-place Ended e = absurd (omega arith)

pub running-upright : (x : Place) → is_running x ≡ 1 → upright x ≡ Ready
unfolding upright
running-upright x e = ap upright (running-place x e)

-- the same but for who runs: m before, n after
pub record Alike (m n : Model) : Type 0 where
  pub now : n.now ≡ m.now
  pub count : length n.tasks ≡ length m.tasks
  pub ceilings : n.ceilings ≡ m.ceilings
  pub each : (u : ℕ) → unplaced (task_at n u) ≡ unplaced (task_at m u)

pub alike : (m : Model) → Alike m m
alike m = record { now = refl; count = refl; ceilings = refl; each = λ u. refl }

pub alike_then : {m n o : Model} → Alike m n → Alike n o → Alike m o
alike_then a b = record {
  now = b.now ∙ a.now;
  count = b.count ∙ a.count;
  ceilings = b.ceilings ∙ a.ceilings;
  each = λ u. b.each u ∙ a.each u;
}

pub alike-place : (m : Model) (t : ℕ) (x : Place) (qs : List (List ℕ)) (w : Option ℕ) → upright x ≡ upright (task_at m t).place →
    Alike m (with_ready (with_running (with_task m t (with_place (task_at m t) x)) w) qs)
alike-place m t x qs w e = record {
  now = refl;
  count = length-set m.tasks t _;
  ceilings = refl;
  each = at-keeps unplaced blank m.tasks t (with_place (task_at m t) x) (ap (with_place (task_at m t)) e);
}

pub alike-stopped : (m : Model) → Alike m (stopped m)
unfolding stopped
alike-stopped m = record { now = refl; count = refl; ceilings = refl; each = λ u. refl }

pub alike-ready : (m : Model) (t : ℕ) → upright (task_at m t).place ≡ Ready → Alike m (become_ready m t)
unfolding become_ready upright
alike-ready m t e = alike-place m t Ready _ _ (sym e)

pub alike-preempt : (m : Model) (t : ℕ) → upright (task_at m t).place ≡ Ready → Alike m (preempt m t)
unfolding preempt stopped upright
alike-preempt m t e = alike-place m t Ready _ _ (sym e)

pub alike-start : (m : Model) (p : ℕ) → upright (task_at m (head_of m p)).place ≡ Ready → Alike m (start m p)
unfolding start upright
alike-start m p e = alike-place m (head_of m p) Running _ _ (sym e)

pub runner-place : {ord : Bool} (m : Model) (t : ℕ) → Core ord m task_limit → m.running ≡ Some t → is_running (task_at m t).place ≡ 1
runner-place m t c e =
    omega (arith, all_runs _ _ _ _ task_limit c.stand c.count t, ap (λ (v : Option ℕ). runs v t) e, runs-self t)

none_named : (m : Model) → m.running ≡ None → (u : ℕ) → runs m.running u ≡ 0
unfolding runs
none_named m e u = ap (λ (v : Option ℕ). runs v u) e

none-preempt : (m : Model) (t u : ℕ) → runs (preempt m t).running u ≡ 0
unfolding preempt stopped runs
none-preempt m t u = refl

alike-by : {ord : Bool} (m : Model) → Core ord m task_limit → (w : Option ℕ) → m.running ≡ w → Alike m (dispatch_by m w)
unfolding dispatch_by
alike-by m c None e =
    both_ways (Alike m) (eqb (highest m) 0) m _ (λ z. alike m)
    (λ z. alike-start m (highest m) (ready-upright _ (head-ready m (highest m) c (highest-is m (eqb-false _ 0 z)) (none_named m e))))
alike-by m c (Some t) e =
    both_ways (Alike m) (leb (highest m) (active m t)) m _ (λ z. alike m)
    (λ z.
    let r = runs-named m.running t e in
    let above = leb-false (highest m) (active m t) z in
    let top = highest-is m (λ i. omega (arith, i, above)) in
    let h = highest-preempt m t (highest m) c top above (act-low m task_limit c t (runner-in m c t r)) in
    let head = head-ready (preempt m t) (highest m) (core-preempt m c t r) h (none-preempt m t) in
    alike_then (alike-preempt m t (running-upright _ (runner-place m t c e)))
    (alike-start (preempt m t) (highest m) (ready-upright _ head)))

pub alike-dispatch : {ord : Bool} (m : Model) → Core ord m task_limit → Alike m (dispatch m)
unfolding dispatch
alike-dispatch m c = alike-by m c m.running refl

-- who is alike has the same active priority
pub alike-active : {m n : Model} → Alike m n → (u : ℕ) → active n u ≡ active m u
alike-active {m} {n} a u = ap (λ (cs : List ℕ). active_of cs (task_at n u)) a.ceilings ∙ ap (active_of m.ceilings) (a.each u)
