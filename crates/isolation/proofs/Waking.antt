-- A clock reading: low tasks that wake do not change in which order high ones do.
use mathlib.Core.Path.{◌≡◌, refl, ap, ◌∙◌, sym, subst}
use mathlib.Core.Logic.{◌⊎◌, inl, inr}
use mathlib.Core.Bool.{Bool, true, false}
use mathlib.Core.List.{List, [], ◌++◌}
use Prim.Native.Nat.{ℕ, suc, ◌≤◌, ◌<◌}
use native.Mathlib.Omega.{arith}
use lib.ListN.{length, get_or}
use Rattle.rules.specs.Limits.{task_limit}
use Rattle.rules.specs.Model.{Model, TaskRecord, with_now, task_at, active}
use Rattle.rules.specs.Lists.{times_in}
use Rattle.rules.specs.Events.{take_reading}
use Rattle.rules.proofs.Choices.{split, compare}
use Rattle.rules.proofs.TaskLaws.{out_of}
use Rattle.rules.proofs.Core.{Core}
use Rattle.rules.proofs.WakingLaws.{is_due, awake, Awake, wakes, core-now, dues-most}
use Rattle.rules.proofs.WakeOrder.{wakers, only, woken-queues, wakers-due, sorted-same, sorted-one, only-in, only_out, only-less}
use Rattle.rules.proofs.WakeOrder.{only-sorted, time_at, times, wakers-sorted}
use Rattle.isolation.proofs.View.{seen, View}
use Rattle.isolation.proofs.Layers.{Layer, Firm, view-active}

module _ (p : ℕ) (high : ℕ → Bool) (r : ℕ) where
  -- who wakes in a Model, and who of them joins the queue at q
  abbrev all : Model → List ℕ
  all m = wakers r (length m.tasks) m.tasks

  abbrev joining : Model → ℕ → List ℕ
  joining m q = only (active m) (suc q) (all m)

  -- no low task joins a queue above p
  module _ (m : Model) (l : Layer p high m) (q : ℕ) (g : p ≤ q) where
    low-none : (u : ℕ) → high u ≡ false → times_in u (joining m q) ≡ 0
    unfolding is_due
    low-none u h =
        split (active m u) (suc q)
        (λ e. compare (length m.tasks) u
        (λ o. omega (
          arith,
          only-less (active m) (suc q) (all m) u,
          wakers-due r (length m.tasks) m.tasks (dues-most r m.tasks) u,
          out_of (λ (k : TaskRecord). is_due r k.place) m.tasks u o,
        ))
        (λ o. absurd (omega (arith, l.down u h o, e, g))))
        (λ n. only_out (active m) (suc q) (all m) u n)

    joins-high : (u : ℕ) → 0 < times_in u (joining m q) → high u ≡ true
    joins-high u i = go (high u) refl
      where
        go : (b : Bool) → high u ≡ b → b ≡ true
        go true e = refl
        go false e = absurd (omega (arith, i, low-none u e))

  module _ (m n : Model) (v : View p high m n) (f : Firm p high m) (g : Firm p high n) where
    same_place : (u : ℕ) → high u ≡ true → (task_at m u).place ≡ (task_at n u).place
    same_place u h = ap (λ (k : TaskRecord). k.place) (v.tasks u h)

    same-times : (q : ℕ) → p ≤ q → (u : ℕ) → times_in u (joining m q) ≡ times_in u (joining n q)
    same-times q i u = go (high u) refl
      where
        due : high u ≡ true → times_in u (all m) ≡ times_in u (all n)
        due h =
            wakers-due r (length m.tasks) m.tasks (dues-most r m.tasks) u ∙ ap (is_due r) (same_place u h) ∙
            sym (wakers-due r (length n.tasks) n.tasks (dues-most r n.tasks) u)

        go : (b : Bool) → high u ≡ b → times_in u (joining m q) ≡ times_in u (joining n q)
        go false h = low-none m f.layer q i u h ∙ sym (low-none n g.layer q i u h)
        go true h =
            let e = view-active p high m n v f u h in
            split (active m u) (suc q)
            (λ j. only-in (active m) (suc q) (all m) u j ∙ due h ∙ sym (only-in (active n) (suc q) (all n) u (sym e ∙ j)))
            (λ j. only_out (active m) (suc q) (all m) u j ∙ sym (only_out (active n) (suc q) (all n) u (λ k. j (e ∙ k))))

    same-joining : (q : ℕ) → p ≤ q → joining m q ≡ joining n q
    same-joining q i =
        sorted-one (times m.tasks) (joining m q) (joining n q)
        (only-sorted (active m) (suc q) (times m.tasks) (all m)
        (wakers-sorted r (length m.tasks) m.tasks (dues-most r m.tasks)))
        (sorted-same (times n.tasks) (times m.tasks) (joining n q)
        (λ u j. ap time_at (sym (same_place u (joins-high n g.layer q i u j))))
        (only-sorted (active n) (suc q) (times n.tasks) (all n)
        (wakers-sorted r (length n.tasks) n.tasks (dues-most r n.tasks))))
        (same-times q i)

    awakes : (x : Model) → Core true x task_limit → Awake true r (with_now x r) (take_reading x r)
    awakes x c = wakes r (length x.tasks) (with_now x r) (core-now x r c) (dues-most r x.tasks)

    pub clock-both : View p high (take_reading m r) (take_reading n r)
    clock-both =
        let a : Awake true r (with_now m r) (take_reading m r) = awakes m f.pending.core in
        let b : Awake true r (with_now n r) (take_reading n r) = awakes n g.pending.core in
        record {
          now = a.now ∙ sym b.now;
          runner = ap (seen high) a.running ∙ v.runner ∙ sym (ap (seen high) b.running);
          tasks = λ t h. a.each t ∙ ap (awake r) (v.tasks t h) ∙ sym (b.each t);
          listed = λ t h. (omega (arith, (v.listed t h).0, a.count), omega (arith, (v.listed t h).1, b.count));
          rows = λ q i. woken-queues r (length m.tasks) (with_now m r) q (core-now m r f.pending.core) ∙
              ap (λ (l : List ℕ). l ++ joining m q) (v.rows q i) ∙ ap (λ (l : List ℕ). get_or n.ready q [] ++ l) (same-joining q i) ∙
              sym (woken-queues r (length n.tasks) (with_now n r) q (core-now n r g.pending.core));
          size = a.core.queues ∙ sym b.core.queues;
          ceilings = λ o h. ap (λ (cs : List ℕ). get_or cs o 0) a.ceilings ∙ v.ceilings o (turned o h) ∙
              sym (ap (λ (cs : List ℕ). get_or cs o 0) b.ceilings);
        }
      where
        turned : (o : ℕ) → (p < get_or (take_reading m r).ceilings o 0) ⊎ (p < get_or (take_reading n r).ceilings o 0) →
            (p < get_or m.ceilings o 0) ⊎ (p < get_or n.ceilings o 0)
        turned o (inl h) = inl (subst (λ (cs : List ℕ). p < get_or cs o 0) (awakes m f.pending.core).ceilings h)
        turned o (inr h) = inr (subst (λ (cs : List ℕ). p < get_or cs o 0) (awakes n g.pending.core).ceilings h)
