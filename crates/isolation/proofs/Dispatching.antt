-- A dispatch: two Models with the same view have the same view after it.
use mathlib.Core.Path.{◌≡◌, refl, ap, ◌∙◌, sym, subst}
use mathlib.Core.Bool.{Bool, true, false, cond}
use mathlib.Core.List.{List, []}
use Prim.Native.Nat.{ℕ, zero, suc, ◌≤◌, ◌<◌}
use native.Mathlib.Nat.{not-suc-le-zero}
use native.Mathlib.Omega.{arith}
use borrow.Author.Tests.{eqb-false, ne_eqb, leb-false, lt-leb}
use lib.Dec.{eqb, leb}
use lib.ListN.{length, get_or}
use Rattle.std.specs.Prelude.{None, Option, Some, ℕ}
use Rattle.rules.specs.Limits.{task_limit, last_priority}
use Rattle.rules.specs.Model.{Model, active}
use Rattle.rules.specs.Moves.{highest_to, highest, stopped, preempt, start, dispatch}
use Rattle.rules.specs.Sound.{runs}
use Rattle.rules.proofs.Choices.{compare}
use Rattle.rules.proofs.Levels.{highest-top}
use Rattle.rules.proofs.TaskLaws.{runs-named}
use Rattle.rules.proofs.Core.{Core, Highest, highest-is, highest-preempt, core-preempt, runner-in, act-low}
use Rattle.rules.proofs.MoveLaws.{dispatch-idle, dispatch-start, dispatch-stay, dispatch-switch}
use Rattle.isolation.proofs.View.{seen, seen_low, seen-high, seen-is, Rows, View, view-sym, view_then, view-left, view-is}
use Rattle.isolation.proofs.View.{preempt-both, start-both, preempt-low, start-low}
use Rattle.isolation.proofs.Layers.{Layer, Firm, is-low, layer-preempt, head-low, head-high, view-active}

-- a queue above p is the highest in both
top-same : (p : ℕ) (qs rs : List (List ℕ)) → Rows p qs rs → (n : ℕ) → p < highest_to qs n → highest_to rs n ≡ highest_to qs n
unfolding highest_to
top-same p qs rs f zero h = absurd (not-suc-le-zero h)
top-same p qs rs f (suc n) h = by (top-same p qs rs f n)
  where
    go : (b : Bool) → p < cond b (highest_to qs n) (suc n) → (p < highest_to qs n → highest_to rs n ≡ highest_to qs n) →
        cond b (highest_to rs n) (suc n) ≡ cond b (highest_to qs n) (suc n)
    go true g k = k g
    go false g k = refl

    by : (p < highest_to qs n → highest_to rs n ≡ highest_to qs n) →
        cond (eqb (length (get_or rs n [])) 0) (highest_to rs n) (suc n) ≡ cond (eqb (length (get_or qs n [])) 0) (highest_to qs n) (suc n)
    by k =
        compare p n
        (λ i. ap (λ (l : List ℕ). cond (eqb (length l) 0) (highest_to rs n) (suc n)) (sym (f n i)) ∙
        go (eqb (length (get_or qs n [])) 0) h k)
        (λ i. absurd (omega (arith, i, h, highest-top qs (suc n))))

none_named : (m : Model) → m.running ≡ None → (u : ℕ) → runs m.running u ≡ 0
unfolding runs
none_named m e u = ap (λ (w : Option ℕ). runs w u) e

preempt-nobody : (m : Model) (t : ℕ) → (preempt m t).running ≡ None
unfolding preempt stopped
preempt-nobody m t = refl

module _ (p : ℕ) (high : ℕ → Bool) where
  top-view : (m n : Model) → View p high m n → p < highest m → highest n ≡ highest m
  unfolding highest
  top-view m n v h = top-same p m.ready n.ready v.rows last_priority h

  -- a dispatch that starts the head of the queue for i, from the Model `from` in which nobody runs
  record Cleared (m from : Model) (i : ℕ) : Type 0 where
    core : Core true from task_limit
    layer : Layer p high from
    top : Highest from i
    nobody : from.running ≡ None
    is : dispatch m ≡ start from i

  both-cleared : (m n x y : Model) (i : ℕ) → Cleared m x i → Cleared n y i → p < i → View p high x y → View p high (dispatch m) (dispatch n)
  both-cleared m n x y i a b g v =
      view-is p high (start x i) (start y i) (dispatch m) (dispatch n) a.is b.is
      (start-both p high x y v i g (head-high p high x i a.core a.top (none_named x a.nobody) a.layer g))

  low-cleared : (m x : Model) (i : ℕ) → Cleared m x i → 1 ≤ i → i ≤ p → View p high m x → View p high m (dispatch m)
  low-cleared m x i a g h v =
      subst (View p high m) (sym a.is)
      (start-low p high m x v i g h (head-low p high x i a.core a.top (none_named x a.nobody) a.layer h) a.nobody)

  module _ (m : Model) (c : Core true m task_limit) (l : Layer p high m) (i : ℕ) (same : highest m ≡ i) where
    cleared-nobody : m.running ≡ None → (i ≡ 0 → ⊥) → Cleared m m i
    cleared-nobody e n = record {
      core = c;
      layer = l;
      top = subst (Highest m) same (highest-is m (λ z. n (sym same ∙ z)));
      nobody = e;
      is = dispatch-start m e (ne_eqb (highest m) 0 (λ z. n (sym same ∙ z))) ∙ ap (start m) same;
    }

    cleared-task : (t : ℕ) → m.running ≡ Some t → active m t < i → Cleared m (preempt m t) i
    cleared-task t e g =
        let r = runs-named m.running t e in
        let top = highest-is m (λ z. omega (arith, z, same, g)) in
        let low = act-low m task_limit c t (runner-in m c t r) in
        record {
          core = core-preempt m c t r;
          layer = layer-preempt p high m l t;
          top = subst (Highest (preempt m t)) same (highest-preempt m t (highest m) c top (omega (arith, same, g)) low);
          nobody = preempt-nobody m t;
          is = dispatch-switch m t e (lt-leb (highest m) (active m t) (omega (arith, same, g))) ∙ ap (start (preempt m t)) same;
        }

  -- a running low task is seen as nobody, and so is nobody
  unseen : (m : Model) → Core true m task_limit → Layer p high m → View p high m m → (i : ℕ) → highest m ≡ i → p < i →
      seen high m.running ≡ None → (x : Model) × Cleared m x i × View p high m x
  unfolding seen
  unseen m c l self i same g s = go m.running refl
    where
      go : (w : Option ℕ) → m.running ≡ w → (x : Model) × Cleared m x i × View p high m x
      go None e = (m, cleared-nobody m c l i same e (λ z. omega (arith, z, g)), self)
      go (Some t) e =
          let t-in = runner-in m c t (runs-named m.running t e) in
          let low : high t ≡ false = not_seen (high t) refl in
          let under = l.down t low t-in in (
            preempt m t,
            cleared-task m c l i same t e (omega (arith, under, g)),
            preempt-low p high m m self t low e (act-low m task_limit c t t-in) under,
          )
        where
          not_seen : (b : Bool) → high t ≡ b → b ≡ false
          not_seen true f =
              absurd (let x : Some t ≡ None = sym (seen-high high t f) ∙ sym (ap (seen high) e) ∙ s in
              let z : ◌≡◌ {A = ℕ} 0 1 = cc in omega arith)
          not_seen false f = refl

  -- with no queue above p a dispatch is not seen
  quiet : (m : Model) → Core true m task_limit → Layer p high m → View p high m m → highest m ≤ p → View p high m (dispatch m)
  quiet m c l self g = go m.running refl
    where
      go : (w : Option ℕ) → m.running ≡ w → View p high m (dispatch m)
      go None e = by (eqb (highest m) 0) refl
        where
          by : (b : Bool) → eqb (highest m) 0 ≡ b → View p high m (dispatch m)
          by true z = subst (View p high m) (sym (dispatch-idle m e z)) self
          by false z =
              let n = eqb-false (highest m) 0 z in
              low-cleared m m (highest m) (cleared-nobody m c l (highest m) refl e n) (omega (arith, n)) g self
      go (Some t) e = by (leb (highest m) (active m t)) refl
        where
          by : (b : Bool) → leb (highest m) (active m t) ≡ b → View p high m (dispatch m)
          by true z = subst (View p high m) (sym (dispatch-stay m t e z)) self
          by false z =
              let above = leb-false (highest m) (active m t) z in
              let low = act-low m task_limit c t (runner-in m c t (runs-named m.running t e)) in
              low-cleared m (preempt m t) (highest m) (cleared-task m c l (highest m) refl t e above) (omega (arith, above)) g
              (preempt-low p high m m self t (is-low p high m l t (omega (arith, above, g))) e low (omega (arith, above, g)))

  module _ (m n : Model) (v : View p high m n) (f : Firm p high m) (g : Firm p high n) where
    -- a queue above p, and a high runner
    loud-high : p < highest m → (t : ℕ) → high t ≡ true → m.running ≡ Some t → n.running ≡ Some t → View p high (dispatch m) (dispatch n)
    loud-high a t h e d = by (leb (highest m) (active m t)) refl
      where
        same : highest n ≡ highest m
        same = top-view m n v a

        act : active m t ≡ active n t
        act = view-active p high m n v f t h

        by : (b : Bool) → leb (highest m) (active m t) ≡ b → View p high (dispatch m) (dispatch n)
        by true z =
            view-is p high m n (dispatch m) (dispatch n) (dispatch-stay m t e z)
            (dispatch-stay n t d (ap (λ (x : ℕ). leb x (active n t)) same ∙ sym (ap (leb (highest m)) act) ∙ z)) v
        by false z =
            let above = leb-false (highest m) (active m t) z in
            both-cleared m n (preempt m t) (preempt n t) (highest m)
            (cleared-task m f.pending.core f.layer (highest m) refl t e above)
            (cleared-task n g.pending.core g.layer (highest m) same t d (omega (arith, above, act))) a
            (preempt-both p high m n v t h act)

    loud-low : p < highest m → seen high m.running ≡ None → View p high (dispatch m) (dispatch n)
    loud-low a s =
        let self = view-left p high m n v in
        let other = view-left p high n m (view-sym p high m n v) in
        let x = unseen m f.pending.core f.layer self (highest m) refl a s in
        let y = unseen n g.pending.core g.layer other (highest m) (top-view m n v a) a (sym v.runner ∙ s) in
        both-cleared m n x.0 y.0 (highest m) x.1 y.1 a
        (view_then p high x.0 m y.0 (view-sym p high m x.0 x.2) (view_then p high m n y.0 v y.2))

    loud : p < highest m → View p high (dispatch m) (dispatch n)
    unfolding seen
    loud a = go m.running refl
      where
        go : (w : Option ℕ) → m.running ≡ w → View p high (dispatch m) (dispatch n)
        go None e = loud-low a (ap (seen high) e)
        go (Some t) e = by (high t) refl
          where
            by : (b : Bool) → high t ≡ b → View p high (dispatch m) (dispatch n)
            by true h =
                loud-high a t h e
                (seen-is high n.running t (sym v.runner ∙ ap (seen high) e ∙ seen-high high t h)).0
            by false h = loud-low a (ap (seen high) e ∙ seen_low high t h)

    pub dispatch-both : View p high (dispatch m) (dispatch n)
    dispatch-both =
        compare (highest m) p
        (λ a.
        let back = view-sym p high m n v in
        let b : highest n ≤ p = compare (highest n) p (λ x. x) (λ x. absurd (omega (arith, a, x, top-view n m back x))) in
        let left = quiet m f.pending.core f.layer (view-left p high m n v) a in
        let right = quiet n g.pending.core g.layer (view-left p high n m back) b in
        view_then p high (dispatch m) m (dispatch n) (view-sym p high m (dispatch m) left) (view_then p high m n (dispatch n) v right))
        (λ a. loud a)
