-- The layers of one Model: the base of a high task is above p, the active priority of a low one is not.
use mathlib.Core.Path.{◌≡◌, refl, ap, ◌∙◌}
use mathlib.Core.Logic.{inl}
use mathlib.Core.Bool.{Bool, true, false}
use mathlib.Core.List.{List, [], ◌∷◌}
use Prim.Native.Nat.{ℕ, ◌-◌, ◌≤◌, ◌<◌, max}
use native.Mathlib.Omega.{arith}
use lib.ListN.{length, length-set}
use Rattle.rules.specs.Limits.{task_limit}
use Rattle.rules.specs.Model.{Model, TaskRecord, blank, ceiling_of, highest_of, active_of, with_place, task_at, queue, active}
use Rattle.rules.specs.Moves.{stopped, preempt, head_of, dispatch}
use Rattle.rules.specs.Lists.{times_in}
use Rattle.rules.specs.Sound.{rising, runs}
use Rattle.rules.specs.declared.Place.TheVariants.{Ready}
use Rattle.rules.proofs.Counts.{times-same, times-cons, times-head}
use Rattle.rules.proofs.Levels.{base-low}
use Rattle.rules.proofs.TaskLaws.{at-keeps}
use Rattle.rules.proofs.Core.{Core, Highest, head_in}
use Rattle.rules.proofs.DispatchLaws.{Alike, alike-dispatch}
use Rattle.rules.proofs.HeldLaws.{rising-covers}
use Rattle.rules.proofs.Pending.{Pending}
use Rattle.isolation.proofs.View.{Ceilings, View}

pub record Layer (p : ℕ) (high : ℕ → Bool) (m : Model) : Type 0 where
  pub up : (t : ℕ) → high t ≡ true → p < (task_at m t).base
  pub down : (t : ℕ) → high t ≡ false → t < length m.tasks → active m t ≤ p

-- a Model before its dispatch, with its layers
pub record Firm (p : ℕ) (high : ℕ → Bool) (m : Model) : Type 0 where
  pub pending : Pending true m
  pub layer : Layer p high m

module _ (p : ℕ) (high : ℕ → Bool) (m : Model) (l : Layer p high m) where
  pub up-active : (t : ℕ) → high t ≡ true → p < active m t
  up-active t h = omega (arith, l.up t h, base-low m.ceilings (task_at m t).base (task_at m t).held)

  pub is-low : (t : ℕ) → active m t ≤ p → high t ≡ false
  is-low t g = go (high t) refl
    where
      go : (b : Bool) → high t ≡ b → b ≡ false
      go true e = absurd (omega (arith, g, up-active t e))
      go false e = refl

  pub is-high : (t : ℕ) → t < length m.tasks → p < active m t → high t ≡ true
  is-high t h g = go (high t) refl
    where
      go : (b : Bool) → high t ≡ b → b ≡ true
      go true e = refl
      go false e = absurd (omega (arith, g, l.down t e h))

  -- another place of one task
  pub layer-preempt : (t : ℕ) → Layer p high (preempt m t)
  unfolding preempt stopped
  layer-preempt t = record {
    up = λ u h. omega (arith, l.up u h, at-keeps (λ (k : TaskRecord). k.base) blank m.tasks t (with_place (task_at m t) Ready) refl u);
    down = λ u h g. omega (
      arith,
      l.down u h (omega (arith, g, length-set m.tasks t (with_place (task_at m t) Ready))),
      at-keeps (active_of m.ceilings) blank m.tasks t (with_place (task_at m t) Ready) refl u,
    );
  }

-- the layers after a dispatch are those before it
pub layer-back : (p : ℕ) (high : ℕ → Bool) (m : Model) → Core true m task_limit → Layer p high (dispatch m) → Layer p high m
layer-back p high m c l = record {
  up = λ t h. omega (arith, l.up t h, ap (λ (k : TaskRecord). k.base) (a.each t));
  down = λ t h g. omega (
    arith,
    l.down t h (omega (arith, g, a.count)),
    ap (active_of (dispatch m).ceilings) (a.each t),
    ap (λ (cs : List ℕ). active_of cs (task_at m t)) a.ceilings,
  );
}
  where
    a : Alike m (dispatch m)
    a = alike-dispatch m c

-- the head of a queue is active at its priority
module _ (p : ℕ) (high : ℕ → Bool) (m : Model) (i : ℕ) (c : Core true m task_limit) (h : Highest m i)
    (none : (u : ℕ) → runs m.running u ≡ 0) (l : Layer p high m) where
  head-level : active m (head_of m i) ≡ i
  head-level =
      let has : 0 < times_in (head_of m i) (queue m i) =
      omega (arith, times-head (head_of m i) (queue m i) h.full, times-same (head_of m i) (head_of m i) refl) in
      omega (arith, c.stand.level (i - 1) (head_of m i) has, h.one)

  pub head-low : i ≤ p → high (head_of m i) ≡ false
  head-low g = is-low p high m l (head_of m i) (omega (arith, g, head-level))

  pub head-high : p < i → high (head_of m i) ≡ true
  head-high g = is-high p high m l (head_of m i) (head_in m i c h none) (omega (arith, g, head-level))

-- the active priority of a high task is the same with other ceilings that agree above p
same-highest : (p : ℕ) (cs ds : List ℕ) → Ceilings p cs ds → (b : ℕ) (l : List ℕ) → ((o : ℕ) → 0 < times_in o l → p < ceiling_of cs o) →
    highest_of cs b l ≡ highest_of ds b l
unfolding highest_of
same-highest p cs ds e b [] f = refl
same-highest p cs ds e b (o ∷ l) f =
    same-highest p cs ds e (max b (ceiling_of cs o)) l (λ x g. f x (omega (arith, g, times-cons x o l))) ∙
    ap (λ (c : ℕ). highest_of ds (max b c) l) (e o (inl (f o (omega (arith, times-cons o o l, times-same o o refl)))))

pub same-active : (p : ℕ) (cs ds : List ℕ) → Ceilings p cs ds → (k : TaskRecord) → p < k.base → rising cs k.base k.held ≡ true →
    active_of cs k ≡ active_of ds k
same-active p cs ds e k b r =
    same-highest p cs ds e k.base k.held (λ o g. omega (arith, b, rising-covers cs k.base o k.held r g))

pub view-active : (p : ℕ) (high : ℕ → Bool) (m n : Model) → View p high m n → Firm p high m → (t : ℕ) → high t ≡ true →
    active m t ≡ active n t
view-active p high m n v f t h =
    same-active p m.ceilings n.ceilings v.ceilings (task_at m t) (f.layer.up t h)
    (f.pending.fair t (v.listed t h).0).rises ∙
    ap (active_of n.ceilings) (v.tasks t h)
