-- The fresh start: low tasks that join their queues, however many, do not change how the high ones stand.
use mathlib.Core.Path.{◌≡◌, refl, ap, ◌∙◌, sym}
use mathlib.Core.Bool.{Bool, true, false}
use mathlib.Core.List.{[]}
use Prim.Native.Nat.{ℕ, zero, suc, ◌+◌, ◌≤◌, ◌<◌}
use native.Mathlib.Omega.{arith}
use lib.ListN.{length}
use Rattle.std.specs.Prelude.{None, Some}
use Rattle.rules.specs.Limits.{task_limit}
use Rattle.rules.specs.Model.{Model, TaskRecord, highest_of, active_of, active}
use Rattle.rules.specs.Moves.{become_ready}
use Rattle.rules.specs.Fresh.{new_task, unstarted, join_from, fresh_model}
use Rattle.rules.proofs.Core.{act-low}
use Rattle.rules.proofs.FreshLaws.{new-length, new-at, Joined, join_one, joined-none, joined, joined-pending, fresh-task}
use Rattle.format.specs.Roster.{Roster, setup_of, base_of}
use Rattle.trace.specs.Config.{start_of}
use Rattle.safety.specs.History.{after_from}
use Rattle.safety.specs.Reckon.{Status}
use Rattle.safety.specs.Safe.{reckoned}
use Rattle.format.proofs.PassedLaws.{Orderly}
use Rattle.safety.proofs.Invariant.{Inv}
use Rattle.safety.proofs.Theorem.{invariant}
use Rattle.isolation.specs.Sharing.{Listed}
use Rattle.isolation.proofs.View.{Ceilings, View, view-sym, ready-both, ready-low}
use Rattle.isolation.proofs.Layers.{Layer, layer-back}
use Rattle.isolation.proofs.Dispatching.{dispatch-both}
use Rattle.isolation.proofs.Sorting.{Sorts, listed_above, Floors}
use Rattle.isolation.proofs.Courses.{Course, course-layer}

-- one roster
module _ (r : Roster) (k : Orderly r) where
  abbrev Joins : ℕ → Model → Type 0
  Joins i m = Joined (setup_of r) k.start i m

  abbrev joins-next : (i : ℕ) (m : Model) → Listed r i → Joins i m → Joins (suc i) (become_ready m i)
  joins-next i m h a = join_one (setup_of r) k.start i m h a

  join-level : (i : ℕ) (m : Model) → Listed r i → Joins i m → active m i ≡ base_of r i
  unfolding highest_of
  join-level i m h a = ap (active_of m.ceilings) (a.left i (omega arith) ∙ new-at r.bases i h)

  -- the Model whose dispatch is the fresh one
  abbrev all-joined : Model
  all-joined = join_from 0 (length r.bases) (unstarted (setup_of r))

  -- the start of a run
  inv-start : Inv r (start_of r) (reckoned r [])
  unfolding after_from
  inv-start = invariant r k []

  module _ (p : ℕ) (high : ℕ → Bool) (s : Sorts p high r) where
    floors-start : Floors p high (reckoned r [])
    unfolding start_of
    floors-start u h =
        let a = s.above u h in
        let l = listed_above p r u a.base in
        let at = inv-start.agree.each u in
        let new = fresh-task (setup_of r) k.start u l in
        record {
          base = omega (arith, a.base, ap (λ (x : Status). x.base) at, ap (λ (x : TaskRecord). x.base) new);
          waiting = λ q e.
              let w = ap (λ (x : Status). x.waiting) at in
              let n = ap (λ (x : TaskRecord). x.waiting) new in
              let i : None ≡ Some q = sym n ∙ sym w ∙ e in
              absurd (let z : ◌≡◌ {A = ℕ} 0 1 = cc in omega arith);
        }

    -- the run as it begins
    pub start-course : Course p high r (start_of r)
    start-course =
        record { orderly = k; sorts = s; reckoning = reckoned r []; inv = inv-start; floors = floors-start }

    layer-start : Layer p high (fresh_model (setup_of r))
    unfolding start_of
    layer-start = course-layer p high r (start_of r) start-course

    layer-joined : Layer p high all-joined
    unfolding fresh_model
    layer-joined = layer-back p high all-joined (joined (setup_of r) k.start).core layer-start

    -- a low task joins, and then all from i on
    one-low : (i : ℕ) (x m : Model) → i < length r.bases → Joins i m → high i ≡ false → View p high x m → View p high x (become_ready m i)
    one-low i x m l a h v =
        let is = join-level i m l a in
        ready-low p high x m v i h (act-low m task_limit a.core i (omega (arith, l, a.size)))
        (omega (arith, is, (s.below i h l).base))

    joins-low : (n i : ℕ) (x m : Model) → i + n ≡ length r.bases → Joins i m → ((u : ℕ) → i ≤ u → high u ≡ false) →
        View p high x m → View p high x (join_from i n m)
    unfolding join_from
    joins-low zero i x m e a f v = v
    joins-low (suc n) i x m e a f v =
        joins-low n (suc i) x (become_ready m i) (omega arith) (joins-next i m (omega arith) a) (λ u h. f u (omega arith))
        (one-low i x m (omega arith) a (f i (omega arith)) v)

    -- past the last task nobody is high
    past-low : (u : ℕ) → length r.bases ≤ u → high u ≡ false
    past-low u h = go (high u) refl
      where
        go : (b : Bool) → high u ≡ b → b ≡ false
        go true e = absurd (omega (arith, h, listed_above p r u (s.above u e).base))
        go false e = refl

-- two rosters
module _ (p : ℕ) (high : ℕ → Bool) (r s : Roster) (k : Orderly r) (l : Orderly s) (a : Sorts p high r) (b : Sorts p high s)
    (bases : (t : ℕ) → high t ≡ true → base_of r t ≡ base_of s t) (ceilings : Ceilings p r.ceilings s.ceilings) where
  unstarted-both : View p high (unstarted (setup_of r)) (unstarted (setup_of s))
  unstarted-both = record {
    now = refl;
    runner = refl;
    tasks = λ t h. new-at r.bases t (listed_above p r t (a.above t h).base) ∙ ap new_task (bases t h) ∙
        sym (new-at s.bases t (listed_above p s t (b.above t h).base));
    listed = λ t h. (
      omega (arith, listed_above p r t (a.above t h).base, new-length r.bases),
      omega (arith, listed_above p s t (b.above t h).base, new-length s.bases),
    );
    rows = λ q h. refl;
    size = refl;
    ceilings = ceilings;
  }

  one-both : (i : ℕ) (m n : Model) → i < length r.bases → i < length s.bases → Joins r k i m → Joins s l i n → View p high m n →
      View p high (become_ready m i) (become_ready n i)
  one-both i m n f g x y v = by (high i) refl
    where
      by : (c : Bool) → high i ≡ c → View p high (become_ready m i) (become_ready n i)
      by true h = ready-both p high m n v i h (join-level r k i m f x ∙ bases i h ∙ sym (join-level s l i n g y))
      by false h =
          let w = one-low r k p high a i n m f x h (view-sym p high m n v) in
          one-low s l p high b i (become_ready m i) n g y h (view-sym p high n (become_ready m i) w)

  joins-both : (c d i : ℕ) (m n : Model) → i + c ≡ length r.bases → i + d ≡ length s.bases → Joins r k i m → Joins s l i n →
      View p high m n → View p high (join_from i c m) (join_from i d n)
  unfolding join_from
  joins-both zero d i m n e f x y v = joins-low s l p high b d i m n f y (λ u h. past-low r k p high a u (omega arith)) v
  joins-both (suc c) zero i m n e f x y v =
      view-sym p high n (join_from i (suc c) m)
      (joins-low r k p high a (suc c) i n m e x (λ u h. past-low s l p high b u (omega arith)) (view-sym p high m n v))
  joins-both (suc c) (suc d) i m n e f x y v =
      joins-both c d (suc i) (become_ready m i) (become_ready n i) (omega arith) (omega arith) (joins-next r k i m (omega arith) x)
      (joins-next s l i n (omega arith) y) (one-both i m n (omega arith) (omega arith) x y v)

  pub start-view : View p high (start_of r).model (start_of s).model
  unfolding start_of fresh_model
  start-view =
      dispatch-both p high (all-joined r k) (all-joined s l)
      (joins-both (length r.bases) (length s.bases) 0 (unstarted (setup_of r)) (unstarted (setup_of s))
      (omega arith) (omega arith) (joined-none (setup_of r) k.start)
      (joined-none (setup_of s) l.start) unstarted-both)
      (record { pending = joined-pending (setup_of r) k.start; layer = layer-joined r k p high a })
      (record { pending = joined-pending (setup_of s) l.start; layer = layer-joined s l p high b })
