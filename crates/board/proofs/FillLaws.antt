-- Laws of a filled board: what its rows are, what a position says, and whom the board then names.
use mathlib.Core.Path.{◌≡◌, refl, sym, ap, ◌∙◌, subst}
use mathlib.Core.Bool.{Bool, true, false, cond}
use mathlib.Core.List.{List, [], ◌∷◌, ◌++◌}
use Prim.Native.Nat.{ℕ, zero, suc, ◌-◌, ◌≤◌, ◌<◌}
use native.Mathlib.Nat.{not-suc-le-zero}
use native.Mathlib.Omega.{arith}
use borrow.Author.Tests.{eqb-true, eq-eqb}
use lib.Dec.{eqb}
use lib.ListN.{length, get_or, length-append, get_or-append}
use lib.Seq.{get_or_at}
use Rattle.rules.specs.Limits.{task_limit, first_priority, last_priority}
use Rattle.std.specs.Prelude.{None, Some, Ok}
use Rattle.rules.specs.Kinds.{kind_of}
use Rattle.rules.specs.Priorities.{in_range}
use Rattle.rules.specs.Model.{Model, task_at, queue, active}
use Rattle.rules.specs.Moves.{highest, head_of}
use Rattle.rules.specs.Sound.{is_ready, queued, sound}
use Rattle.rules.specs.declared.Place.{Place}
use Rattle.rules.specs.declared.Place.TheVariants.{Running, Ready, Delayed, Suspended, Ended}
use Rattle.rules.specs.Lists.{times_in}
use Rattle.rules.specs.Clauses.{Sound}
use Rattle.rules.proofs.Choices.{split, clash, cond-true, cond-false}
use Rattle.rules.proofs.Counts.{times-same, times-cons, times-append}
use Rattle.rules.proofs.Counts.{times-head, queued-at, Row as Where, row-of}
use Rattle.rules.proofs.Core.{Core, Highest, highest-is, act-low, act-high}
use Rattle.rules.proofs.PriorityLaws.{bounds-in}
use Rattle.rules.proofs.SoundLaws.{sound-is, one_less, under-highest}
use Rattle.rules.proofs.Soundness.{sound-good}
use Rattle.board.specs.declared.Row.{Row}
use Rattle.board.specs.Rows.{row_limit, is_ready_kind, no_row, row_at, told_of}
use Rattle.board.specs.Next.{priority_at, position_at, ReadyRow, Before}
use Rattle.board.specs.Next.Before.{higher, earlier, lower}
use Rattle.board.specs.Next.Answers.{named, none}
use Rattle.board.specs.Scan.{next_of}
use Rattle.memory.specs.Rows.{place_in}
use Rattle.board.specs.Fill.{queue_position, row_of, rows_to, rows_of}
use Rattle.board.proofs.NextLaws.{next-only}

-- ---- how many stand before a task in a queue
pub before-is : (t : ℕ) (front back : List ℕ) → times_in t front ≡ 0 → place_in t (front ++ (t ∷ back)) ≡ length front
unfolding place_in
before-is t [] back e = cond-true (eqb t t) 0 _ (eq-eqb t t refl)
before-is t (u ∷ front) back e = go (eqb u t) refl (before-is t front back)
  where
    go : (b : Bool) → eqb u t ≡ b → (times_in t front ≡ 0 → place_in t (front ++ (t ∷ back)) ≡ length front) →
        cond b 0 (suc (place_in t (front ++ (t ∷ back)))) ≡ suc (length front)
    go true f k = absurd (omega (arith, e, times-cons t u front, times-same u t (eqb-true u t f)))
    go false f k = ap suc (k (omega (arith, e, times-cons t u front)))

-- the task is found there
pub before-low : (t : ℕ) (q : List ℕ) → 0 < times_in t q → place_in t q < length q
unfolding place_in times_in
before-low t [] h = absurd (not-suc-le-zero h)
before-low t (u ∷ q) h = go (eqb u t) refl h (before-low t q)
  where
    go : (b : Bool) → eqb u t ≡ b → 0 < cond b (suc (times_in t q)) (times_in t q) → (0 < times_in t q → place_in t q < length q) →
        cond b 0 (suc (place_in t q)) < suc (length q)
    go true f g k = omega arith
    go false f g k = omega (arith, k g)

pub before_at : (t : ℕ) (q : List ℕ) → 0 < times_in t q → get_or q (place_in t q) 0 ≡ t
unfolding place_in times_in
before_at t [] h = absurd (not-suc-le-zero h)
before_at t (u ∷ q) h = go (eqb u t) refl h (before_at t q)
  where
    go : (b : Bool) → eqb u t ≡ b → 0 < cond b (suc (times_in t q)) (times_in t q) →
        (0 < times_in t q → get_or q (place_in t q) 0 ≡ t) → get_or (u ∷ q) (cond b 0 (suc (place_in t q))) 0 ≡ t
    go true f g k = eqb-true u t f
    go false f g k = k g

-- nobody stands before the head
pub before_head : (q : List ℕ) → 0 < length q → place_in (get_or q 0 0) q ≡ 0
unfolding place_in
before_head [] h = absurd (not-suc-le-zero h)
before_head (u ∷ q) h = cond-true (eqb u u) 0 _ (eq-eqb u u refl)

-- ---- the rows
pub rows-length : (m : Model) (n : ℕ) → length (rows_to m n) ≡ n
unfolding rows_to
rows-length m zero = refl
rows-length m (suc n) = length-append (rows_to m n) (row_of m n ∷ []) ∙ omega (arith, rows-length m n)

pub rows_at : (m : Model) (n t : ℕ) → t < n → row_at (rows_to m n) t ≡ row_of m t
unfolding rows_to
rows_at m zero t h = absurd (not-suc-le-zero h)
rows_at m (suc n) t h =
    split t n (λ e. get_or_at (rows_to m n) (row_of m n) [] no_row t (rows-length m n ∙ sym e) ∙ sym (ap (row_of m) e))
    (λ o. get_or-append (rows_to m n) (row_of m n ∷ []) no_row t (omega (arith, o, rows-length m n)) ∙ rows_at m n t (omega (arith, o)))

-- a place that is ready
ready-is : (x : Place) → is_ready_kind (kind_of x) ≡ true → is_ready x ≡ 1
unfolding is_ready
ready-is Running e = clash (sym e)
ready-is Ready e = refl
ready-is (Delayed d) e = clash (sym e)
ready-is Suspended e = clash (sym e)
ready-is Ended e = clash (sym e)

is-ready : (x : Place) → 0 < is_ready x → is_ready_kind (kind_of x) ≡ true
unfolding is_ready
is-ready Running h = absurd (not-suc-le-zero h)
is-ready Ready h = refl
is-ready (Delayed d) h = absurd (not-suc-le-zero h)
is-ready Suspended h = absurd (not-suc-le-zero h)
is-ready Ended h = absurd (not-suc-le-zero h)

-- a task has the columns of document 01 on its row
module _ (m : Model) (t : ℕ) where
  pub row-kind : (row_of m t).kind ≡ kind_of (task_at m t).place
  unfolding row_of
  row-kind = refl

  pub row-priority : (row_of m t).priority.0 ≡ active m t
  unfolding row_of
  row-priority = refl

  pub row-ready : is_ready_kind (kind_of (task_at m t).place) ≡ true → (row_of m t).position ≡ place_in t (queue m (active m t))
  unfolding row_of queue_position
  row-ready e = cond-true (is_ready_kind (kind_of (task_at m t).place)) _ 0 e

  pub row_other : is_ready_kind (kind_of (task_at m t).place) ≡ false → (row_of m t).position ≡ 0
  unfolding row_of queue_position
  row_other e = cond-false (is_ready_kind (kind_of (task_at m t).place)) _ 0 e

-- ---- of a sound Model
module _ (m : Model) (good : sound m ≡ true) where
  abbrev s : Sound m
  s = sound-is m good

  -- the queue for p + 1 stands at p
  in-queue : (t p : ℕ) → 0 < times_in t (get_or m.ready p []) → 0 < times_in t (queue m (suc p))
  in-queue t p g = subst (λ (q : ℕ). 0 < times_in t (get_or m.ready q [])) (sym (one_less p)) g

  -- a ready task stands in the queue for its active priority, once
  stands : (t : ℕ) → t < length m.tasks → is_ready_kind (kind_of (task_at m t).place) ≡ true → queued m.ready t ≡ 1
  stands t h e = (s.placed t h).1 ∙ ready-is (task_at m t).place e

  stands-in : (t : ℕ) → t < length m.tasks → is_ready_kind (kind_of (task_at m t).place) ≡ true →
      0 < times_in t (queue m (active m t))
  stands-in t h e =
      let w : Where m.ready t = row-of m.ready t (omega (arith, stands t h e)) in
      let low : w.at < last_priority = omega (arith, w.low, s.numbers.queues) in
      let there : 0 < times_in t (queue m (suc w.at)) = in-queue t w.at w.has in
      subst (λ (p : ℕ). 0 < times_in t (queue m p)) (sym (s.level w.at t low there)) there

  stands-once : (t : ℕ) → t < length m.tasks → is_ready_kind (kind_of (task_at m t).place) ≡ true →
      times_in t (queue m (active m t)) ≡ 1
  stands-once t h e =
      omega (arith, stands-in t h e, stands t h e, queued-at m.ready (active m t - 1) t)

  -- its position is how many stand before it there, and it is found there
  pub position-is : (t : ℕ) (front back : List ℕ) → t < length m.tasks → is_ready_kind (kind_of (task_at m t).place) ≡ true →
      queue m (active m t) ≡ front ++ (t ∷ back) → (row_of m t).position ≡ length front
  position-is t front back h e f =
      row-ready m t e ∙ ap (place_in t) f ∙
      before-is t front back
      (omega (
        arith,
        stands-once t h e,
        ap (times_in t) f,
        times-append t front (t ∷ back),
        times-cons t t back,
        times-same t t refl,
      ))

  pub position_at_lem : (t : ℕ) → t < length m.tasks → is_ready_kind (kind_of (task_at m t).place) ≡ true →
      get_or (queue m (active m t)) (row_of m t).position 0 ≡ t
  position_at_lem t h e =
      ap (λ (i : ℕ). get_or (queue m (active m t)) i 0) (row-ready m t e) ∙ before_at t (queue m (active m t)) (stands-in t h e)

  -- ---- the board just filled
  abbrev rows : List Row
  rows = rows_of m

  abbrev count : ℕ
  count = length m.tasks

  few : length rows ≤ row_limit
  few = omega (arith, rows-length m count, s.numbers.count)

  at_row : (t : ℕ) → t < length rows → (t < count) × (row_at rows t ≡ row_of m t)
  at_row t h = let g : t < count = omega (arith, rows-length m count) in (g, rows_at m count t g)

  row-in-range : (t : ℕ) → t < length rows → in_range (priority_at rows t) ≡ true
  row-in-range t h =
      let g = at_row t h in
      let c : Core false m task_limit = (sound-good m good).pending.core in
      ap (λ (r : Row). in_range r.priority.0) g.1 ∙ ap in_range (row-priority m t) ∙
      bounds-in (active m t) (act-low m task_limit c t g.0) (act-high m task_limit c t g.0)

  -- a ready task has a ready row, and a ready row is a ready task's
  ready-row : (t : ℕ) → t < count → is_ready_kind (kind_of (task_at m t).place) ≡ true → ReadyRow rows t
  ready-row t g e = record {
    there = omega (arith, rows-length m count, g);
    ready = ap (λ (x : Row). is_ready_kind x.kind) (rows_at m count t g) ∙ ap is_ready_kind (row-kind m t) ∙ e;
  }

  row-is-ready : (t : ℕ) → ReadyRow rows t → is_ready_kind (kind_of (task_at m t).place) ≡ true
  row-is-ready t r =
      ap is_ready_kind (sym (row-kind m t)) ∙ ap (λ (x : Row). is_ready_kind x.kind) (sym (at_row t r.there).1) ∙ r.ready

  row-priority-at : (t : ℕ) → t < length rows → priority_at rows t ≡ active m t
  row-priority-at t h = ap (λ (r : Row). r.priority.0) (at_row t h).1 ∙ row-priority m t

  row-position-at : (t : ℕ) → ReadyRow rows t → position_at rows t ≡ place_in t (queue m (active m t))
  row-position-at t r = ap (λ (x : Row). x.position) (at_row t r.there).1 ∙ row-ready m t (row-is-ready t r)

  under : (t : ℕ) → ReadyRow rows t → active m t ≤ highest m
  under t r =
      under-highest m t s.numbers.queues (λ p u h g. s.level p u h (in-queue u p g))
      (omega (arith, stands t (at_row t r.there).0 (row-is-ready t r)))

  module _ (some : highest m ≡ 0 → ⊥) where
    abbrev h : Highest m (highest m)
    h = highest-is m some

    abbrev head : ℕ
    head = head_of m (highest m)

    head-has : 0 < times_in head (queue m (highest m))
    head-has =
        omega (arith, times-head head (queue m (highest m)) h.full, times-same head head refl)

    level-is : suc (highest m - 1) ≡ highest m
    level-is = omega (arith, h.one)

    at_level : 0 < times_in head (queue m (suc (highest m - 1)))
    at_level = subst (λ (p : ℕ). 0 < times_in head (queue m p)) (sym level-is) head-has

    head-low : head < count
    head-low = s.numbers.queued (highest m - 1) head (omega (arith, h.one, h.top)) at_level

    head-active : active m head ≡ highest m
    head-active = s.level (highest m - 1) head (omega (arith, h.one, h.top)) at_level ∙ level-is

    head-ready : is_ready_kind (kind_of (task_at m head).place) ≡ true
    head-ready =
        is-ready (task_at m head).place
        (omega (arith, head-has, queued-at m.ready (highest m - 1) head, (s.placed head head-low).1))

    head-row : ReadyRow rows head
    head-row = ready-row head head-low head-ready

    head_first : position_at rows head ≡ 0
    head_first =
        row-position-at head head-row ∙ ap (λ (p : ℕ). place_in head (queue m p)) head-active ∙
        before_head (queue m (highest m)) h.full

    head-best : (j : ℕ) → ReadyRow rows j → Before rows j head → ⊥
    head-best j r (higher g) =
        omega (
          arith,
          row-priority-at head head-row.there,
          head-active,
          row-priority-at j r.there,
          under j r,
        )
    head-best j r (earlier e g) = omega (arith, head_first)
    head-best j r (lower e p g) =
        let level : active m j ≡ highest m = omega (
          arith,
          row-priority-at head head-row.there,
          head-active,
          row-priority-at j r.there,
        ) in
        let first : (row_of m j).position ≡ 0 = sym (ap (λ (x : Row). x.position) (at_row j r.there).1) ∙ p ∙ head_first in
        let same : j ≡ head = sym (position_at_lem j (at_row j r.there).0 (row-is-ready j r)) ∙
        ap (λ (i : ℕ). get_or (queue m (active m j)) i 0) first ∙ ap (λ (q : ℕ). get_or (queue m q) 0 0) level in
        omega arith

    pub filled_next : next_of rows ≡ told_of (Ok (Some head))
    filled_next = next-only rows _ (named few row-in-range head (record { ready = head-row; first = head-best }))

  -- a task that is ready makes some queue the highest
  some-queue : (t : ℕ) → t < count → (task_at m t).place ≡ Ready → highest m ≡ 0 → ⊥
  some-queue t g e z =
      let low : first_priority ≤ active m t = act-low m task_limit (sound-good m good).pending.core t g in
      omega (arith, under t (ready-row t g (ap (λ (x : Place). is_ready_kind (kind_of x)) e)))

  -- a board just filled, with a ready task: it names the head of the highest queue
  pub filled-ready : (t : ℕ) → t < count → (task_at m t).place ≡ Ready → next_of rows ≡ told_of (Ok (Some (head_of m (highest m))))
  filled-ready t g e = filled_next (some-queue t g e)

  -- without one, nobody
  pub filled-nobody : highest m ≡ 0 → next_of rows ≡ told_of (Ok None)
  filled-nobody e = next-only rows _ (none few row-in-range (λ t r.
      let low : first_priority ≤ active m t = act-low m task_limit (sound-good m good).pending.core t (at_row t r.there).0 in
      omega (arith, under t r)))
