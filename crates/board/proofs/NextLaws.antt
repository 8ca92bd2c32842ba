-- The scan finds what Next says: its answer is one that the words of document 01 give, and they give no other.
use mathlib.Core.Path.{◌≡◌, refl, sym, ap, ◌∙◌, subst}
use mathlib.Core.Bool.{Bool, true, false, ◌&&◌}
use mathlib.Core.List.{List}
use Prim.Native.Nat.{ℕ, zero, suc, ◌≤◌, ◌<◌}
use native.Mathlib.Nat.{not-suc-le-zero}
use native.Mathlib.Omega.{arith}
use lib.ListN.{length}
use Rattle.std.specs.Prelude.{None, Option, Some, Ok, option_map}
use Rattle.rules.specs.Lists.{below}
use Rattle.rules.specs.Priorities.{in_range}
use Rattle.rules.proofs.Choices.{split, compare, clash, both_ways, and_left, and_right, and-make}
use Rattle.rules.proofs.SoundLaws.{below_at}
use Rattle.board.specs.declared.Row.{Row}
use Rattle.board.specs.Rows.{row_limit, is_ready_kind, row_at, Told, told_of}
use Rattle.board.specs.Next.{priority_at, position_at, BadRow, Before, NextRow, Answers}
use Rattle.board.specs.Next.Before.{higher, earlier, lower}
use Rattle.board.specs.Next.Answers.{too_many, bad, named, none}
use Rattle.board.specs.Scan.{precedes_of, leads_of, best_of, ranged, next_of}
use Rattle.board.proofs.ScanLaws.{scan_many, scan_bad, scan_good, ranged_none, precedes_before, before_precedes}

-- ---- the order of rows: strict and total
module _ (rows : List Row) where
  pub before-not-self : (i : ℕ) → Before rows i i → ⊥
  before-not-self i (higher h) = omega arith
  before-not-self i (earlier e h) = omega arith
  before-not-self i (lower e f h) = omega arith

  pub before-trans : (i j k : ℕ) → Before rows i j → Before rows j k → Before rows i k
  before-trans i j k (higher h) (higher g) = higher (omega arith)
  before-trans i j k (higher h) (earlier e g) = higher (omega arith)
  before-trans i j k (higher h) (lower e f g) = higher (omega arith)
  before-trans i j k (earlier e h) (higher g) = higher (omega arith)
  before-trans i j k (earlier e h) (earlier f g) = earlier (e ∙ f) (omega arith)
  before-trans i j k (earlier e h) (lower f p g) = earlier (e ∙ f) (omega arith)
  before-trans i j k (lower e p h) (higher g) = higher (omega arith)
  before-trans i j k (lower e p h) (earlier f g) = earlier (e ∙ f) (omega arith)
  before-trans i j k (lower e p h) (lower f q g) = lower (e ∙ f) (p ∙ q) (omega arith)

  pub before-total : {C : Type 0} (i j : ℕ) → (i ≡ j → ⊥) → (Before rows i j → C) → (Before rows j i → C) → C
  before-total {C} i j n f g =
      split (priority_at rows i) (priority_at rows j) level
      (λ o. compare (priority_at rows i) (priority_at rows j) (λ h. g (higher (omega (arith, o)))) (λ h. f (higher h)))
    where
      same : priority_at rows i ≡ priority_at rows j → position_at rows i ≡ position_at rows j → C
      same e p = compare i j (λ h. f (lower e p (omega (arith, n)))) (λ h. g (lower (sym e) (sym p) h))

      level : priority_at rows i ≡ priority_at rows j → C
      level e =
          split (position_at rows i) (position_at rows j) (same e)
          (λ o. compare (position_at rows i) (position_at rows j) (λ h. f (earlier e (omega (arith, o)))) (λ h. g (earlier (sym e) h)))

  pub next_one : (i j : ℕ) → NextRow rows i → NextRow rows j → i ≡ j
  next_one i j x y =
      split i j (λ e. e) (λ n. absurd (before-total i j n (y.first i x.ready) (x.first j y.ready)))

-- ---- the best of the first n rows: of none that is ready, or the first of them
pub record Leads (rows : List Row) (n i : ℕ) : Type 0 where
  pub low : i < n
  pub ready : is_ready_kind (row_at rows i).kind ≡ true
  pub first : (j : ℕ) → j < n → is_ready_kind (row_at rows j).kind ≡ true → Before rows j i → ⊥

abbrev pub Best : List Row → ℕ → Option (ℕ × Row) → Type 0
Best rows n None = (j : ℕ) → j < n → is_ready_kind (row_at rows j).kind ≡ true → ⊥
Best rows n (Some b) = Leads rows n b.0 × (b.1 ≡ row_at rows b.0)

module _ (rows : List Row) (n : ℕ) where
  abbrev r : Row
  r = row_at rows n

  -- row n leads
  best_new : (o : Option (ℕ × Row)) → Best rows n o → leads_of r o ≡ true → Best rows (suc n) (Some (n, r))
  best_new None h e = (
    record {
      low = omega arith;
      ready = e;
      first = λ j k f g. split j n (λ s. before-not-self rows n (subst (λ (i : ℕ). Before rows i n) s g)) (λ o. h j (omega (arith, o)) f);
    },
    refl,
  )
  best_new (Some b) h e =
      let ahead : precedes_of r (row_at rows b.0) ≡ true = ap (precedes_of r) (sym h.1) ∙
      and_right (is_ready_kind r.kind) (precedes_of r b.1) e in (
        record {
          low = omega arith;
          ready = and_left (is_ready_kind r.kind) (precedes_of r b.1) e;
          first = λ j k f g. split j n (λ s. before-not-self rows n (subst (λ (i : ℕ). Before rows i n) s g))
              (λ o. h.0.first j (omega (arith, o)) f (before-trans rows j n b.0 g (precedes_before rows n b.0 ahead)));
        },
        refl,
      )

  -- or it does not
  best_old : (o : Option (ℕ × Row)) → Best rows n o → leads_of r o ≡ false → Best rows (suc n) o
  best_old None h e =
      λ j k f. split j n (λ s. clash (sym (ap (λ (i : ℕ). is_ready_kind (row_at rows i).kind) (sym s) ∙ f) ∙ e))
      (λ o. h j (omega (arith, o)) f)
  best_old (Some b) h e = (
    record {
      low = omega (arith, h.0.low);
      ready = h.0.ready;
      first = λ j k f g. split j n
          (λ s.
          let ready : is_ready_kind r.kind ≡ true = ap (λ (i : ℕ). is_ready_kind (row_at rows i).kind) (sym s) ∙ f in
          let before : Before rows n b.0 = subst (λ (i : ℕ). Before rows i b.0) s g in
          let ahead : precedes_of r b.1 ≡ true = ap (precedes_of r) h.1 ∙ before_precedes rows n b.0 h.0.low before in
          clash (sym (and-make _ _ ready ahead) ∙ e))
          (λ o. h.0.first j (omega (arith, o)) f g);
    },
    h.1,
  )

pub best_is : (rows : List Row) (n : ℕ) → Best rows n (best_of rows n)
best_is rows zero = λ j h f. absurd (not-suc-le-zero h)
best_is rows (suc n) =
    let h : Best rows n (best_of rows n) = best_is rows n in
    both_ways (Best rows (suc n)) (leads_of (row_at rows n) (best_of rows n)) _ _
    (best_new rows n (best_of rows n) h) (best_old rows n (best_of rows n) h)

-- ---- a priority out of range
pub bad_some : (rows : List Row) (n : ℕ) → n ≤ length rows → ranged rows n ≡ false → BadRow rows
unfolding below
bad_some rows zero h e = clash (sym (ranged_none rows) ∙ e)
bad_some rows (suc n) h e = go (ranged rows n) (in_range (priority_at rows n)) refl refl e (bad_some rows n (omega arith))
  where
    go : (a b : Bool) → ranged rows n ≡ a → in_range (priority_at rows n) ≡ b → (a && b) ≡ false → (ranged rows n ≡ false → BadRow rows) →
        BadRow rows
    go false b f g k more = more f
    go true false f g k more = record { at = n; there = omega arith; bad = g }
    go true true f g k more = clash k

-- ---- the answer
module _ (rows : List Row) where
  -- the answer of the scan is one that Next gives
  pub next-is : Answers rows (next_of rows)
  next-is = compare (length rows) row_limit fewer (λ h. subst (Answers rows) (sym (ap told_of (scan_many rows h))) (too_many h))
    where
      ranked : length rows ≤ row_limit → ranged rows (length rows) ≡ true → (o : Option (ℕ × Row)) → Best rows (length rows) o →
          Answers rows (told_of (Ok (option_map (λ b. b.0) o)))
      ranked h f None best =
          none h (below_at (length rows) (λ i. in_range (priority_at rows i)) f) (λ j r. best j r.there r.ready)
      ranked h f (Some b) best =
          named h (below_at (length rows) (λ i. in_range (priority_at rows i)) f) b.0 (record {
            ready = record { there = best.0.low; ready = best.0.ready };
            first = λ j r. best.0.first j r.there r.ready;
          })

      fewer : length rows ≤ row_limit → Answers rows (next_of rows)
      fewer h = go (ranged rows (length rows)) refl
        where
          go : (y : Bool) → ranged rows (length rows) ≡ y → Answers rows (next_of rows)
          go true f =
              subst (Answers rows) (sym (ap told_of (scan_good rows h f)))
              (ranked h f (best_of rows (length rows)) (best_is rows (length rows)))
          go false f =
              subst (Answers rows) (sym (ap told_of (scan_bad rows h f))) (bad h (bad_some rows (length rows) (omega arith) f))

  -- and Next gives no two
  one_answer : (a c : Told) → Answers rows a → Answers rows c → a ≡ c
  one_answer a c (too_many h) (too_many g) = refl
  one_answer a c (too_many h) (bad g x) = absurd (omega arith)
  one_answer a c (too_many h) (named g x i y) = absurd (omega arith)
  one_answer a c (too_many h) (none g x y) = absurd (omega arith)
  one_answer a c (bad h x) (too_many g) = absurd (omega arith)
  one_answer a c (bad h x) (bad g y) = refl
  one_answer a c (bad h x) (named g y i z) = clash (sym (y x.at x.there) ∙ x.bad)
  one_answer a c (bad h x) (none g y z) = clash (sym (y x.at x.there) ∙ x.bad)
  one_answer a c (named h x i y) (too_many g) = absurd (omega arith)
  one_answer a c (named h x i y) (bad g z) = clash (sym (x z.at z.there) ∙ z.bad)
  one_answer a c (named h x i y) (named g z j w) = ap (λ (k : ℕ). told_of (Ok (Some k))) (next_one rows i j y w)
  one_answer a c (named h x i y) (none g z w) = absurd (w i y.ready)
  one_answer a c (none h x y) (too_many g) = absurd (omega arith)
  one_answer a c (none h x y) (bad g z) = clash (sym (x z.at z.there) ∙ z.bad)
  one_answer a c (none h x y) (named g z j w) = absurd (y j w.ready)
  one_answer a c (none h x y) (none g z w) = refl

  -- so a board answers just what Next gives
  pub next-only : (a : Told) → Answers rows a → next_of rows ≡ a
  next-only a x = one_answer (next_of rows) a next-is x
