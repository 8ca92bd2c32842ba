-- Laws of events: what bytes of each kind decode to, and when that is an event.
use mathlib.Core.Path.{◌≡◌, refl, ap, sym, ◌∙◌}
use mathlib.Core.Bool.{Bool, true, false, cond, ◌&&◌}
use Prim.Native.Nat.{ℕ}
use lib.Dec.{eqb}
use borrow.Author.Tests.{ne_eqb}
use Rattle.std.specs.Prelude.{None, Some, is_some, unwrap_or}
use Rattle.trace.specs.Limits.{clock_kind, release_kind, step_kind, set_kind}
use Rattle.rules.proofs.Choices.{split}
use Rattle.trace.specs.Inputs.{if_unused, decode}
use Rattle.trace.specs.declared.Input.{Input}
use Rattle.trace.specs.declared.Input.TheVariants.{Clock, Release, Step, Set}

-- a kind that is not listed
pub decode-none : (kind a value : ℕ) → (kind ≡ 1 → ⊥) → (kind ≡ 2 → ⊥) → (kind ≡ 3 → ⊥) → (kind ≡ 4 → ⊥) → decode kind a value ≡ None
unfolding decode
decode-none kind a value h1 h2 h3 h4 = simp (ne_eqb kind 1 h1, ne_eqb kind 2 h2, ne_eqb kind 3 h3, ne_eqb kind 4 h4)

-- a record's fields are good, by names for the tests
good-cases : (clock release step set a value : Bool) (x y z w : Input) →
    is_some
    (cond clock (if_unused a x) (cond release (if_unused value y) (cond step (if_unused (a && value) z) (cond set (Some w) None)))) ≡
    cond clock a (cond release value (cond step (a && value) set))
good-cases true release step set true value x y z w = refl
good-cases true release step set false value x y z w = refl
good-cases false true step set a true x y z w = refl
good-cases false true step set a false x y z w = refl
good-cases false false true set true true x y z w = refl
good-cases false false true set true false x y z w = refl
good-cases false false true set false value x y z w = refl
good-cases false false false true a value x y z w = refl
good-cases false false false false a value x y z w = refl

module _ (kind a value : ℕ) where
  pub fields-are : is_some (decode kind a value) ≡
      cond (eqb kind clock_kind) (eqb a 0)
      (cond (eqb kind release_kind) (eqb value 0) (cond (eqb kind step_kind) (eqb a 0 && eqb value 0) (eqb kind set_kind)))
  unfolding decode
  fields-are =
      good-cases (eqb kind clock_kind) (eqb kind release_kind) (eqb kind step_kind) (eqb kind set_kind) (eqb a 0) (eqb value 0)
      (Clock value) (Release a) Step (Set a value)

  -- what it is read as: a Clock or a Release, or else a Step, where what it does not use is not 0
  pub input-clock : kind ≡ 1 → a ≡ 0 → Clock value ≡ unwrap_or (decode kind a value) Step
  unfolding decode
  input-clock e f = rw (e, f)

  pub bad-clock : kind ≡ 1 → (a ≡ 0 → ⊥) → Step ≡ unwrap_or (decode kind a value) Step
  unfolding decode
  bad-clock e f = rw (e, ne_eqb a 0 f)

  pub input-release : kind ≡ 2 → value ≡ 0 → Release a ≡ unwrap_or (decode kind a value) Step
  unfolding decode
  input-release e f = rw (e, f)

  pub bad-release : kind ≡ 2 → (value ≡ 0 → ⊥) → Step ≡ unwrap_or (decode kind a value) Step
  unfolding decode
  bad-release e f = rw (e, ne_eqb value 0 f)

  -- .. a Set, and where it is none of the others a Step
  pub input-set : (v : ℕ) → kind ≡ set_kind → v ≡ value → Set a v ≡ unwrap_or (decode kind a value) Step
  unfolding decode
  input-set v k e = ap (Set a) e ∙ sym (ap (λ (n : ℕ). unwrap_or (decode n a value) Step) k)

  step-either : (zeros : Bool) → Step ≡ unwrap_or (if_unused zeros Step) Step
  step-either true = refl
  step-either false = refl

  pub input-of-step : kind ≡ 3 → Step ≡ unwrap_or (decode kind a value) Step
  unfolding decode
  input-of-step e = step-either (eqb a 0 && eqb value 0) ∙ sym (ap (λ (n : ℕ). unwrap_or (decode n a value) Step) e)

  pub input-step : (kind ≡ 1 → ⊥) → (kind ≡ 2 → ⊥) → (kind ≡ 4 → ⊥) → Step ≡ unwrap_or (decode kind a value) Step
  unfolding decode
  input-step h1 h2 h4 =
      split kind 3 input-of-step (λ h3. sym (ap (λ o. unwrap_or o Step) (decode-none kind a value h1 h2 h3 h4)))
