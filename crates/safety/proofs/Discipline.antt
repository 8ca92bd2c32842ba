-- The scripts of a roster that passes: at its position in its script, what is reckoned of a task fits the step that comes next.
use mathlib.Core.Path.{◌≡◌, refl, ap, ◌∙◌, sym, subst}
use mathlib.Core.Bool.{Bool, true, cond}
use mathlib.Core.List.{List, [], ◌∷◌}
use Prim.Native.Nat.{ℕ, suc, ◌-◌, ◌≤◌, ◌<◌}
use native.Mathlib.Nat.{not-suc-le-zero}
use native.Mathlib.Omega.{arith}
use borrow.Author.Tests.{eqb-true, eq-eqb, ne_eqb, ltb-true, ltb-false, not-false}
use lib.Dec.{eqb}
use lib.ListN.{length, get_or, take}
use Rattle.std.specs.Prelude.{Some}
use Rattle.rules.specs.Model.{ceiling_of, highest_of}
use Rattle.rules.specs.Lists.{times_in, without}
use Rattle.rules.specs.declared.Priority.{Priority}
use Rattle.rules.proofs.Counts.{times-same, times-cons}
use Rattle.format.specs.Roster.{Roster, script_of, base_of}
use Rattle.format.specs.Form.{names_listed}
use Rattle.format.specs.Check.{something, is_innermost, held_after, held_before, while_held, low_ceiling, not_innermost}
use Rattle.format.specs.Check.{other_task, top_at}
use Rattle.format.specs.declared.Step.{Step}
use Rattle.format.specs.declared.Step.TheVariants.{Enter, Leave, Delay, Suspend, Release, Set, Again, Finish}
use Rattle.format.proofs.StepLaws.{in-script}
use Rattle.format.proofs.WalkLaws.{Clean}
use Rattle.format.proofs.KeptLaws.{top_set, highest-low, highest-held, highest-least}
use Rattle.format.proofs.PassedLaws.{Orderly}
use Rattle.safety.specs.Reckon.{Status, step_due}

-- to leave the innermost of distinct objects is to give up the last
last-in : (o : ℕ) (l : List ℕ) → 0 < length l → get_or l (length l - 1) 0 ≡ o → 0 < times_in o l
last-in o [] h e = absurd (not-suc-le-zero h)
last-in o (x ∷ []) h e = omega (arith, times-same x o e)
last-in o (x ∷ y ∷ l) h e =
    let i : suc (suc (length l)) - 1 ≡ suc (suc (length l) - 1) = omega arith in
    let f : get_or (y ∷ l) (length (y ∷ l) - 1) 0 ≡ o = sym (ap (λ (v : ℕ). get_or (x ∷ y ∷ l) v 0) i) ∙ e in
    omega (arith, times-cons o x (y ∷ l), last-in o (y ∷ l) (omega arith) f)

pub without-last : (o : ℕ) (l : List ℕ) → 0 < length l → get_or l (length l - 1) 0 ≡ o → times_in o l ≤ 1 →
    without o l ≡ take (length l - 1) l
unfolding without
without-last o [] h e g = absurd (not-suc-le-zero h)
without-last o (x ∷ []) h e g = ap (λ (b : Bool). cond b [] (x ∷ [])) (eq-eqb x o e)
without-last o (x ∷ y ∷ l) h e g =
    let i : suc (suc (length l)) - 1 ≡ suc (suc (length l) - 1) = omega arith in
    let f : get_or (y ∷ l) (length (y ∷ l) - 1) 0 ≡ o = sym (ap (λ (v : ℕ). get_or (x ∷ y ∷ l) v 0) i) ∙ e in
    let c : 0 < times_in o (y ∷ l) = last-in o (y ∷ l) (omega arith) f in
    let n : x ≡ o → ⊥ = λ q. omega (arith, times-cons o x (y ∷ l), times-same x o q, g, c) in
    ap (λ (b : Bool). cond b (y ∷ l) (x ∷ without o (y ∷ l))) (ne_eqb x o n) ∙
    ap (λ (v : List ℕ). x ∷ v) (without-last o (y ∷ l) (omega arith) f (omega (arith, times-cons o x (y ∷ l), g))) ∙
    ap (λ (v : ℕ). take v (x ∷ y ∷ l)) (sym i)

-- what is reckoned of the task t fits its script
pub record Fits (r : Roster) (t : ℕ) (a : Status) : Type 0 where
  pub within : a.position ≤ length (script_of r t)
  pub held : a.inside ≡ held_before (script_of r t) a.position
  pub based : a.base ≤ top_at r t
  pub awaits : (p : ℕ) → a.waiting ≡ Some p → p ≤ top_at r t

module _ (r : Roster) (k : Orderly r) (t : ℕ) (low : t < length r.bases) (a : Status) (f : Fits r t a) where
  -- the rules of the step that comes next
  rule : (x : Step) → step_due r t a ≡ x → Clean r.ceilings (top_at r t) a.inside t x
  rule x e =
      subst (Clean r.ceilings (top_at r t) a.inside t) e
      (subst (λ (h : List ℕ). Clean r.ceilings (top_at r t) h t (step_due r t a)) (sym f.held)
      (k.rules t a.position low f.within))

  listed : (x : Step) → step_due r t a ≡ x → names_listed (length r.bases) (length r.ceilings) x ≡ true
  listed x e = ap (names_listed (length r.bases) (length r.ceilings)) (sym e) ∙ k.names t a.position low

  -- the position behind a step that is not the end
  pub fits_next : (x : Step) → step_due r t a ≡ x → (x ≡ Finish → ⊥) → suc a.position ≤ length (script_of r t)
  fits_next x e n = in-script (script_of r t) a.position (λ i. n (sym e ∙ i))

  pub held_next : (x : Step) → step_due r t a ≡ x → held_after a.inside x ≡ held_before (script_of r t) (suc a.position)
  unfolding held_before
  held_next x e = ap (λ (h : List ℕ). held_after h x) f.held ∙ ap (held_after (held_before (script_of r t) a.position)) (sym e)

  -- nothing is held at Delay, Suspend, Again and the end
  none-held : (x : Step) → step_due r t a ≡ x → while_held a.inside x ≡ something a.inside → length a.inside ≡ 0
  none-held x e w = omega (arith, ltb-false 0 (length a.inside) (sym w ∙ (rule x e).free))

  pub free-delay : (d : ℕ) → step_due r t a ≡ Delay d → length a.inside ≡ 0
  unfolding while_held
  free-delay d e = none-held (Delay d) e refl

  pub free-suspend : step_due r t a ≡ Suspend → length a.inside ≡ 0
  unfolding while_held
  free-suspend e = none-held Suspend e refl

  pub free-again : step_due r t a ≡ Again → length a.inside ≡ 0
  unfolding while_held
  free-again e = none-held Again e refl

  pub free-finish : step_due r t a ≡ Finish → length a.inside ≡ 0
  unfolding while_held
  free-finish e = none-held Finish e refl

  -- Enter: the object is listed and not held, and its ceiling is high enough
  pub enter-listed : (o : ℕ) → step_due r t a ≡ Enter o → o < length r.ceilings
  unfolding names_listed
  enter-listed o e = ltb-true o (length r.ceilings) (listed (Enter o) e)

  pub enter-free : (o : ℕ) → step_due r t a ≡ Enter o → times_in o a.inside ≡ 0
  unfolding while_held
  enter-free o e = omega (arith, ltb-false 0 (times_in o a.inside) (rule (Enter o) e).free)

  pub enter-high : (o : ℕ) → step_due r t a ≡ Enter o → highest_of r.ceilings a.base a.inside ≤ ceiling_of r.ceilings o
  unfolding low_ceiling
  enter-high o e =
      let cs = r.ceilings in
      let high = ltb-false (ceiling_of cs o) (highest_of cs (top_at r t) a.inside) (rule (Enter o) e).high in
      highest-least cs a.base (ceiling_of cs o) a.inside
      (omega (arith, high, f.based, highest-low cs (top_at r t) a.inside))
      (λ i h. omega (arith, high, highest-held cs (top_at r t) a.inside i h))

  -- Leave: the object is listed and the innermost held
  pub leave-listed : (o : ℕ) → step_due r t a ≡ Leave o → o < length r.ceilings
  unfolding names_listed
  leave-listed o e = ltb-true o (length r.ceilings) (listed (Leave o) e)

  pub leave-inner : (o : ℕ) → step_due r t a ≡ Leave o → is_innermost a.inside o ≡ true
  unfolding not_innermost
  leave-inner o e = not-false (is_innermost a.inside o) (rule (Leave o) e).inner

  -- Release and Set: the task is listed; a Set is its own
  pub release-listed : (u : ℕ) → step_due r t a ≡ Release u → u < length r.bases
  unfolding names_listed
  release-listed u e = ltb-true u (length r.bases) (listed (Release u) e)

  pub set_own : (u : ℕ) (p : Priority) → step_due r t a ≡ Set u p → u ≡ t
  unfolding other_task
  set_own u p e = eqb-true u t (not-false (eqb u t) (rule (Set u p) e).own)

  pub set-under : (u : ℕ) (p : Priority) → step_due r t a ≡ Set u p → p.0 ≤ top_at r t
  unfolding top_at
  set-under u p e =
      top_set t (base_of r t) (script_of r t) a.position p (e ∙ ap (λ (v : ℕ). Set v p) (set_own u p e))
