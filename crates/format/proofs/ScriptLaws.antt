-- The values that the steps of a roster carry, from its bytes: a Delay its second operand, a Set a priority.
use mathlib.Core.Path.{◌≡◌, refl, ◌∙◌, sym, subst}
use mathlib.Core.Bool.{true}
use mathlib.Core.List.{List, []}
use Prim.Native.Nat.{ℕ, ◌+◌, ◌*◌, ◌≤◌, ◌<◌}
use native.Mathlib.Omega.{arith}
use lib.Dec.{eqb}
use lib.ListN.{take, drop, get_or-eq_default, length-take}
use lib.Seq.{get_or-take, get_or-drop}
use Rattle.std.specs.Prelude.{None, Option, Some}
use Rattle.rules.specs.Limits.{last_delay}
use Rattle.rules.specs.Priorities.{in_range, checked_of}
use Rattle.rules.specs.declared.Priority.{Priority}
use Rattle.rules.proofs.Choices.{compare, both_ways}
use Rattle.words.specs.Words.{byte_at, Bytes, word_at}
use Rattle.format.specs.Limits.{step_size, enter_code, leave_code, delay_code, work_code, suspend_code, release_code, set_code, again_code}
use Rattle.format.specs.Format.{task_count, start_at, length_at, part_at}
use Rattle.format.specs.Steps.{set_step, step_of, code_at, a_at, b_at, step_at, step_count, step_in}
use Rattle.format.specs.Roster.{roster_of, script_of}
use Rattle.format.specs.declared.Step.{Step}
use Rattle.format.specs.declared.Step.TheVariants.{Enter, Leave, Delay, Work, Suspend, Release, Set, Again, Finish}
use Rattle.format.proofs.StepLaws.{steps-at, steps-past}
use Rattle.format.proofs.FormatLaws.{script-listed, script-count}

-- a step's values, b being its second operand
abbrev Shape : ℕ → Step → Type 0
Shape b (Enter o) = Unit
Shape b (Leave o) = Unit
Shape b (Delay d) = d ≡ b
Shape b Work = Unit
Shape b Suspend = Unit
Shape b (Release t) = Unit
Shape b (Set t p) = in_range p.0 ≡ true
Shape b Again = Unit
Shape b Finish = Unit

set-shape : (a b : ℕ) → Shape b (set_step a (checked_of b))
unfolding set_step
set-shape a b =
    both_ways (λ (v : Option Priority). Shape b (set_step a v)) (in_range b) (Some (record { 0 = b })) None (λ e. e) (λ e. tt)

shape : (code a b : ℕ) → Shape b (step_of code a b)
unfolding step_of
shape code a b =
    both_ways (Shape b) (eqb code enter_code) _ _ (λ e. tt) (λ e.
    both_ways (Shape b) (eqb code leave_code) _ _ (λ e. tt) (λ e.
    both_ways (Shape b) (eqb code delay_code) _ _ (λ e. refl) (λ e.
    both_ways (Shape b) (eqb code work_code) _ _ (λ e. tt) (λ e.
    both_ways (Shape b) (eqb code suspend_code) _ _ (λ e. tt) (λ e.
    both_ways (Shape b) (eqb code release_code) _ _ (λ e. tt) (λ e.
    both_ways (Shape b) (eqb code set_code) _ _ (λ e. set-shape a b) (λ e.
    both_ways (Shape b) (eqb code again_code) _ _ (λ e. tt) (λ e. tt))))))))

-- the bytes of a part are bytes of the whole, and a word of bytes has 16 bits
pub part_bytes : (s : List ℕ) → Bytes s → (t : ℕ) → Bytes (part_at s t)
unfolding part_at
part_bytes s y t = record { below = λ i. compare (length_at s t) i (past i) (within i) }
  where
    rest : List ℕ
    rest = drop (start_at s t) s

    past : (i : ℕ) → length_at s t ≤ i → byte_at (take (length_at s t) rest) i < 256
    past i h =
        let none = get_or-eq_default (take (length_at s t) rest) 0 {n = i} (omega (arith, h, length-take (length_at s t) rest)) in
        subst (λ (v : ℕ). v < 256) (sym none) (omega arith)

    within : (i : ℕ) → i < length_at s t → byte_at (take (length_at s t) rest) i < 256
    within i h =
        subst (λ (v : ℕ). v < 256) (sym (get_or-take (length_at s t) rest i 0 h ∙ get_or-drop (start_at s t) s i 0))
        (y.below (start_at s t + i))

word_small : (s : List ℕ) → Bytes s → (i : ℕ) → word_at s i ≤ last_delay
unfolding word_at
word_small s y i = omega (arith, y.below i, y.below (i + 1))

module _ (s : List ℕ) where
  -- each step of a script of the roster, as its bytes have it
  step-shape : (t k : ℕ) (x : Step) → step_in (script_of (roster_of s) t) k ≡ x → Shape (b_at (part_at s t) k) x
  unfolding step_at
  step-shape t k x e = subst (Shape (b_at (part_at s t) k)) e (compare (task_count s) t outside within)
    where
      part : List ℕ
      part = part_at s t

      outside : task_count s ≤ t → Shape (b_at part k) (step_in (script_of (roster_of s) t) k)
      outside h =
          let none = get_or-eq_default (roster_of s).scripts [] {n = t} (omega (arith, h, script-count s)) in
          subst (λ (l : List Step). Shape (b_at part k) (step_in l k)) (sym none) tt

      within : t < task_count s → Shape (b_at part k) (step_in (script_of (roster_of s) t) k)
      within h =
          subst (λ (l : List Step). Shape (b_at part k) (step_in l k)) (sym (script-listed s t h))
          (compare (step_count part) k
          (λ g. subst (Shape (b_at part k)) (sym (steps-past part k g)) tt)
          (λ g. subst (Shape (b_at part k)) (sym (steps-at part k g)) (shape (code_at part k) (a_at part k) (b_at part k))))

  -- "Delay d (16 bits, 0 to 65,535)"
  pub script-delay : Bytes s → (t k d : ℕ) → step_in (script_of (roster_of s) t) k ≡ Delay d → d ≤ last_delay
  unfolding b_at
  script-delay y t k d e = omega (arith, step-shape t k (Delay d) e, word_small (part_at s t) (part_bytes s y t) (step_size * k + 2))

  pub script-set : (t k u : ℕ) (p : Priority) → step_in (script_of (roster_of s) t) k ≡ Set u p → in_range p.0 ≡ true
  script-set t k u p e = step-shape t k (Set u p) e
