-- Laws of steps: reading one from its bytes.
use mathlib.Core.Path.{◌≡◌}
use mathlib.Core.List.{List}
use Prim.Native.Nat.{ℕ, ◌+◌, ◌*◌, ◌≤◌, ◌<◌}
use borrow.Author.Tests.{ne_eqb}
use lib.ListN.{length, get_or-eq_default}
use Rattle.rules.proofs.Choices.{compare}
use Rattle.words.specs.Words.{byte_at, word_at}
use Rattle.format.specs.Limits.{step_size}
use Rattle.format.specs.Steps.{step_of, code_at, a_at, b_at, step_at, step_count, steps_of, step_in}
use Rattle.format.specs.declared.Step.{Step}
use Rattle.format.specs.declared.Step.TheVariants.{Finish}
use Rattle.words.proofs.TableLaws.{length-tabulate, tabulate-at, tabulate-past}

module _ (n a b : ℕ) where
  -- no code of the list
  pub step-none : (n ≡ 1 → ⊥) → (n ≡ 2 → ⊥) → (n ≡ 3 → ⊥) → (n ≡ 4 → ⊥) → (n ≡ 5 → ⊥) → (n ≡ 6 → ⊥) → (n ≡ 7 → ⊥) → (n ≡ 8 → ⊥) →
      step_of n a b ≡ Finish
  unfolding step_of
  step-none h1 h2 h3 h4 h5 h6 h7 h8 =
      simp (ne_eqb n 1 h1, ne_eqb n 2 h2, ne_eqb n 3 h3, ne_eqb n 4 h4, ne_eqb n 5 h5, ne_eqb n 6 h6, ne_eqb n 7 h7, ne_eqb n 8 h8)

-- the step at a position of a script's bytes
pub steps-at : (part : List ℕ) (k : ℕ) → k < step_count part → step_in (steps_of part) k ≡ step_at part k
unfolding steps_of
steps-at part k h = tabulate-at (step_count part) (step_at part) k Finish h

pub steps-past : (part : List ℕ) (k : ℕ) → step_count part ≤ k → step_in (steps_of part) k ≡ Finish
unfolding steps_of
steps-past part k h = tabulate-past (step_count part) (step_at part) k Finish h

pub steps-length : (part : List ℕ) → length (steps_of part) ≡ step_count part
unfolding steps_of
steps-length part = length-tabulate (step_count part) (step_at part)

-- a step that is not the script's end stands in the script
pub in-script : (steps : List Step) (k : ℕ) → (step_in steps k ≡ Finish → ⊥) → k < length steps
in-script steps k n = compare (length steps) k (λ h. absurd (n (get_or-eq_default steps Finish {n = k} h))) (λ h. h)

-- as the code reads it
pub step-read : (part : List ℕ) (k : ℕ) → k < step_count part →
    step_in (steps_of part) k ≡
    step_of (byte_at part (step_size * k)) (byte_at part (step_size * k + 1)) (word_at part (step_size * k + 2))
unfolding step_at code_at a_at b_at
step-read part k h = steps-at part k h

-- for a reader's proof: a step that is there, and one past the last
pub ruleset read_laws = (step-read, steps-past)
