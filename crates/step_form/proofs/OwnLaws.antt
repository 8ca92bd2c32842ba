-- Laws of a script's own Set values: what a step sets, and the loop for the highest of them, which a fault ends.
use Rattle.std.specs.Prelude.{Ok, Err}
use mathlib.Core.Path.{◌≡◌, refl, ap, sym, ◌∙◌}
use mathlib.Core.List.{List}
use Prim.Native.Nat.{ℕ, suc, ◌+◌, ◌<◌, max}
use native.Mathlib.Omega.{arith}
use native.Mathlib.Numerals.{add-one}
use lib.ListN.{length, drop, drop_of_length-le}
use lib.Seq.{drop-cons}
use Rattle.rules.specs.declared.Priority.{Priority}
use Rattle.format.specs.Answers.{Verdict, first}
use Rattle.format.specs.Readers.{found_by}
use Rattle.format.specs.Steps.{step_in}
use Rattle.format.specs.Check.{own_set, top_of}
use Rattle.format.specs.declared.Fault.{Fault}
use Rattle.format.specs.declared.Step.{Step}
use Rattle.format.proofs.TestLaws.{turn-finds, turn-passes, turns-pass}
use Rattle.format.proofs.ReaderLaws.{found-priority, found-fault}
use Rattle.format.specs.declared.Step.TheVariants.{Finish}

-- the loop over a script, for its first fault and its highest own Set value: a turn that finds a fault, one that goes on, and the end
module _ (f : ℕ → Verdict) (t base : ℕ) (steps : List Step) where
  pub record SoFar (k high : ℕ) : Type 0 where
    pub passed : first k f ≡ Ok tt
    pub top : top_of t base steps ≡ top_of t high (drop k steps)

  pub loop-starts : SoFar 0 base
  unfolding first
  loop-starts = record { passed = refl; top = refl }

  pub loop-stops : (n k high : ℕ) (p : Priority) (e : Fault) → SoFar k high → k < n → Err e ≡ f k → Err e ≡ found_by (first n f) p
  loop-stops n k high p e r h g = found-fault _ e p (turn-finds f n k e h r.passed g)

  pub loop-goes : (k high next : ℕ) → SoFar k high → k < length steps → Ok tt ≡ f k → next ≡ max high (own_set t (step_in steps k)) →
      SoFar (k + 1) next
  unfolding top_of
  loop-goes k high next r h g e =
      record {
        passed = turn-passes f k r.passed g;
        top =
            r.top ∙ (ap (top_of t high) (drop-cons steps k Finish h) ∙ (ap (λ (y : ℕ). top_of t y (drop (suc k) steps)) (sym e) ∙
            ap (λ (j : ℕ). top_of t next (drop j steps)) (sym (add-one k))));
      }

  pub loop-ends : (n k : ℕ) (p : Priority) → SoFar k p.0 → length steps ≡ n → k ≡ n →
      Ok p ≡ found_by (first n f) (record { 0 = top_of t base steps })
  unfolding top_of
  loop-ends n k p r h g =
      found-priority _ _ p (turns-pass f n k g r.passed)
      (sym (r.top ∙ ap (top_of t p.0) (drop_of_length-le steps {i = k} (omega arith))))
