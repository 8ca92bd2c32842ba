-- Laws of a step's bytes: those of a step that is written right are the bytes that it was read from.
use mathlib.Core.Path.{◌≡◌, refl, ap, sym, ◌∙◌, subst}
use mathlib.Core.Bool.{Bool, true, cond, ◌&&◌}
use mathlib.Core.List.{List, [], ◌∷◌}
use Prim.Native.Nat.{ℕ, ◌+◌, ◌*◌, ◌/◌, ◌%◌, ◌<◌}
use native.Mathlib.Nat.{add-zero}
use native.Mathlib.Omega.{arith}
use borrow.Author.Tests.{eqb-true}
use lib.Dec.{eqb}
use lib.ListN.{length, get_or, take, drop}
use lib.Seq.{take_all}
use Rattle.std.specs.Prelude.{None, Option, Some}
use Rattle.rules.specs.Priorities.{in_range, checked_of}
use Rattle.rules.specs.declared.Priority.{Priority}
use Rattle.rules.proofs.Choices.{split, clash, and_left, and_right}
use Rattle.words.specs.Words.{byte_at, word_at, word, tabulate, Bytes}
use Rattle.words.proofs.TableLaws.{window}
use Rattle.format.specs.Limits.{step_size}
use Rattle.format.specs.Steps.{set_step, step_of, code_at, a_at, b_at, step_at, step_count, steps_of, step_in}
use Rattle.format.specs.Form.{is_step, unused_zero}
use Rattle.format.specs.declared.Step.{Step}
use Rattle.format.specs.declared.Step.TheVariants.{Enter, Leave, Delay, Work, Suspend, Release, Set, Again, Finish}
use Rattle.format.proofs.TestLaws.{by-test}
use Rattle.format.proofs.StepLaws.{step-none, steps-at, steps-length}
use Rattle.encoding.specs.File.{pieces}
use Rattle.encoding.specs.Encoding.{bytes_of_step, bytes_of_script}
use Rattle.encoding.proofs.PieceLaws.{pieces-found, pieces-length}

-- a word's two bytes
pub word_back : (s : List ℕ) (i : ℕ) → Bytes s → word (word_at s i) ≡ byte_at s i ∷ byte_at s (i + 1) ∷ []
unfolding word_at
word_back s i h =
    let low : word_at s i % 256 ≡ byte_at s i = omega (arith, h.below i) in
    let high : word_at s i / 256 ≡ byte_at s (i + 1) = omega (arith, h.below i) in
    ap (λ (x : ℕ). x ∷ word_at s i / 256 ∷ []) low ∙ ap (λ (x : ℕ). byte_at s i ∷ x ∷ []) high

module _ (a b : ℕ) where
  -- a code, read as a step that leaves nothing unused, is what the step is written with
  Back : ℕ → Type 0
  Back code = is_step (step_of code a b) ≡ true → unused_zero a b (step_of code a b) ≡ true →
      bytes_of_step (step_of code a b) ≡ code ∷ a ∷ word b

  b-none : (code : ℕ) → eqb b 0 ≡ true → code ∷ a ∷ word 0 ≡ code ∷ a ∷ word b
  b-none code e = ap (λ (x : ℕ). code ∷ a ∷ word x) (sym (eqb-true b 0 e))

  a-none : (code : ℕ) → eqb a 0 ≡ true → code ∷ 0 ∷ word b ≡ code ∷ a ∷ word b
  a-none code e = ap (λ (x : ℕ). code ∷ x ∷ word b) (sym (eqb-true a 0 e))

  both-none : (code : ℕ) → (eqb a 0 && eqb b 0) ≡ true → code ∷ 0 ∷ word 0 ≡ code ∷ a ∷ word b
  both-none code e =
      ap (λ (x : ℕ). code ∷ x ∷ word 0) (sym (eqb-true a 0 (and_left (eqb a 0) (eqb b 0) e))) ∙
      b-none code (and_right (eqb a 0) (eqb b 0) e)

  back-1 : Back 1
  unfolding Back step_of unused_zero bytes_of_step
  back-1 i e = b-none 1 e

  back-2 : Back 2
  unfolding Back step_of unused_zero bytes_of_step
  back-2 i e = b-none 2 e

  back-3 : Back 3
  unfolding Back step_of unused_zero bytes_of_step
  back-3 i e = a-none 3 e

  back-4 : Back 4
  unfolding Back step_of unused_zero bytes_of_step
  back-4 i e = both-none 4 e

  back-5 : Back 5
  unfolding Back step_of unused_zero bytes_of_step
  back-5 i e = both-none 5 e

  back-6 : Back 6
  unfolding Back step_of unused_zero bytes_of_step
  back-6 i e = b-none 6 e

  set_back : (v : Option Priority) → v ≡ checked_of b → is_step (set_step a v) ≡ true → bytes_of_step (set_step a v) ≡ 7 ∷ a ∷ word b
  unfolding set_step is_step bytes_of_step
  set_back (Some p) f e =
      by-test (in_range b)
      (λ h.
      let g : checked_of b ≡ Some (record { 0 = b }) = ap (λ (x : Bool). cond x (Some (record { 0 = b })) None) h in
      let k : p ≡ record { 0 = b } = cc in
      ap (λ (x : ℕ). 7 ∷ a ∷ word x) (ap (λ (q : _). q.0) k))
      (λ h.
      let g : checked_of b ≡ None = ap (λ (x : Bool). cond x (Some (record { 0 = b })) None) h in
      absurd (let z : ◌≡◌ {A = ℕ} 0 1 = cc in omega arith))
  set_back None f e = clash (sym e)

  back-7 : Back 7
  unfolding Back step_of
  back-7 i e = set_back (checked_of b) refl i

  back-8 : Back 8
  unfolding Back step_of unused_zero bytes_of_step
  back-8 i e = both-none 8 e

  step_back : (code : ℕ) → is_step (step_of code a b) ≡ true → unused_zero a b (step_of code a b) ≡ true →
      bytes_of_step (step_of code a b) ≡ code ∷ a ∷ word b
  unfolding Back is_step
  step_back code i e =
      let at : (x : ℕ) → Back x → code ≡ x → Back code = λ x p k. subst Back (sym k) p in
      split code 1 (λ k. at 1 back-1 k i e) (λ n1. split code 2 (λ k. at 2 back-2 k i e) (λ n2.
      split code 3 (λ k. at 3 back-3 k i e) (λ n3. split code 4 (λ k. at 4 back-4 k i e) (λ n4.
      split code 5 (λ k. at 5 back-5 k i e) (λ n5. split code 6 (λ k. at 6 back-6 k i e) (λ n6.
      split code 7 (λ k. at 7 back-7 k i e) (λ n7. split code 8 (λ k. at 8 back-8 k i e) (λ n8.
      clash (sym i ∙ ap is_step (step-none code a b n1 n2 n3 n4 n5 n6 n7 n8))))))))))

step-length : (x : Step) → length (bytes_of_step x) ≡ step_size
unfolding bytes_of_step
step-length (Enter o) = refl
step-length (Leave o) = refl
step-length (Delay d) = refl
step-length Work = refl
step-length Suspend = refl
step-length (Release t) = refl
step-length (Set t p) = refl
step-length Again = refl
step-length Finish = refl

-- a script's bytes are those of its steps
module _ (part : List ℕ) (bytes : Bytes part) (whole : length part % step_size ≡ 0)
    (steps : (k : ℕ) → k < step_count part → is_step (step_at part k) ≡ true)
    (zeros : (k : ℕ) → k < step_count part → unused_zero (a_at part k) (b_at part k) (step_at part k) ≡ true) where
  four : (k : ℕ) → k < step_count part → take 4 (drop (4 * k) part) ≡ bytes_of_step (step_at part k)
  unfolding tabulate step_at code_at a_at b_at
  four k h =
      let at = 4 * k in
      let w = word_back part (at + 2) bytes in
      let next : at + 2 + 1 ≡ at + 3 = omega arith in
      window part at 4 (omega arith) ∙
      (ap (λ (x : ℕ). get_or part x 0 ∷ get_or part (at + 1) 0 ∷ get_or part (at + 2) 0 ∷ get_or part (at + 3) 0 ∷ []) (add-zero at) ∙
      (ap (λ (x : ℕ). get_or part at 0 ∷ get_or part (at + 1) 0 ∷ get_or part (at + 2) 0 ∷ get_or part x 0 ∷ []) (sym next) ∙
      (ap (λ (l : List ℕ). get_or part at 0 ∷ get_or part (at + 1) 0 ∷ l) (sym w) ∙
      sym (step_back (a_at part k) (b_at part k) (code_at part k) (steps k h) (zeros k h)))))

  pub script-bytes : bytes_of_script (steps_of part) ≡ part
  unfolding bytes_of_script
  script-bytes =
      let f : ℕ → List ℕ = λ k. bytes_of_step (step_in (steps_of part) k) in
      let n = length (steps_of part) in
      let count : n ≡ step_count part = steps-length part in
      let size : (m : ℕ) → length (pieces m f) ≡ m * step_size =
      λ m. pieces-length f step_size m (λ k. step-length (step_in (steps_of part) k)) in
      let found = pieces-found f part n (λ k h.
      let low : k < step_count part = omega arith in
      let from : length (pieces k f) ≡ 4 * k = omega (arith, size k) in
      ap (λ (x : ℕ). take x (drop (length (pieces k f)) part)) (step-length (step_in (steps_of part) k)) ∙
      (ap (λ (x : ℕ). take 4 (drop x part)) from ∙
      (four k low ∙ ap bytes_of_step (sym (steps-at part k low))))) in
      sym found ∙ take_all (length (pieces n f)) part (omega (arith, size n, count))
