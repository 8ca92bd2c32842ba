-- Laws of the readers of a roster: what is found, the steps of a script's part, and how many there can be.
use Rattle.std.specs.Prelude.{Ok, Err}
use mathlib.Core.Path.{◌≡◌, refl, ap, sym, ◌∙◌}
use mathlib.Core.Bool.{true}
use mathlib.Core.List.{List}
use Prim.Native.Nat.{ℕ, ◌/◌, ◌≤◌}
use native.Mathlib.Omega.{arith}
use borrow.Author.Tests.{leb-true}
use lib.Dec.{leb}
use lib.ListN.{length}
use Rattle.rules.proofs.Choices.{and_right}
use Rattle.rules.specs.Limits.{smallest_roster, largest_roster}
use Rattle.rules.specs.declared.Priority.{Priority}
use Rattle.format.specs.Limits.{step_size}
use Rattle.format.specs.Answers.{Verdict}
use Rattle.format.specs.Format.{part_at}
use Rattle.format.specs.Steps.{steps_of}
use Rattle.format.specs.Roster.{roster_of, script_of}
use Rattle.format.specs.Form.{length_good, script_answer}
use Rattle.format.specs.Readers.{found_by, count_found}
use Rattle.format.specs.declared.Fault.{Fault}
use Rattle.std.proofs.lemmas.Grind.{common_steps}
use Rattle.format.proofs.StepLaws.{steps-length}
use Rattle.format.proofs.FormatLaws.{script-listed}
use Rattle.format.proofs.AnswerLaws.{answered-form, answered-task}
use Rattle.format.proofs.PositionLaws.{part_low}
use Rattle.format.proofs.FormedLaws.{formed}

-- what is read, and what is refused
pub found-priority : (v : Verdict) (n : ℕ) (p : Priority) → Ok tt ≡ v → p.0 ≡ n → Ok p ≡ found_by v (record { 0 = n })
found-priority v n p e f = ap (λ (m : ℕ). Ok (record { 0 = m })) f ∙ ap (λ (w : Verdict). found_by w (record { 0 = n })) e

pub found-fault : {A : Type 0} (v : Verdict) (f : Fault) (x : A) → Err f ≡ v → Err f ≡ found_by v x
found-fault v f x e = ap (λ (w : Verdict). found_by w x) e

-- .. and what that says of the answer
pub found-ok : {A : Type 0} (v : Verdict) (x y : A) → Ok y ≡ found_by v x → (Ok tt ≡ v) × (y ≡ x)
found-ok (Ok done) x y e = (refl, cc)
found-ok (Err f) x y e = absurd (let z : ◌≡◌ {A = ℕ} 0 1 = cc in omega arith)

pub found-err : {A : Type 0} (v : Verdict) (f : Fault) (x : A) → Err f ≡ found_by v x → Err f ≡ v
found-err (Ok done) f x e = absurd (let z : ◌≡◌ {A = ℕ} 0 1 = cc in omega arith)
found-err (Err g) f x e = (let z : f ≡ g = cc in ap Err z)

module _ (s : List ℕ) where
  -- the steps of the part that is a task's script
  pub part-steps : (t : ℕ) (part : List ℕ) → script_answer s t ≡ Ok tt → part ≡ part_at s t →
      steps_of part ≡ script_of (roster_of s) t
  part-steps t part e h = ap steps_of h ∙ sym (script-listed s t (answered-task s t e))

  pub part-count : (t : ℕ) (part : List ℕ) → script_answer s t ≡ Ok tt → part ≡ part_at s t →
      length part / step_size ≡ length (script_of (roster_of s) t)
  part-count t part e h = sym (steps-length part) ∙ ap length (part-steps t part e h)

  -- how many steps there can be
  size_low : length_good s ≡ true → length s ≤ largest_roster
  unfolding length_good
  size_low e =
      leb-true (length s) largest_roster (and_right (leb smallest_roster (length s)) (leb (length s) largest_roster) e)

  steps_low : (t : ℕ) → script_answer s t ≡ Ok tt → length (script_of (roster_of s) t) ≤ largest_roster
  steps_low t e =
      omega (
        arith,
        ap length (script-listed s t (answered-task s t e)),
        steps-length (part_at s t),
        part_low s t,
        size_low (formed s (answered-form s t e)).size,
      )

  pub part-few : (t : ℕ) (part : List ℕ) → script_answer s t ≡ Ok tt → part ≡ part_at s t → length part / step_size ≤ largest_roster
  part-few t part e h = omega (arith, part-count t part e h, steps_low t e)

  found-low : (v : Verdict) (m n : ℕ) → (v ≡ Ok tt → m ≤ largest_roster) → found_by v m ≡ Ok n → n ≤ largest_roster
  found-low (Ok done) m n h e = omega (arith, h refl, (let k : m ≡ n = cc in k))
  found-low (Err f) m n h e = absurd (let z : ◌≡◌ {A = ℕ} 0 1 = cc in omega arith)

  pub count_small : (t n : ℕ) → count_found s t ≡ Ok n → n ≤ largest_roster
  unfolding count_found
  count_small t n e = found-low (script_answer s t) (length (script_of (roster_of s) t)) n (steps_low t) e

-- for a reader's proof
pub ruleset part_laws = (common_steps, part-steps, part-count)
