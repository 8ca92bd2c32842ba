-- The step that the writer names is one of its script, so that its position is small where the lengths are.
use Rattle.std.specs.Prelude.{Err, Ok}
use mathlib.Core.Bool.{not}
use Prim.Native.Nat.{ℕ, ◌≤◌}
use native.Mathlib.Omega.{arith}
use lib.Dec.{ltb}
use lib.ListN.{length, get_or, drop, length-take}
use Rattle.rules.specs.Limits.{largest_roster}
use Rattle.rules.specs.Fresh.{setup_counted, setup_in_range}
use Rattle.rules.proofs.Choices.{both_ways}
use Rattle.format.specs.Answers as Roster
use Rattle.format.specs.Answers.{Verdict, passed}
use Rattle.format.specs.Steps.{step_count}
use Rattle.format.specs.declared.Fault.TheVariants.{BadLength, BadCounts, BadLayout, BadValues}
use Rattle.format.proofs.PositionLaws.{either, first-low, steps_low}
use Rattle.encoding.specs.File.{Parts, tasks_of, objects_of, bytes_before, script_size, script_at, file_of}
use Rattle.encoding.specs.Answers.{WriteAnswer, refused, position_of, lengths_add_up, lent_script_form, lent_scripts_form}
use Rattle.encoding.specs.Answers.{parts_form, file_form, write_answer_of}

module _ (p : Parts) (most : ℕ) (lengths : (t : ℕ) → get_or p.lengths t 0 ≤ most) where
  script-few : (t : ℕ) → step_count (script_at p t) ≤ most
  unfolding script_at
  script-few t =
      omega (arith, lengths t, length-take (script_size p.lengths t) (drop (bytes_before p.lengths t) p.steps))

  scripts-low : Roster.position_of (lent_scripts_form p) ≤ most
  unfolding lent_scripts_form lent_script_form
  scripts-low =
      first-low (lent_script_form p) (tasks_of p) most (λ t g.
      omega (arith, steps_low (tasks_of p) (objects_of p) t (script_at p t), script-few t))

  parts_low : Roster.position_of (parts_form p) ≤ most
  unfolding parts_form
  parts_low =
      either (not (setup_counted p.setup)) (Err BadCounts) _ most (omega arith)
      (either (not (lengths_add_up p)) (Err BadLayout) _ most (omega arith)
      (either (not (setup_in_range p.setup)) (Err BadValues) _ most (omega arith) scripts-low))

  file-low : Roster.position_of (file_form p) ≤ most
  unfolding file_form
  file-low =
      either (passed (parts_form p)) _ (parts_form p) most
      (either (ltb largest_roster (length (file_of p))) (Err BadLength) (Ok tt) most (omega arith) (omega arith)) parts_low

  refused-low : (v : Verdict) → Roster.position_of v ≤ most → position_of (refused v) ≤ most
  refused-low (Ok done) h = h
  refused-low (Err f) h = h

  pub answer-low : (size : ℕ) → position_of (write_answer_of p size) ≤ most
  unfolding write_answer_of
  answer-low size =
      both_ways (λ (a : WriteAnswer). position_of a ≤ most) (passed (file_form p)) _ _
      (λ e. both_ways (λ (a : WriteAnswer). position_of a ≤ most) (ltb size (length (file_of p))) _ _ (λ f. omega arith) (λ f. omega arith))
      (λ e. refused-low (file_form p) file-low)
