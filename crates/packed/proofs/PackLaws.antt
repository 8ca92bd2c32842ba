-- Laws of packed answers: what the form, the check, a run or the writer names has a small position.
use mathlib.Core.Path.{◌≡◌}
use mathlib.Core.Bool.{not}
use mathlib.Core.List.{List}
use Prim.Native.Nat.{ℕ, ◌*◌, ◌≤◌}
use native.Mathlib.Omega.{arith}
use lib.Dec.{ltb}
use lib.ListN.{get_or}
use Rattle.std.specs.Prelude.{Ok, Err}
use Rattle.rules.proofs.Choices.{both_ways}
use Rattle.rules.specs.Limits.{largest_roster}
use Rattle.format.specs.Answers.{Verdict, position_of}
use Rattle.format.specs.Form.{form_of}
use Rattle.format.specs.Check.{check_of}
use Rattle.format.proofs.PositionLaws.{form_small, check-small}
use Rattle.trace.specs.Answers as Run
use Rattle.trace.specs.Limits.{reply_size}
use Rattle.trace.specs.Inputs.{event_count, events_good}
use Rattle.trace.specs.Run.{after_check, answer_of}
use Rattle.encoding.specs.File.{Parts}
use Rattle.encoding.specs.Answers as Write
use Rattle.encoding.proofs.PlaceLaws.{answer-low}
use Rattle.packed.specs.Packed.{last_position}

pub form-place : (v : Verdict) (s : List ℕ) → v ≡ form_of s → position_of v ≤ last_position
form-place v s e = rw e (omega (arith, form_small s))

pub check-place : (v : Verdict) (s : List ℕ) → v ≡ check_of s → position_of v ≤ last_position
check-place v s e = rw e (omega (arith, check-small s))

-- what a run names
abbrev Small : Run.RunAnswer → Type 0
Small a = Run.position_of a ≤ largest_roster

checked_small : (v : Verdict) (a : Run.RunAnswer) → position_of v ≤ largest_roster → Small a → Small (after_check v a)
checked_small (Ok done) a h g = g
checked_small (Err f) a h g = h

run_small : (s events : List ℕ) (size : ℕ) → Small (answer_of s events size)
unfolding answer_of
run_small s events size =
    checked_small (check_of s) _ (check-small s)
    (both_ways Small (not (events_good events)) _ _ (λ f. omega arith) (λ f.
    both_ways Small (ltb size (reply_size * event_count events)) _ _ (λ g. omega arith) (λ g. omega arith)))

pub run-place : (a : Run.RunAnswer) (s events : List ℕ) (size : ℕ) → a ≡ answer_of s events size → Run.position_of a ≤ last_position
run-place a s events size e =
    rw e (let h : Run.position_of (answer_of s events size) ≤ largest_roster = run_small s events size in omega arith)

-- what the writer names, its lengths being of 16 bits
pub write-place : (a : Write.WriteAnswer) (given : Parts) (size : ℕ) → ((t : ℕ) → get_or given.lengths t 0 ≤ last_position) →
    a ≡ Write.write_answer_of given size → Write.position_of a ≤ last_position
write-place a given size h e = rw e (answer-low given last_position h size)
