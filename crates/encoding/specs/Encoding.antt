-- What the writer is given for a roster that was read: the parts of the one encoding of its bases, ceilings and steps.
use Rattle.std.specs.Prelude.{List, ◌∷◌, ℕ, length}
use Rattle.words.specs.Words.{word, tabulate}
use Rattle.format.specs.Limits.{enter_code, leave_code, delay_code, work_code, suspend_code, release_code, set_code, again_code}
use Rattle.format.specs.Steps.{step_in}
use Rattle.format.specs.Roster.{Roster, setup_of, script_of}
use Rattle.format.specs.declared.Step.{Step}
use Rattle.format.specs.declared.Step.TheVariants.{Enter, Leave, Delay, Work, Suspend, Release, Set, Again, Finish}
use Rattle.encoding.specs.File.{Parts, pieces}

-- "A step has 4 bytes: code, a, b (2)."; "Unused operands are 0."; Finish is no step of a script
unfoldable pub bytes_of_step : Step → List ℕ
bytes_of_step (Enter o) = enter_code ∷ o ∷ word 0
bytes_of_step (Leave o) = leave_code ∷ o ∷ word 0
bytes_of_step (Delay d) = delay_code ∷ 0 ∷ word d
bytes_of_step Work = work_code ∷ 0 ∷ word 0
bytes_of_step Suspend = suspend_code ∷ 0 ∷ word 0
bytes_of_step (Release t) = release_code ∷ t ∷ word 0
bytes_of_step (Set t p) = set_code ∷ t ∷ word p.0
bytes_of_step Again = again_code ∷ 0 ∷ word 0
bytes_of_step Finish = 0 ∷ 0 ∷ word 0

unfoldable pub bytes_of_script : List Step → List ℕ
bytes_of_script steps = pieces (length steps) (λ k. bytes_of_step (step_in steps k))

-- what the writer is given for a roster: its bases and ceilings, the lengths of its scripts in steps, and their bytes
unfoldable pub lengths_of : Roster → List ℕ
lengths_of r = tabulate (length r.bases) (λ t. length (script_of r t))

abbrev pub parts_of : Roster → Parts
parts_of r =
    record { setup = setup_of r; lengths = lengths_of r; steps = pieces (length r.bases) (λ t. bytes_of_script (script_of r t)) }
