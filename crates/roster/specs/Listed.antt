-- What the check's walk asks of a script, which the form has given: every step, and the script's end, names what is listed.
use Rattle.std.specs.Prelude.{◌≡◌, true, List, ℕ}
use Rattle.format.specs.Steps.{step_in}
use Rattle.format.specs.Form.{names_listed}
use Rattle.format.specs.declared.Step.{Step}

-- of some number of tasks and m objects: a step, and a script
abbrev pub Listed : ℕ → Step → Type 0
Listed m x = (n : ℕ) × (names_listed n m x ≡ true)

abbrev pub AllListed : ℕ → List Step → Type 0
AllListed m steps = (n : ℕ) × ((k : ℕ) → names_listed n m (step_in steps k) ≡ true)
