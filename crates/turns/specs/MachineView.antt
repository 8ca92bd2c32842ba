-- What the machine of a run means.
use Rattle.std.specs.Prelude.{◌≡◌, true, List, ℕ, length, take, Ok}
use Rattle.rules.specs.Limits.{task_limit}
use Rattle.rules.specs.Model.{Model}
use Rattle.rules.specs.Sound.{sound}
use Rattle.format.specs.Form.{form_of}
use Rattle.format.specs.Roster.{Roster, roster_of}
use Rattle.turns.specs.Run.{Run}
use Rattle.turns.specs.declared.machine.Machine.TheInside.{Inside}

-- behind the last task's position there may be anything
abbrev pub run_at : Roster → Model → List ℕ → Run
run_at r m ps = record { roster = r; config = record { model = m; positions = take (length r.scripts) ps } }

abbrev pub run_in : Inside → Run
run_in a = run_at (roster_of a.scripts.now) a.memory.now a.positions.now

-- a roster of good form, and a sound Model of its tasks
pub record Going (s : List ℕ) (m : Model) (ps : List ℕ) : Type 0 where
  pub form : form_of s ≡ Ok tt
  pub sound : sound m ≡ true
  pub listed : length m.tasks ≡ length (roster_of s).scripts
  pub places : length ps ≡ task_limit

abbrev pub Runs : Inside → Type 0
Runs a = Going a.scripts.now a.memory.now a.positions.now
