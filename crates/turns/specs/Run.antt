-- A run between two events: its roster, and the configuration that its events have come to.
use Rattle.std.specs.Prelude.{◌≡◌, List, ℕ}
use Rattle.format.specs.Roster.{Roster}
use Rattle.memory.specs.Rulings.{answer_in, report_in}
use Rattle.memory.specs.declared.rulings.Ruling.{Ruling}
use Rattle.trace.specs.declared.Input.{Input}
use Rattle.trace.specs.Config.{Config, Outcome, start_of, happen}
use Rattle.trace.specs.Run.{replies_from}

pub record Run : Type 0 where
  pub roster : Roster
  pub config : Config

-- at its start
abbrev pub started : Roster → Run
started r = record { roster = r; config = start_of r }

-- what its next event comes to, and the run after it
abbrev pub outcome : Run → Input → Outcome
outcome p e = happen p.roster p.config e

abbrev pub after : Run → Input → Run
after p e = record { roster = p.roster; config = (outcome p e).config }

-- what it writes of events
abbrev pub replies : Run → List Input → List ℕ
replies p es = replies_from p.roster p.config es

-- the event e of a run has come to the ruling x
pub record Happened (old : Run) (e : Input) (new : Run) (x : Ruling) : Type 0 where
  pub same : new ≡ after old e
  pub answer : answer_in x ≡ (outcome old e).answer
  pub report : report_in x ≡ (outcome old e).report
