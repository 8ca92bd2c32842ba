-- What the loop of `roster::checks::scripts_fault` keeps.
use mathlib.Core.Path.{◌≡◌}
use Rattle.std.specs.Prelude.{Ok}
use Rattle.format.specs.Answers.{first}
use Rattle.format.specs.Roster.{roster_of}
use Rattle.format.specs.Check.{script_fault}
use Rattle.roster.proofs.checks.scripts_fault.Given as goal

abbrev pub invariant-loop-t : goal.invariant-loop-t
invariant-loop-t l = first l.t (script_fault (roster_of l.roster)) ≡ Ok tt
