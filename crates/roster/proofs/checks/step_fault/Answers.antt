-- `roster::checks::step_fault` meets its contract.
use lib.ListN.{length}
use Rattle.roster.proofs.LoopLaws.{enter-listed}
use Rattle.roster.proofs.checks.step_fault.Goals as goal

pub bounds-ceilings-o : goal.bounds-ceilings-o
bounds-ceilings-o c = enter-listed (length c.args.ceilings.now) _ _ c.requires.listed c.in-Enter-2.is
