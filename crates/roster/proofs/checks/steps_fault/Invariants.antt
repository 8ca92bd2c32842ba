-- What the loop of `roster::checks::steps_fault` keeps.
use Rattle.format.specs.Steps.{steps_of}
use Rattle.roster.proofs.LoopLaws.{WalkedTo}
use Rattle.roster.proofs.checks.steps_fault.Given as goal

abbrev pub invariant-loop-k : goal.invariant-loop-k
invariant-loop-k l = WalkedTo l.ceilings l.top.0 l.t (steps_of l.part) l.k l.held
