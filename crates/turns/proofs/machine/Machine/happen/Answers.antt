-- `turns::machine::Machine::happen` meets its contract.
use Rattle.std.proofs.Common.{rules}
use Rattle.turns.proofs.RunLaws.{going_laws}
use Rattle.turns.proofs.machine.Machine.happen.Goals as goal

pub invariant_of-self : goal.invariant_of-self
invariant_of-self c = search (rules, going_laws)

pub invariant_of-self-in-Release : goal.invariant_of-self-in-Release
invariant_of-self-in-Release c = search (rules, going_laws)

pub invariant_of-self-in-Set : goal.invariant_of-self-in-Set
invariant_of-self-in-Set c = search (rules, going_laws)
