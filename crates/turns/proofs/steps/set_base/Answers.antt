-- `turns::steps::set_base` meets its contract.
use Rattle.turns.proofs.RunLaws.{set_same}
use Rattle.turns.proofs.steps.set_base.Goals as goal

pub returns-clause-did : goal.returns-clause-did
returns-clause-did c = rw (c.unwrap_or-p.ensures, c.checked.ensures, set_same) at c.set.ensures.did
