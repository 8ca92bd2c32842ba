-- `inputs::fault_of` meets its contract.
use Rattle.inputs.proofs.fault_of.Goals as goal

pub returns : goal.returns
returns c = rw (← c.requires.unused_value, ← c.requires.unknown_value)
