-- `dispatch::readers::entry` meets its contract.
use Rattle.std.proofs.Common.{arith}
use Rattle.std.proofs.lemmas.Grind.{common_steps}
use Rattle.dispatch.specs.Readers.{entry_of}
use Rattle.dispatch.proofs.readers.entry.Goals as goal

pub returns : goal.returns
unfolding entry_of
returns c = grind (arith, common_steps)
