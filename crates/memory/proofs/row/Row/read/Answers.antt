-- `memory::row::Row::read` meets its contract.
use Rattle.std.proofs.lemmas.List.{take_rest}
use Rattle.memory.proofs.RowLaws.{in_row-take}
use Rattle.memory.proofs.row.Row.read.Goals as goal

pub returns : goal.returns
returns g c = rw (c.copy_from_slice.ensures.after, take_rest c.args.bytes.now 1, in_row-take c.args.bytes.now)
