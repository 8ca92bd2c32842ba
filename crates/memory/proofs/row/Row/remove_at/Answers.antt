-- `memory::row::Row::remove_at` meets its contract.
use Rattle.std.proofs.Common.{rules}
use Rattle.memory.proofs.RowLaws.{cut-moved}
use Rattle.memory.proofs.row.Row.remove_at.Goals as goal

pub returns : goal.returns
returns g c = search (rules, cut-moved)
