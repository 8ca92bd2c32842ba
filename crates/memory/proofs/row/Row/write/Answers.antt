-- `memory::row::Row::write` meets its contract.
use Rattle.std.proofs.Common.{rules}
use Rattle.memory.proofs.RowLaws.{row-written, row_empty}
use Rattle.memory.proofs.row.Row.write.Goals as goal

pub returns-then-self-gt0 : goal.returns-then-self-gt0
returns-then-self-gt0 g c = search (rules, row-written)

pub returns-else-self-gt0 : goal.returns-else-self-gt0
returns-else-self-gt0 g c = search (rules, row_empty)
