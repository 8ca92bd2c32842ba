-- `memory::row::Row::remove` meets its contract.
use Rattle.std.proofs.Common.{rules}
use Rattle.memory.proofs.RowLaws.{removed-Some, removed-None}
use Rattle.memory.proofs.row.Row.remove.Goals as goal

pub returns-in-Some : goal.returns-in-Some
returns-in-Some g c = search (rules, removed-Some)

pub returns-in_default : goal.returns-in_default
returns-in_default g c = removed-None c.args.x c.args.self.now (search rules)
