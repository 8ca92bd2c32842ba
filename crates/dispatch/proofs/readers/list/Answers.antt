-- `dispatch::readers::list` meets its contract.
use Rattle.dispatch.proofs.ReaderLaws.{list-is}
use Rattle.dispatch.proofs.readers.list.Goals as goal

pub returns : goal.returns
returns c = list-is c.args.row.now _ c.min.ensures
