-- `marks::top` meets its contract.
use Rattle.marks.proofs.MarkLaws.{at_top}
use Rattle.marks.proofs.top.Goals as goal

pub returns : goal.returns
returns c =
    let e = c.ilog2.ensures in
    at_top c.args.word c.ilog2.result e.bound e.power_le e.next_power_gt
