-- `marks::without_bit` meets its contract.
use Rattle.marks.proofs.MarkLaws.{bit-masked}
use Rattle.marks.proofs.without_bit.Goals as goal

pub returns : goal.returns
returns c = bit-masked c.args.word c.args.i _ c.bit.ensures c.requires c.ranges.word.fits
