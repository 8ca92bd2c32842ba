-- `marks::with_bit` meets its contract.
use mathlib.Core.Path.{◌∙◌, ap}
use lib.Bits.{bit_or}
use Rattle.marks.proofs.MarkLaws.{bit-set}
use Rattle.marks.proofs.with_bit.Goals as goal

pub returns : goal.returns
returns c = ap (bit_or c.args.word) c.bit.ensures ∙ bit-set c.args.word _
