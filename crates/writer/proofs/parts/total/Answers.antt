-- `writer::parts::total` meets its contract.
use mathlib.Core.Path.{refl}
use native.Mathlib.Omega.{arith}
use Rattle.writer.proofs.PartLaws.{sum-starts, sum-goes}
use Rattle.writer.proofs.parts.total.Goals as goal

pub loop-n-init : goal.loop-n-init
loop-n-init c = sum-starts _

pub loop-n-preserved : goal.loop-n-preserved
loop-n-preserved c =
    sum-goes c.args.lengths.now c.loop-n.n-index c.loop-n.sum _ c.loop-n.invariant refl
    (omega (arith, c.type_inv.lengths c.loop-n.n-index))
