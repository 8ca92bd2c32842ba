-- `loading::lengths_good` meets its contract.
use Rattle.std.proofs.Common.{refl, sym}
use borrow.Author.Tests.{lt-ltb, le-ltb}
use Rattle.rules.specs.Lists.{below}
use Rattle.rules.proofs.SoundLaws.{below_more, below_fails}
use Rattle.loading.proofs.lengths_good.Goals as goal

pub loop-i-init : goal.loop-i-init
unfolding below
loop-i-init c = refl

pub returns-then-width-cells : goal.returns-then-width-cells
returns-then-width-cells c =
    sym (below_fails _ c.loop-i.i _ c.loop-i-test.true (le-ltb _ c.args.width c.if-width-cells.true))

pub loop-i-preserved : goal.loop-i-preserved
loop-i-preserved c = below_more c.loop-i.i _ c.loop-i.invariant (lt-ltb _ c.args.width c.if-width-cells.false)
