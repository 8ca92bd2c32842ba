-- `soundness::rises` meets its contract.
use Rattle.std.proofs.Common.{◌<◌, ◌≤◌, sym, arith}
use Rattle.std.proofs.lemmas.Bool.Decides.{nat_tests}
use Rattle.soundness.proofs.TestedLaws.{rising-more, rising-fails, rising-end}
use Rattle.soundness.proofs.rises.Goals as goal

pub returns-then-lt : goal.returns-then-lt
returns-then-lt c =
    let low : c.ceiling_of-c.result.0 < c.loop-o.low.0 = grind (arith, nat_tests) in
    sym (rising-fails _ _ _ _ _ c.loop-o.invariant _ c.loop-o-test.true c.ceiling_of-c.ensures low)

pub loop-o-preserved : goal.loop-o-preserved
loop-o-preserved c =
    let high : c.loop-o.low.0 ≤ c.ceiling_of-c.result.0 = grind (arith, nat_tests) in
    rising-more _ _ _ _ _ c.loop-o.invariant _ c.loop-o-test.true c.ceiling_of-c.ensures high

pub returns : goal.returns
returns c = sym (rising-end _ _ _ _ _ c.loop-o.invariant c.loop-o-test.false)
