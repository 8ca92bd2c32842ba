-- `soundness::due_good` meets its contract.
use Rattle.std.proofs.Common.{sym, arith}
use Rattle.std.proofs.lemmas.Bool.Decides.{nat_tests}
use Rattle.rules.specs.Sound.{due_good}
use Rattle.soundness.proofs.TestedLaws.{due-ahead, due-free}
use Rattle.soundness.proofs.due_good.Goals as goal

pub returns-then-now-due : goal.returns-then-now-due
returns-then-now-due c = sym (due-ahead _ _ _ c.in-Delayed.is c.if-now-due.true)

pub returns-else-now-due : goal.returns-else-now-due
unfolding due_good
returns-else-now-due c = rw c.in-Delayed.is (grind (arith, nat_tests))

pub returns-in_default : goal.returns-in_default
returns-in_default c = sym (due-free _ _ c.in_default.not-Delayed)
