-- `fresh::join_all` meets its contract.
use Rattle.std.proofs.Common.{refl}
use Rattle.rules.specs.Fresh.{join_from}
use Rattle.fresh.proofs.FreshLaws.{join-more}
use Rattle.fresh.proofs.join_all.Goals as goal

pub loop-t-init : goal.loop-t-init
unfolding join_from
loop-t-init c = refl

pub loop-t-preserved : goal.loop-t-preserved
loop-t-preserved c = join-more c.loop-t.t _ _ _ c.loop-t.invariant c.become_ready.ensures
