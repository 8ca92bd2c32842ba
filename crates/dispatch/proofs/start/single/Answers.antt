-- `dispatch::start::single` meets its contract.
use Rattle.rules.specs.Fresh.{refused_fresh}
use Rattle.dispatch.proofs.FreshLaws.{single-startable}
use Rattle.dispatch.proofs.start.single.Goals as goal

pub started-requires : goal.started-requires
started-requires c = single-startable

pub returns : goal.returns
unfolding refused_fresh
returns c = c.started.ensures
