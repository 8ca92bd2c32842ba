-- `dispatch::State::ceilings` meets its contract.
use Rattle.std.proofs.Common.{rules}
use Rattle.rules.specs.Limits.{object_limit}
use Rattle.dispatch.specs.State.{view}
use Rattle.dispatch.proofs.ReaderLaws.{ceilings-are}
use Rattle.dispatch.proofs.State.ceilings.Goals as goal

pub returns : goal.returns
unfolding view
returns c = ceilings-are c.args.self.now.ceilings object_limit c.args.self.now.object_count _ (search rules) c.min.ensures
