-- `inputs::events_good` meets its contract.
use Rattle.std.proofs.Common.{rules, tests}
use Rattle.trace.specs.Inputs.{events_good}
use Rattle.inputs.proofs.events_good.Goals as goal

pub returns-then-s-le-LARGEST_EVENTS : goal.returns-then-s-le-LARGEST_EVENTS
unfolding events_good
returns-then-s-le-LARGEST_EVENTS c = search (rules, tests)

pub returns-else-s-le-LARGEST_EVENTS : goal.returns-else-s-le-LARGEST_EVENTS
unfolding events_good
returns-else-s-le-LARGEST_EVENTS c = search (rules, tests)
