-- `dispatch::State::sound` meets its contract.
use Rattle.std.proofs.Common.{◌∙◌, ap, is_some}
use Rattle.dispatch.proofs.MethodLaws.{loaded-is}
use Rattle.dispatch.proofs.State.sound.Goals as goal

pub returns : goal.returns
returns c = c.is_some.ensures ∙ (ap is_some c.loaded.ensures ∙ loaded-is c.args.self)
