-- `events::work` meets its contract.
use Rattle.std.proofs.Common.{sym}
use Rattle.rules.proofs.EventLaws.{work-0}
use Rattle.rules.proofs.Soundness.{sound-good}
use Rattle.moves.proofs.EventLaws.{did-quiet, quiet-work}
use Rattle.events.proofs.work.Goals as goal

pub returns-in-Some : goal.returns-in-Some
returns-in-Some c =
    let m = c.args.memory.now in
    let e = sym c.in-Some.ensures in
    did-quiet (quiet-work m _ (sound-good m c.requires) e) (work-0 m _ e)
