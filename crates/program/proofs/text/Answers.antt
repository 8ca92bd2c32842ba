-- `text` meets its contract: the buffers for the replies and the lines are long enough for what `printed` tells of them.
use Rattle.std.proofs.Common.{arith}
use Rattle.lines.proofs.PrintedLaws.{printed-text}
use Rattle.program.proofs.text.Goals as goal

pub returns-clause-out_after : goal.returns-clause-out_after
returns-clause-out_after c =
    let e = c.printed-size.ensures in
    printed-text c.args.roster.now c.args.events.now _ c.args.out.now e.value e.out_after (omega arith) c.requires
