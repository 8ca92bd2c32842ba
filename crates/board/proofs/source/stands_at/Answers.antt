-- `board::source::stands_at` meets its contract.
use mathlib.Core.Path.{◌∙◌}
use Rattle.std.proofs.Common.{arith}
use Rattle.std.proofs.lemmas.Grind.{common_steps}
use Rattle.dispatch.specs.Readers.{queue_of}
use Rattle.board.proofs.SourceLaws.{entry-there}
use Rattle.board.proofs.source.stands_at.Goals as goal

pub returns : goal.returns
returns c =
    let a = c.args in
    let there = c.queue_entry.ensures ∙ entry-there (queue_of a.state.now a.p) a.i c.requires in
    grind (arith, common_steps)
