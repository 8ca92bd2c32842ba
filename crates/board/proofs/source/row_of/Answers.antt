-- `board::source::row_of` meets its contract.
use Rattle.board.proofs.SourceLaws.{row_made}
use Rattle.board.proofs.source.row_of.Goals as goal

pub returns : goal.returns
returns c =
    row_made c.args.state.now c.args.t c.task.result c.kind-kind.result c.active-priority.result c.position.result
    c.requires.sound c.requires.there c.task.ensures c.kind-kind.ensures c.active-priority.ensures c.position.ensures
