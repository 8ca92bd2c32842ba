-- What the loop of `board::fill` keeps: the rows so far are written, and no others.
use Rattle.std.specs.Prelude.{◌≡◌}
use Rattle.dispatch.specs.State.{view}
use Rattle.board.specs.Fill.{row_of}
use Rattle.board.proofs.FoldLaws.{filled_to}
use Rattle.board.proofs.fill.Given as goal

abbrev pub invariant-loop-t : goal.invariant-loop-t
invariant-loop-t l = l.board ≡ filled_to (row_of (view l.state)) l.t l.fn.board
