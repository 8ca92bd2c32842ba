-- `board::source::position` meets its contract.
use native.Mathlib.Omega.{arith}
use Rattle.board.proofs.SourceLaws.{position-fits}
use Rattle.board.proofs.source.position.Goals as goal

pub overflow_cast-result : goal.overflow_cast-result
overflow_cast-result c = omega (arith, c.stand_before.ensures, position-fits c.args.state.now c.args.p c.args.t)
