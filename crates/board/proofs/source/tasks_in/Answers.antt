-- `board::source::tasks_in` meets its contract.
use native.Mathlib.Omega.{arith}
use Rattle.dispatch.proofs.Known.{known}
use Rattle.dispatch.proofs.LoadLaws.{tasks-are}
use Rattle.board.proofs.source.tasks_in.Goals as goal

pub returns : goal.returns
returns c = omega (arith, c.min.ensures, tasks-are c.args.state (known c.args.state _ c.well_formed.0))
