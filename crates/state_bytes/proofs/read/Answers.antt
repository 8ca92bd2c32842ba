-- `state_bytes::read` meets its contract.
use mathlib.Core.Path.{◌∙◌}
use native.Mathlib.Omega.{arith}
use Rattle.cells.specs.Decode.{head_from, state_of_bytes}
use Rattle.cells.proofs.ReadLaws.{head-there, cells-there}
use Rattle.state_bytes.proofs.read.Goals as goal

pub returns : goal.returns
unfolding head_from state_of_bytes
returns c =
    let b = c.args.bytes.now in
    let head = c.read-head.ensures ∙ head-there b _ c.bytes_at.ensures in
    let held = cells-there b _ _ _ (omega arith) c.bytes_at-2.ensures in
    let queues = cells-there b _ _ _ (omega arith) c.bytes_at-3.ensures in
    rw (head, c.tasks_from.ensures, held, c.ceilings_from.ensures, queues)
