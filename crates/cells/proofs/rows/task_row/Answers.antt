-- `cells::rows::task_row` meets its contract.
use mathlib.Core.Path.{◌∙◌}
use Rattle.std.proofs.Math.Nat.{div-div-eq-div-mul}
use Rattle.cells.specs.Encode.{task_bytes, task_tail, low_bytes}
use Rattle.cells.proofs.ByteLaws.{bit_is}
use Rattle.cells.proofs.rows.task_row.Goals as goal

pub returns : goal.returns
unfolding task_bytes task_tail low_bytes
returns c =
    let on = c.from-2.ensures ∙ bit_is c.args.task.permit in
    rw (
      c.put.ensures,
      c.to_le_bytes.ensures,
      c.due_of.ensures,
      c.from.ensures,
      c.kind.ensures,
      c.waits_byte.ensures,
      c.waiting_byte.ensures,
      on,
    )
    (simp div-div-eq-div-mul)
