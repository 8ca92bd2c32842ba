-- `board_bytes::next` meets its contract.
use mathlib.Core.Path.{◌∙◌}
use native.Mathlib.Omega.{arith}
use Rattle.board_bytes.proofs.BoardLaws.{byte_small, next-packed, told_number}
use Rattle.board_bytes.proofs.next.Goals as goal

pub overflow_mul-result : goal.overflow_mul-result
overflow_mul-result c =
    let small = byte_small c.args.board.now _ c.next_first-answer.result _ _ c.rows_from.ensures c.next_first-answer.ensures in
    omega (arith, small (c.number.ensures ∙ told_number _) c.row_byte.ensures)

pub overflow_add-result : goal.overflow_add-result
overflow_add-result c =
    let small = byte_small c.args.board.now _ c.next_first-answer.result _ _ c.rows_from.ensures c.next_first-answer.ensures in
    omega (arith, small (c.number.ensures ∙ told_number _) c.row_byte.ensures)

pub returns : goal.returns
returns c =
    next-packed c.args.board.now _ c.next_first-answer.result _ _ c.rows_from.ensures c.next_first-answer.ensures
    (c.from.ensures ∙ (c.number.ensures ∙ told_number _)) c.row_byte.ensures
