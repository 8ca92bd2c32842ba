-- `board_bytes::fill` meets its contract.
use mathlib.Core.Path.{refl, ap, sym, ◌∙◌}
use native.Mathlib.Omega.{arith}
use lib.ListN.{length-take}
use Rattle.board.specs.Rows.{fill_number}
use Rattle.board_bytes.proofs.FilledLaws.{blank_rows, refusal_counts, fill-unread, fill-refused, fill-room, fill_done}
use Rattle.board_bytes.proofs.fill.Goals as goal

pub returns-then-not-readable : goal.returns-then-not-readable
returns-then-not-readable c =
    let a = c.args in
    let whole = fill-unread a.bytes.now a.board.now _ c.number.ensures (sym c.readable.ensures ∙ c.if-not-readable.true) in
    record { value = whole.0; board_after = whole.1 }

pub shared_ref_as_front-put_rows : goal.shared_ref_as_front-put_rows
shared_ref_as_front-put_rows c =
    let a = c.args in
    let x = c.fill_first-filled in
    let room = fill-room a.bytes.now a.board.now (sym c.readable.ensures ∙ c.if-not-readable.false) _ c.read-state.ensures blank_rows refl _
    c.lent.ensures x.result.answer x.result.rows x.ensures _ (sym (ap fill_number c.in-Ok.is)) refl in
    omega (arith, room.0)

pub put_rows-requires-clause-room : goal.put_rows-requires-clause-room
put_rows-requires-clause-room c =
    let a = c.args in
    let x = c.fill_first-filled in
    let room = fill-room a.bytes.now a.board.now (sym c.readable.ensures ∙ c.if-not-readable.false) _ c.read-state.ensures blank_rows refl _
    c.lent.ensures x.result.answer x.result.rows x.ensures _ (sym (ap fill_number c.in-Ok.is)) refl in
    omega (arith, room.0, room.1, length-take c.read-state.result.task_count x.result.rows)

pub returns-in-Ok : goal.returns-in-Ok
returns-in-Ok c =
    let a = c.args in
    let x = c.fill_first-filled in
    let whole =
    fill_done a.bytes.now a.board.now (sym c.readable.ensures ∙ c.if-not-readable.false) _ c.read-state.ensures blank_rows refl _
    c.lent.ensures x.result.answer x.result.rows x.ensures _ (sym (ap fill_number c.in-Ok.is)) refl _ c.put_rows.ensures in
    record { value = whole.0; board_after = whole.1 }

pub returns-in-Err : goal.returns-in-Err
returns-in-Err c =
    let a = c.args in
    let x = c.fill_first-filled in
    let told = c.number-in-Err.ensures ∙ sym (ap fill_number c.in-Err.is) in
    let whole =
    fill-refused a.bytes.now a.board.now (sym c.readable.ensures ∙ c.if-not-readable.false) _ c.read-state.ensures blank_rows refl _
    c.lent.ensures x.result.answer x.result.rows x.ensures _ told (λ z. refusal_counts _ (sym c.number-in-Err.ensures ∙ z)) in
    record { value = whole.0; board_after = whole.1 }
