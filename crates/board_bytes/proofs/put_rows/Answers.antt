-- `board_bytes::put_rows` meets its contract.
use mathlib.Core.Path.{ap, ◌∙◌}
use mathlib.Core.List.{List, flat_map}
use Prim.Native.Nat.{ℕ, ◌*◌}
use native.Mathlib.Omega.{arith}
use lib.Seq.{sets}
use Rattle.std.proofs.Common.{refl}
use Rattle.board_bytes.specs.Boards.{row_size, row_bytes}
use Rattle.board_bytes.proofs.BoardLaws.{row-turn, rows_end}
use Rattle.board_bytes.proofs.put_rows.Goals as goal

pub loop-i-preserved : goal.loop-i-preserved
loop-i-preserved c =
    let l = c.loop-i in
    let rows = c.args.rows.now in
    let whole = sets c.args.board.now 0 (flat_map row_bytes rows) in
    let put = c.put.ensures ∙ ap (λ (v : List ℕ). sets l.board (row_size * l.i) v) c.row_bytes.ensures in
    row-turn whole rows l.board _ l.i _ _ (omega arith) refl put l.invariant

pub returns : goal.returns
returns c =
    let rows = c.args.rows.now in
    rows_end (sets c.args.board.now 0 (flat_map row_bytes rows)) rows c.loop-i.board c.loop-i.i (omega arith) c.loop-i.invariant
