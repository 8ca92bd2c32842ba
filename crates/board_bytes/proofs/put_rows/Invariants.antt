-- What the loop of `board_bytes::put_rows` keeps: the rows so far are put, and those to come belong behind them.
use mathlib.Core.Path.{◌≡◌}
use mathlib.Core.List.{flat_map}
use Prim.Native.Nat.{◌*◌}
use lib.ListN.{drop}
use lib.Seq.{sets}
use Rattle.board_bytes.specs.Boards.{row_size, row_bytes}
use Rattle.board_bytes.proofs.put_rows.Given as goal

abbrev pub invariant-loop-i : goal.invariant-loop-i
invariant-loop-i l = sets l.fn.board 0 (flat_map row_bytes l.rows) ≡ sets l.board (row_size * l.i) (flat_map row_bytes (drop l.i l.rows))
