-- `cells::head::Head::bytes` meets its contract.
use Rattle.std.proofs.Math.Nat.{div-div-eq-div-mul}
use Rattle.cells.specs.Encode.{head_row, low_bytes}
use Rattle.cells.proofs.head.Head.bytes.Goals as goal

pub returns : goal.returns
unfolding head_row low_bytes
returns c =
    rw (c.put-2.ensures, c.put.ensures, c.to_le_bytes.ensures, c.to_le_bytes-2.ensures, c.unwrap_or.ensures) (simp div-div-eq-div-mul)
