-- `marks::bit` meets its contract.
use native.Mathlib.Omega.{arith}
use Rattle.std.proofs.lemmas.Nat.{one_shl}
use Rattle.marks.specs.Marks.{word_bits}
use Rattle.marks.proofs.bit.Goals as goal

pub returns : goal.returns
returns c = one_shl _ word_bits (omega arith)
