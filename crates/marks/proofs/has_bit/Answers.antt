-- `marks::has_bit` meets its contract.
use mathlib.Core.Path.{◌∙◌, ap}
use mathlib.Core.Bool.{not}
use Prim.Native.Nat.{ℕ}
use lib.Bits.{bit_and}
use lib.Dec.{eqb}
use Rattle.marks.proofs.MarkLaws.{bit_test}
use Rattle.marks.proofs.has_bit.Goals as goal

pub returns : goal.returns
returns c =
    let w = c.args.word in
    ap (λ (m : ℕ). not (eqb (bit_and w m) 0)) c.bit.ensures ∙ bit_test w _
