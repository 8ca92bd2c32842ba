-- Laws of single bytes: a permit's, and that of a place kind in range.
use mathlib.Core.Path.{◌≡◌, refl}
use mathlib.Core.Bool.{Bool, true, false}
use Prim.Native.Nat.{ℕ}
use native.Mathlib.Omega.{arith}
use mir.Val.{bool_byte}
use lib.Dec.{leb}
use Rattle.std.specs.Result.{is_ok}
use Rattle.std.proofs.lemmas.Bool.Decides.{nat_tests}
use Rattle.rules.specs.Kinds.{kind_found, ended_code}
use Rattle.cells.specs.Encode.{bit}

pub bit_is : (b : Bool) → bool_byte b ≡ bit b
bit_is true = refl
bit_is false = refl

-- a place kind is found for the numbers up to that of ended
pub found_is : (k : ℕ) → is_ok (kind_found k) ≡ leb k ended_code
found_is k = grind (arith, nat_tests)
