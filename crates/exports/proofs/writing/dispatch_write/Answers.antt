-- `exports::writing::dispatch_write` meets its contract.
use native.Mathlib.Omega.{arith}
use Rattle.encoding.specs.File.{parts}
use Rattle.packed.proofs.PackLaws.{write-place}
use Rattle.exports.proofs.writing.dispatch_write.Goals as goal

pub pack-requires : goal.pack-requires
pack-requires c =
    let a = c.args in
    write-place _ (parts a.bases.now a.ceilings.now a.lengths.now a.steps.now) _ (λ t. omega (arith, c.type_inv.lengths t))
    c.write.ensures.value
