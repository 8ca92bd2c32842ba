-- `exports::dispatch_run` meets its contract.
use Rattle.packed.proofs.PackLaws.{run-place}
use Rattle.exports.proofs.dispatch_run.Goals as goal

pub pack-requires : goal.pack-requires
pack-requires c = run-place _ _ _ _ c.run.ensures.value
