-- `exports::dispatch_check` meets its contract.
use Rattle.packed.proofs.PackLaws.{check-place}
use Rattle.exports.proofs.dispatch_check.Goals as goal

pub pack-requires : goal.pack-requires
pack-requires c = check-place _ c.args.roster.now c.check.ensures
