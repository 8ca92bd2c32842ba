-- `exports::dispatch_form` meets its contract.
use Rattle.packed.proofs.PackLaws.{form-place}
use Rattle.exports.proofs.dispatch_form.Goals as goal

pub pack-requires : goal.pack-requires
pack-requires c = form-place _ c.args.roster.now c.form.ensures
