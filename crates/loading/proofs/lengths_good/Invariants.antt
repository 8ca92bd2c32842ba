-- What the loop of `loading::lengths_good` keeps.
use Rattle.std.proofs.Common.{◌≡◌, true}
use Rattle.loading.specs.Loading.{lengths_good}
use Rattle.loading.proofs.lengths_good.Given as goal

abbrev pub invariant-loop-i : goal.invariant-loop-i
invariant-loop-i l = lengths_good l.width l.i l.cells ≡ true
