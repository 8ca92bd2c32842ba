-- `soundness::highest_runs` meets its contract.
use Rattle.std.proofs.Common.{◌∙◌, sym, arith}
use Rattle.std.proofs.lemmas.Bool.Decides.{nat_tests}
use Rattle.rules.specs.Sound.{highest_runs}
use Rattle.soundness.proofs.highest_runs.Goals as goal

pub returns-in-None : goal.returns-in-None
unfolding highest_runs
returns-in-None c = rw (sym c.running.ensures ∙ c.in-None.is) (grind (arith, nat_tests))

pub returns-in-Some : goal.returns-in-Some
unfolding highest_runs
returns-in-Some c = rw (sym c.running.ensures ∙ c.in-Some.is) (grind (arith, nat_tests))
