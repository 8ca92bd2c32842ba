-- `step_form::limits::Limits::new` meets its contract.
use Prim.Native.Nat.{ℕ}
use lib.ListN.{replicate, length-replicate}
use Rattle.step_form.specs.Limited.{code_range}
use Rattle.step_form.proofs.LimitLaws.{zeros, limits-made}
use Rattle.step_form.proofs.limits.Limits.new.Goals as goal

pub invariant_of-result : goal.invariant_of-result
invariant_of-result c =
    record { limited = limits-made _ _ (replicate code_range 0) (length-replicate {A = ℕ} code_range 0) (zeros code_range) }
