-- `memory::queues::empty` meets its contract.
use Rattle.std.proofs.Common.{arith, ◌∙◌}
use Rattle.std.proofs.lemmas.List.{get_or_default}
use Rattle.memory.proofs.QueueLaws.{all-empty}
use Rattle.memory.proofs.queues.empty.Goals as goal

pub returns : goal.returns
returns c =
    let l = c.loop-row in
    all-empty 32 l.queues l.invariant.0
    (λ i q h. get_or_default l.queues i q _ (omega (arith, l.invariant.0)) ∙ l.invariant.1 i (omega arith))
