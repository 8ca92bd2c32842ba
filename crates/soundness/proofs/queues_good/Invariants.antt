-- What the loop of `soundness::queues_good` keeps.
use Rattle.std.proofs.Common.{◌≡◌, true, suc, ◌*◌, drop}
use Rattle.rules.specs.Limits.{task_limit}
use Rattle.rules.specs.Lists.{below}
use Rattle.soundness.specs.Tested.{queue_sound, Counted}
use Rattle.soundness.proofs.queues_good.Given as goal

abbrev pub invariant-loop-i : goal.invariant-loop-i
invariant-loop-i l = record {
  value : below l.i (λ q. queue_sound l.memory (suc q)) ≡ true;
  counted : Counted l.counts (l.i * task_limit) (drop l.i l.memory.ready) l.memory.ready;
}
