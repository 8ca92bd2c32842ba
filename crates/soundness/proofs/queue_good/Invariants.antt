-- What the loop of `soundness::queue_good` keeps.
use Rattle.std.proofs.Common.{◌≡◌, ◌+◌, ◌-◌, ◌*◌, ◌∷◌, eqb, drop}
use Rattle.rules.specs.Limits.{task_limit}
use Rattle.rules.specs.Model.{active}
use Rattle.rules.specs.Lists.{all_of}
use Rattle.soundness.specs.Tested.{Counted}
use Rattle.soundness.proofs.queue_good.Given as goal

abbrev pub invariant-loop-t : goal.invariant-loop-t
invariant-loop-t l = record {
  value : all_of (λ t. eqb (active l.memory t) l.p.0) l.queue ≡ all_of (λ t. eqb (active l.memory t) l.p.0) (drop l.t-index l.queue);
  counted : Counted l.counts ((l.p.0 - 1) * task_limit + l.t-index) (drop l.t-index l.queue ∷ drop l.p.0 l.memory.ready) l.memory.ready;
}
