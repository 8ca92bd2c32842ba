-- `soundness::queues_good` meets its contract.
use Rattle.std.proofs.Common.{refl, ◌∙◌, sym, add-one}
use Rattle.rules.specs.Limits.{last_priority}
use Rattle.rules.specs.Lists.{below}
use Rattle.rules.proofs.SoundLaws.{below_more, below_fails}
use Rattle.soundness.proofs.queues_good.Goals as goal

pub loop-i-init : goal.loop-i-init
unfolding below
loop-i-init c = record { value = refl; counted = c.requires.counted }

pub returns-then-not-queue_good-clause-value : goal.returns-then-not-queue_good-clause-value
returns-then-not-queue_good-clause-value c =
    let bad = sym c.queue_good.ensures.value ∙ c.if-not-queue_good.true in
    sym (below_fails last_priority c.loop-i.i _ c.loop-i-test.true (rw add-one at bad))

pub loop-i-preserved : goal.loop-i-preserved
loop-i-preserved c =
    let passed = c.if-not-queue_good.false in
    let good = sym c.queue_good.ensures.value ∙ passed in
    record {
      value = below_more c.loop-i.i _ c.loop-i.invariant.value (rw add-one at good);
      counted = c.queue_good.ensures.counted passed;
    }
