-- `soundness::queue_good` meets its contract.
use Rattle.std.proofs.Common.{◌≡◌, false, refl, ◌∙◌, sym, get_or, arith, eqb}
use borrow.Author.Tests.{eq-eqb}
use Rattle.std.proofs.lemmas.Bool.Decides.{nat_tests}
use Rattle.rules.specs.Model.{active}
use Rattle.rules.proofs.AllLaws.{all_more, all-fails, all_end}
use Rattle.soundness.specs.Tested.{queue_sound}
use Rattle.soundness.proofs.CountLaws.{counted-begun, counted-more, counted-done}
use Rattle.soundness.proofs.ClauseLaws.{queued_few}
use Rattle.soundness.proofs.queue_good.Goals as goal

pub loop-t-init : goal.loop-t-init
loop-t-init c =
    record { value = refl; counted = counted-begun _ _ _ _ c.requires.level.low c.queue-queue.ensures.value c.requires.counted }

pub returns-then-ne-clause-value : goal.returns-then-ne-clause-value
unfolding queue_sound
returns-then-ne-clause-value c =
    let other : eqb (active c.args.memory.now (get_or c.queue-queue.result.now c.loop-t.t-index 0)) c.args.p.0 ≡ false =
    grind (arith, nat_tests) in
    sym (rw (← c.queue-queue.ensures.value) (all-fails _ _ _ c.loop-t.invariant.value c.loop-t-test.true other))

pub bounds-counts-t : goal.bounds-counts-t
bounds-counts-t c =
    let own : c.active.result.0 ≡ c.args.p.0 = grind (arith, nat_tests) in
    queued_few c.args.memory.now c.requires.sizes _ _ c.requires.level.low (sym c.active.ensures ∙ own)

pub bounds-counts-t-in-loop-t : goal.bounds-counts-t-in-loop-t
bounds-counts-t-in-loop-t c =
    let own : c.active.result.0 ≡ c.args.p.0 = grind (arith, nat_tests) in
    queued_few c.args.memory.now c.requires.sizes _ _ c.requires.level.low (sym c.active.ensures ∙ own)

pub loop-t-preserved : goal.loop-t-preserved
loop-t-preserved c =
    let own : c.active.result.0 ≡ c.args.p.0 = grind (arith, nat_tests) in
    let here = sym c.active.ensures ∙ own in
    let few = queued_few c.args.memory.now c.requires.sizes _ _ c.requires.level.low here in
    record {
      value = all_more _ _ _ c.loop-t.invariant.value c.loop-t-test.true (eq-eqb _ _ here);
      counted = counted-more _ _ _ _ c.loop-t.invariant.counted _ c.loop-t-test.true refl few;
    }

pub returns-clause-value : goal.returns-clause-value
unfolding queue_sound
returns-clause-value c =
    sym (rw (← c.queue-queue.ensures.value) (all_end _ _ _ c.loop-t.invariant.value c.loop-t-test.false))

pub returns-clause-counted : goal.returns-clause-counted
returns-clause-counted c = λ e.
    counted-done _ _ _ _ c.loop-t.invariant.counted _ c.loop-t-test.false (omega (arith, c.queue-queue.ensures.fits))
