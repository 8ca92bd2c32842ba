-- `soundness::distinct` meets its contract.
use Rattle.std.proofs.Common.{ℕ, ◌+◌, ◌∙◌, sym, subst}
use borrow.Author.Tests.{eqb-true, eqb-false}
use Rattle.marks.specs.Marks.{word_bits}
use Rattle.soundness.proofs.DistinctLaws.{Seen, below-at, seen_none, seen_all, seen_twice, seen_more}
use Rattle.soundness.proofs.distinct.Goals as goal

pub loop-o-init : goal.loop-o-init
loop-o-init c = seen_none _

pub has_bit-requires : goal.has_bit-requires
has_bit-requires c = below-at word_bits _ c.requires _ c.loop-o-test.true

pub returns-then-has_bit : goal.returns-then-has_bit
returns-then-has_bit c =
    let low = below-at word_bits _ c.requires _ c.loop-o-test.true in
    sym (seen_twice _ _ _ c.loop-o.invariant c.loop-o-test.true low (eqb-true _ 1 (sym c.has_bit.ensures ∙ c.if-has_bit.true)))

pub with_bit-seen-requires : goal.with_bit-seen-requires
with_bit-seen-requires c = below-at word_bits _ c.requires _ c.loop-o-test.true

pub loop-o-preserved : goal.loop-o-preserved
loop-o-preserved c =
    let low = below-at word_bits _ c.requires _ c.loop-o-test.true in
    let new = eqb-false _ 1 (sym c.has_bit.ensures ∙ c.if-has_bit.false) in
    subst (λ (w : ℕ). Seen c.args.held.now w (c.loop-o.o-index + 1)) (sym c.with_bit-seen.ensures)
    (seen_more _ _ _ c.loop-o.invariant c.loop-o-test.true low new)

pub returns : goal.returns
returns c = sym (seen_all _ _ _ c.loop-o.invariant c.loop-o-test.false)
