-- `board::source::stand_before` meets its contract.
use mathlib.Core.Path.{sym, ◌∙◌}
use native.Mathlib.Omega.{arith}
use borrow.Author.Tests.{eqb-true, eqb-false}
use Rattle.dispatch.specs.Readers.{queue_of}
use Rattle.board.proofs.SourceLaws.{find-hit, find-miss, find-end}
use Rattle.board.proofs.source.stand_before.Goals as goal

pub returns-then-stands_at : goal.returns-then-stands_at
returns-then-stands_at c =
    let a = c.args in
    find-hit a.t c.loop-i.i (queue_of a.state.now a.p) c.loop-i.invariant (omega (arith, c.queue_length-n.ensures))
    (eqb-true _ _ (sym c.stands_at.ensures ∙ c.if-stands_at.true))

pub loop-i-preserved : goal.loop-i-preserved
loop-i-preserved c =
    let a = c.args in
    find-miss a.t c.loop-i.i (queue_of a.state.now a.p) c.loop-i.invariant (omega (arith, c.queue_length-n.ensures))
    (eqb-false _ _ (sym c.stands_at.ensures ∙ c.if-stands_at.false))

pub returns : goal.returns
returns c =
    let a = c.args in
    let all = find-end a.t c.loop-i.i (queue_of a.state.now a.p) c.loop-i.invariant (omega (arith, c.queue_length-n.ensures)) in
    omega (arith, all)
