-- `lines::text::Page::put_replies` meets its contract.
use Prim.Native.Nat.{◌/◌, ◌<◌}
use lib.ListN.{length}
use native.Mathlib.Omega.{arith}
use Rattle.lines.proofs.LineLaws.{left-turn, left_end, replies-turn, turn-short, replies-end}
use Rattle.lines.proofs.text.Page.put_replies.Goals as goal

pub put_reply-requires : goal.put_reply-requires
put_reply-requires c =
    let replies = c.args.replies.now in
    let chunks = c.as_chunks.ensures in
    let inside : c.loop-answer.answer-index < length replies / 3 = omega (arith, chunks.front_len) in
    omega (arith, turn-short replies _ c.loop-answer.answer-index chunks.front inside c.type_inv.replies)

pub loop-answer-preserved : goal.loop-answer-preserved
loop-answer-preserved c =
    let replies = c.args.replies.now in
    let chunks = c.as_chunks.ensures in
    let l = c.loop-answer in
    let inside : l.answer-index < length replies / 3 = omega (arith, chunks.front_len) in
    let short = turn-short replies _ l.answer-index chunks.front inside c.type_inv.replies in
    let e = c.put_reply.ensures in
    (omega (arith, short, e.end), left-turn _ _ (replies-turn replies _ l.answer-index chunks.front inside) l.invariant.1 e)

pub returns-clause-added : goal.returns-clause-added
returns-clause-added c =
    let l = c.loop-answer in
    left_end (replies-end c.args.replies.now l.answer-index (omega (arith, c.as_chunks.ensures.front_len))) (omega arith) l.invariant.1
