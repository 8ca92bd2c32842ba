-- `loading::store_queues` meets its contract.
use Rattle.std.proofs.Common.{◌∙◌, refl, arith, sub-one, add-one}
use Rattle.rules.specs.Limits.{last_priority}
use Rattle.memory.specs.Rows.{queue_width}
use Rattle.std.proofs.lemmas.Nat.{row_fits}
use Rattle.loading.proofs.RowLaws.{part_length}
use Rattle.loading.proofs.StoreLaws.{rows_none, rows-more, rows-end}
use Rattle.loading.proofs.store_queues.Goals as goal

pub loop-i-init : goal.loop-i-init
loop-i-init c = rows_none queue_width 0 c.args.queues.now c.args.memory.now.ready refl

pub loop-i-preserved : goal.loop-i-preserved
loop-i-preserved c =
    let l = c.loop-i in
    let h = c.loop-i-test.true in
    let ready = c.args.memory.now.ready in
    let size = c.write_queue.auto.row in
    rows-more queue_width l.i l.queues ready l.invariant _ (omega (arith, c.requires.levels))
    (omega (arith, row_fits l.i queue_width last_priority queue_width h (omega arith), l.auto.queues, c.requires.rows))
    (size ∙ part_length queue_width last_priority l.i l.queues h (omega (arith, l.auto.queues, c.requires.rows)))
    (c.write_queue.ensures ∙ rw (add-one, sub-one))

pub returns : goal.returns
returns c =
    let l = c.loop-i in
    rows-end queue_width l.i l.queues c.args.memory.now.ready l.invariant last_priority c.loop-i-test.false c.requires.levels
    (l.auto.queues ∙ c.requires.rows) l.auto.i-end
