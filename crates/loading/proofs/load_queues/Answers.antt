-- `loading::load_queues` meets its contract.
use Rattle.std.proofs.Common.{◌∙◌, sym, ◌*◌, ◌≤◌, length, append-nil, arith, rules}
use Rattle.std.proofs.lemmas.List.{take_all, drop_all}
use Rattle.rules.specs.Limits.{last_priority}
use Rattle.memory.specs.Rows.{queue_width, queues_in}
use Rattle.loading.proofs.RowLaws.{part_length, part-list, part-room, list_count}
use Rattle.loading.proofs.LoadLaws.{queues-more}
use Rattle.loading.proofs.load_queues.Goals as goal

pub read-requires : goal.read-requires
read-requires c =
    let i = c.loop-i.i in
    let qs = c.args.queues.now in
    let enough : last_priority * queue_width ≤ length qs = omega (arith, c.requires.rows) in
    let room = part-room queue_width last_priority i qs c.loop-i-test.true enough c.requires.lengths in
    (search rules, (search rules, (part_length queue_width last_priority i qs c.loop-i-test.true enough, omega (arith, room))))

pub loop-i-preserved : goal.loop-i-preserved
loop-i-preserved c =
    let qs = queues_in c.args.queues.now in
    let count = list_count queue_width last_priority c.args.queues.now in
    queues-more c.args.memory.now _ _ _ qs _ (omega (arith, count)) (count ∙ sym c.requires.levels) c.loop-i.invariant
    (c.read.ensures ∙ part-list queue_width last_priority _ _ c.loop-i-test.true (omega (arith, c.requires.rows))) c.set_queue.ensures

pub returns : goal.returns
returns c =
    let qs = queues_in c.args.queues.now in
    let low : length qs ≤ c.loop-i.i = omega (arith, list_count queue_width last_priority c.args.queues.now) in
    let none = drop_all c.loop-i.i c.args.memory.now.ready (omega (arith, c.requires.levels)) in
    rw (take_all c.loop-i.i qs low, none, append-nil qs) at c.loop-i.invariant
