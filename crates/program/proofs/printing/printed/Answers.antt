-- `printed` meets its contract: a run that wrote replies had room for them, and its lines are of the bytes that it wrote.
use Rattle.std.proofs.Common.{sym, arith, length-take-le}
use Rattle.lines.proofs.PrintedLaws.{written-fits, printed-is}
use Rattle.program.proofs.printing.printed.Goals as goal

pub slice_bounds-lines-end : goal.slice_bounds-lines-end
slice_bounds-lines-end c =
    let fits = written-fits c.args.roster.now c.args.events.now c.args.replies.now c.run-answer.new.buffer _ _
    c.run-answer.ensures.value c.replies_written-n.ensures
    in
    omega arith

pub slice_bounds-lines-end-2 : goal.slice_bounds-lines-end-2
slice_bounds-lines-end-2 c =
    let fits = written-fits c.args.roster.now c.args.events.now c.args.replies.now c.run-answer.new.buffer _ _
    c.run-answer.ensures.value c.replies_written-n.ensures
    in
    sym (length-take-le c.replies_written-n.result c.run-answer.new.buffer (omega arith))

pub returns-clause-value : goal.returns-clause-value
returns-clause-value c =
    let is = printed-is c.args.roster.now c.args.events.now c.args.replies.now c.run-answer.new.buffer c.args.out.now _ _ _ _
    c.run-answer.ensures.value c.replies_written-n.ensures c.run-answer.ensures.buffer_after c.lines.ensures.value c.lines.ensures.out_after
    in is.0

pub returns-clause-out_after : goal.returns-clause-out_after
returns-clause-out_after c =
    let is = printed-is c.args.roster.now c.args.events.now c.args.replies.now c.run-answer.new.buffer c.args.out.now _ _ _ _
    c.run-answer.ensures.value c.replies_written-n.ensures c.run-answer.ensures.buffer_after c.lines.ensures.value c.lines.ensures.out_after
    in is.1.1.0

pub returns-clause-upper_bound : goal.returns-clause-upper_bound
returns-clause-upper_bound c =
    let is = printed-is c.args.roster.now c.args.events.now c.args.replies.now c.run-answer.new.buffer c.args.out.now _ _ _ _
    c.run-answer.ensures.value c.replies_written-n.ensures c.run-answer.ensures.buffer_after c.lines.ensures.value c.lines.ensures.out_after
    in is.1.1.1
