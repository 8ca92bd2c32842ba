-- `lines::text::Page::put_reply` meets its contract.
use Rattle.lines.specs.Lines.{reply_line}
use Rattle.lines.proofs.LineLaws.{added_then}
use Rattle.lines.proofs.text.Page.put_reply.Goals as goal

pub returns : goal.returns
unfolding reply_line
returns c =
    added_then c.put_number.ensures (added_then c.put.ensures (added_then c.put_running.ensures
    (added_then c.put-2.ensures (added_then c.put_number-2.ensures c.put-3.ensures))))
