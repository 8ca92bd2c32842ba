-- `lines::text::Page::put_passed` meets its contract.
use Rattle.lines.specs.Lines.{passed_lines}
use Rattle.lines.proofs.LineLaws.{added_then}
use Rattle.lines.proofs.text.Page.put_passed.Goals as goal

pub returns : goal.returns
unfolding passed_lines
returns c = added_then c.put.ensures (added_then c.put_replies.ensures.added c.put-2.ensures)
