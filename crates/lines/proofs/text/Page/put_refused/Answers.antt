-- `lines::text::Page::put_refused` meets its contract.
use Rattle.lines.specs.Lines.{refused_line}
use Rattle.lines.proofs.LineLaws.{added_then}
use Rattle.lines.proofs.text.Page.put_refused.Goals as goal

pub returns : goal.returns
unfolding refused_line
returns c =
    added_then c.put.ensures (added_then (rw c.number.ensures at c.put_number.ensures) (added_then c.put_place.ensures c.put-2.ensures))
