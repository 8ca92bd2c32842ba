-- `lines::text::Page::put_number` meets its contract.
use Rattle.lines.proofs.LineLaws.{added_then, added_as, decimal-more}
use Rattle.lines.proofs.text.Page.+put_number.Goals as goal

pub returns-else-n-lt10 : goal.returns-else-n-lt10
returns-else-n-lt10 t c =
    let whole = decimal-more c.args.n c.if-n-lt10.false c.ranges.n.fits in
    added_as whole (added_then c.put_number.ensures c.put-else-n-lt10.ensures)
