-- What falls in `lines::text::Page::put_number`.
use Rattle.lines.proofs.text.Page.+put_number.Given as goal

abbrev pub decreases-put_number : goal.decreases-put_number
decreases-put_number l = l.n
