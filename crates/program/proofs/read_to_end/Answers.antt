use Rattle.program.proofs.Reading.{read_more}
use Rattle.program.proofs.read_to_end.Goals as goal

pub loop-done-preserved : goal.loop-done-preserved
loop-done-preserved g c =
    let read = c.in-Ok.ensures in
    let before = c.loop-done.invariant in
    (read.fits, read_more _ _ _ c.loop-done.buffer c.read_at.new.buffer c.loop-done.done c.in-Ok.n read.front before.1 read.read)
