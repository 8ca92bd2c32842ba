-- `words::long_at` meets its contract.
use Rattle.words.proofs.NumberLaws.{long-of}
use Rattle.words.proofs.long_at.Goals as goal

pub returns : goal.returns
returns c = long-of c.args.s.now c.args.i _ _ c.bytes_at.ensures c.from_le_bytes.ensures
