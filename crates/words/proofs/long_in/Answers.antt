-- `words::long_in` meets its contract.
use Rattle.words.proofs.NumberLaws.{long-of}
use Rattle.words.proofs.long_in.Goals as goal

pub returns : goal.returns
returns c = long-of c.args.s.now c.args.i _ _ c.bytes_in.ensures c.from_le_bytes.ensures
