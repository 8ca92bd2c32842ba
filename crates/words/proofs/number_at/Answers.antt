-- `words::number_at` meets its contract.
use Rattle.words.proofs.NumberLaws.{number-of}
use Rattle.words.proofs.number_at.Goals as goal

pub returns : goal.returns
returns c = number-of c.args.s.now c.args.i _ _ c.bytes_at.ensures c.from_le_bytes.ensures
