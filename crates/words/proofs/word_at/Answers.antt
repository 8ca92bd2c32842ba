-- `words::word_at` meets its contract.
use Rattle.words.proofs.NumberLaws.{word-of}
use Rattle.words.proofs.word_at.Goals as goal

pub returns : goal.returns
returns c = word-of c.args.s.now c.args.i _ _ c.bytes_at.ensures c.from_le_bytes.ensures
