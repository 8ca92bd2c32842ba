-- `words::word_in` meets its contract.
use Rattle.words.proofs.NumberLaws.{word-of}
use Rattle.words.proofs.word_in.Goals as goal

pub returns : goal.returns
returns c = word-of c.args.s.now c.args.i _ _ c.bytes_in.ensures c.from_le_bytes.ensures
