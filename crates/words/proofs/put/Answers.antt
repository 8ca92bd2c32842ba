-- `words::put` meets its contract.
use native.Mathlib.Omega.{arith}
use Rattle.words.proofs.CopyLaws.{part_copied}
use Rattle.words.proofs.put.Goals as goal

pub returns : goal.returns
returns c =
    let a = c.args in
    part_copied a.out.now a.bytes.now _ a.at _ c.copy_from_slice.ensures.after (omega arith) (omega arith)
