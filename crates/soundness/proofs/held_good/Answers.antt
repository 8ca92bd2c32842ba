-- `soundness::held_good` meets its contract.
use Rattle.std.proofs.Common.{length, arith}
use Rattle.marks.specs.Marks.{word_bits}
use Rattle.rules.proofs.Choices.{and_right}
use Rattle.soundness.proofs.DistinctLaws.{below-above}
use Rattle.soundness.proofs.ClauseLaws.{sizes-are}
use Rattle.soundness.proofs.held_good.Goals as goal

pub distinct-requires : goal.distinct-requires
distinct-requires c =
    let m = c.args.memory.now in
    rw c.held.ensures
    (below-above (length m.ceilings) word_bits _ (omega (arith, sizes-are m c.requires.sizes)) (and_right _ _ c.requires.good))
