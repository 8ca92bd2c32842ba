-- `soundness::all_below` meets its contract.
use Rattle.std.proofs.Common.{◌∙◌, not, leb, rules, tests}
use Rattle.std.proofs.lemmas.Iterator.{YieldsList-from_slice}
use Rattle.std.proofs.lemmas.Iterator.Search.{all_from_yields_List}
use Rattle.soundness.proofs.TestedLaws.{all-listed}
use Rattle.soundness.proofs.all_below.Goals as goal

pub returns : goal.returns
returns c =
    let held = c.args.held.now in
    all_from_yields_List (λ o. not (leb c.args.n o)) _ _ _ c.all.ensures.ran (YieldsList-from_slice held cc)
    (λ x b q k. search (rules, tests)) ∙ all-listed (λ o. not (leb c.args.n o)) held
