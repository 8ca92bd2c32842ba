-- `soundness::ceilings_good` meets its contract.
use Rattle.std.proofs.Common.{◌∙◌, rules, tests}
use Rattle.std.proofs.lemmas.Iterator.{YieldsList-from_slice}
use Rattle.std.proofs.lemmas.Iterator.Search.{all_from_yields_List}
use Rattle.rules.specs.Priorities.{in_range}
use Rattle.rules.specs.declared.Priority.{Priority}
use Rattle.soundness.proofs.TestedLaws.{all-levels}
use Rattle.soundness.proofs.ceilings_good.Goals as goal

pub returns : goal.returns
returns c =
    let ceilings = c.args.ceilings.now in
    all_from_yields_List (λ (p : Priority). in_range p.0) _ _ _ c.all.ensures.ran (YieldsList-from_slice ceilings cc)
    (λ x b q k. search (rules, tests)) ∙ all-levels in_range ceilings
