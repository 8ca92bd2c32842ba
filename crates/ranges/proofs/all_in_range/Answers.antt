-- `ranges::all_in_range` meets its contract.
use Rattle.std.proofs.Common.{◌&&◌, ◌∙◌, refl, rules, tests}
use Rattle.std.specs.List.{list_all}
use Rattle.std.proofs.lemmas.Iterator.{YieldsList-from_slice}
use Rattle.std.proofs.lemmas.Iterator.Search.{all_from_yields_List}
use Rattle.std.proofs.lemmas.List.Recursion.{same_from_clauses}
use Rattle.rules.specs.Priorities.{in_range}
use Rattle.rules.specs.Lists.{all_of}
use Rattle.ranges.proofs.all_in_range.Goals as goal

pub returns : goal.returns
unfolding all_of
returns c =
    let values = c.args.values.now in
    all_from_yields_List in_range _ _ _ c.all.ensures.ran (YieldsList-from_slice values cc) (λ x b q k. search (rules, tests)) ∙
    same_from_clauses (list_all in_range) (all_of in_range) (λ x b. in_range x && b) refl (λ _ _. refl) (λ _ _. refl) values
