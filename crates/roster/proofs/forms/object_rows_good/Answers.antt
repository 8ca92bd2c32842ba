-- `roster::forms::object_rows_good` meets its contract.
use mathlib.Core.Path.{refl, ◌∙◌}
use Rattle.std.proofs.Common.{rules, arith}
use Rattle.std.proofs.lemmas.Iterator.{YieldsList-from_range}
use Rattle.std.proofs.lemmas.Iterator.Search.{all_from_yields_List}
use Rattle.format.specs.Form.{object_row_good}
use Rattle.format.proofs.TestLaws.{below-range}
use Rattle.roster.proofs.forms.object_rows_good.Goals as goal

pub returns : goal.returns
returns c =
    let good = object_row_good c.args.s.now in
    all_from_yields_List good _ _ c.all.result c.all.ensures.ran (YieldsList-from_range 0 c.object_count.result _ refl (omega arith))
    (λ x b q k. search rules) ∙
    below-range good _ _ c.object_count.ensures
