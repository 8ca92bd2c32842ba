-- `cells::rows::row_in_range` meets its contract.
use mathlib.Core.Path.{◌≡◌, ap, ◌∙◌}
use lib.Dec.{leb}
use Rattle.std.proofs.Common.{arith}
use Rattle.std.proofs.lemmas.Grind.{common_steps}
use Rattle.std.specs.Result.{is_ok}
use Rattle.rules.specs.Kinds.{ended_code}
use Rattle.words.specs.Words.{byte_at}
use Rattle.cells.specs.Sizes.{kind_offset}
use Rattle.cells.specs.InRange.{row_in_range}
use Rattle.cells.proofs.ByteLaws.{found_is}
use Rattle.cells.proofs.rows.row_in_range.Goals as goal

pub returns-then-row-le1 : goal.returns-then-row-le1
unfolding row_in_range
returns-then-row-le1 c =
    let kind : c.is_ok.result ≡ leb (byte_at c.args.row.now kind_offset) ended_code =
    c.is_ok.ensures.value ∙ (ap is_ok c.try_from.ensures ∙ found_is _) in
    grind (arith, common_steps)

pub returns-else-row-le1 : goal.returns-else-row-le1
unfolding row_in_range
returns-else-row-le1 c =
    let kind : c.is_ok.result ≡ leb (byte_at c.args.row.now kind_offset) ended_code =
    c.is_ok.ensures.value ∙ (ap is_ok c.try_from.ensures ∙ found_is _) in
    grind (arith, common_steps)
