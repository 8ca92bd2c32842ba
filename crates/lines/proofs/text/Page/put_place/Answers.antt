-- `lines::text::Page::put_place` meets its contract.
use mathlib.Core.Path.{sym, ap, ◌∙◌}
use native.Mathlib.Omega.{arith}
use Rattle.lines.specs.Lines.{has_place}
use Rattle.lines.proofs.LineLaws.{added_then, added_as, added_none, place-some, place-none}
use Rattle.lines.proofs.text.Page.put_place.Goals as goal

pub returns-then-has_place : goal.returns-then-has_place
returns-then-has_place c =
    let test = ap has_place (sym c.number.ensures) ∙ (sym c.has_place.ensures ∙ c.if-has_place.true) in
    let some = place-some _ c.task.result c.position.result test in
    rw (← c.task.ensures, ← c.position.ensures)
    (added_as some (added_then c.put.ensures (added_then c.put_number.ensures
    (added_then c.put-then-has_place.ensures c.put_number-then-has_place.ensures))))

pub returns-else-has_place : goal.returns-else-has_place
returns-else-has_place c =
    let test = ap has_place (sym c.number.ensures) ∙ (sym c.has_place.ensures ∙ c.if-has_place.false) in
    added_as (place-none _ _ _ test) (added_none _ (omega arith))
