-- `lines::text::lines` meets its contract.
use mathlib.Core.Path.{refl, sym, ◌∙◌}
use borrow.Author.Rules.{rules}
use Rattle.lines.proofs.LineLaws.{lines_none, lines-made}
use Rattle.lines.proofs.text.lines.Goals as goal

pub returns-then-not-has_room-clause-value : goal.returns-then-not-has_room-clause-value
returns-then-not-has_room-clause-value c = (lines_none _ _ _ (sym c.has_room.ensures ∙ c.if-not-has_room.true)).0

pub returns-then-not-has_room-clause-out_after : goal.returns-then-not-has_room-clause-out_after
returns-then-not-has_room-clause-out_after c = (lines_none _ _ _ (sym c.has_room.ensures ∙ c.if-not-has_room.true)).1

pub returns-clause-value : goal.returns-clause-value
returns-clause-value c =
    (lines-made _ _ _ _ (sym c.has_room.ensures ∙ c.if-not-has_room.false) refl refl c.put_lines.ensures).0

pub returns-clause-out_after : goal.returns-clause-out_after
returns-clause-out_after c =
    let whole = lines-made _ _ _ _ (sym c.has_room.ensures ∙ c.if-not-has_room.false) refl refl c.put_lines.ensures in
    search (rules, whole.1)
