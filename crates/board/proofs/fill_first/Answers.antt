-- `board::fill_first` meets its contract.
use mathlib.Core.Path.{sym, ap, ◌∙◌}
use native.Mathlib.Omega.{arith}
use lib.ListN.{drop}
use Rattle.board.specs.Rows.{Filling, behind}
use Rattle.board.proofs.StateLaws.{fill-few, fill-many}
use Rattle.board.proofs.fill_first.Goals as goal

pub returns-then-count-gt-ROW_LIMIT : goal.returns-then-count-gt-ROW_LIMIT
returns-then-count-gt-ROW_LIMIT c =
    let a = c.args in
    ap (λ (f : Filling). record { number = f.number; board = a.rows }) c.fill-answer.ensures ∙
    sym (fill-many a.state a.rows a.count (omega arith))

pub returns : goal.returns
returns c =
    let a = c.args in
    ap (λ (f : Filling). behind f (drop a.count a.rows)) c.fill-answer-2.ensures ∙ sym (fill-few a.state a.rows a.count (omega arith))
