-- `board_bytes::rows_from` meets its contract.
use mathlib.Core.Path.{sym}
use Prim.Native.Nat.{ℕ, ◌*◌}
use borrow.Author.Rules.{rules}
use Rattle.board.specs.Rows.{row_limit, no_row}
use Rattle.board.specs.declared.Row.{Row}
use Rattle.words.proofs.FromFn.{made_as}
use Rattle.words.proofs.TableLaws.{tabulate-of}
use Rattle.board_bytes.specs.Boards.{row_size, row_from, rows_from}
use Rattle.board_bytes.proofs.rows_from.Goals as goal

pub returns : goal.returns
unfolding rows_from
returns c =
    let given : ℕ → Row = λ i. row_from c.args.board.now (row_size * i) in
    let made = c.from_fn.ensures.items in
    sym (tabulate-of c.from_fn.result row_limit given no_row made.long
    (λ i h. sym (made_as no_row given made (λ x y q p. search rules) i h)))
