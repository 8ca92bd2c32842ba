-- `board::fill` meets its contract.
use mathlib.Core.Path.{◌≡◌, sym, ap, ◌∙◌}
use Prim.Native.Nat.{ℕ}
use native.Mathlib.Omega.{arith}
use lib.ListN.{length}
use Rattle.dispatch.specs.State.{view}
use Rattle.board.specs.Rows.{FillAnswer, filling_of}
use Rattle.board.specs.Fill.{row_of, board_after}
use Rattle.board.proofs.FoldLaws.{filled_to}
use Rattle.board.proofs.StateLaws.{fill_by, answer-few, answer-done, answer-unsound, board-is}
use Rattle.board.proofs.fill.Goals as goal

pub returns-then-not-sound : goal.returns-then-not-sound
unfolding board_after
returns-then-not-sound c =
    let s = c.args.state in
    let ys = c.args.board.now in
    let answer = answer-unsound s (length ys) (sym c.sound.ensures ∙ c.if-not-sound.true) in
    sym (ap (λ (a : FillAnswer). filling_of a (board_after s a ys)) answer)

pub returns-then-board-n : goal.returns-then-board-n
unfolding board_after
returns-then-board-n c =
    let s = c.args.state in
    let ys = c.args.board.now in
    let answer = answer-few s (length ys) (sym c.sound.ensures ∙ c.if-not-sound.false) (omega (arith, c.tasks_in-n.ensures)) in
    sym (ap (λ (a : FillAnswer). filling_of a (board_after s a ys)) answer)

pub returns : goal.returns
returns c =
    let s = c.args.state in
    let ys = c.args.board.now in
    let good = sym c.sound.ensures ∙ c.if-not-sound.false in
    let all : c.loop-t.t ≡ length (view s).tasks = omega (arith, c.tasks_in-n.ensures) in
    let board = c.loop-t.invariant ∙ (ap (λ (n : ℕ). filled_to (row_of (view s)) n ys) all ∙
    board-is s ys good (omega (arith, c.tasks_in-n.ensures))) in
    fill_by s ys _ _ (sym (answer-done s (length ys) good (omega (arith, c.tasks_in-n.ensures)))) board
