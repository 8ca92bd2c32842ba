-- What the loop of `board::next` keeps: the rows so far are in range, and the best of them.
use Rattle.std.specs.Prelude.{◌≡◌, true}
use Rattle.board.specs.Scan.{best_of, ranged}
use Rattle.board.proofs.next.Given as goal

abbrev pub invariant-loop-i : goal.invariant-loop-i
invariant-loop-i l = (l.best ≡ best_of l.rows l.i) × (ranged l.rows l.i ≡ true)
