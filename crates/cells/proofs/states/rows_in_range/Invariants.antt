-- What the loop of `cells::states::rows_in_range` keeps: the rows so far are in range.
use Rattle.std.specs.Prelude.{◌≡◌, true}
use Rattle.rules.specs.Lists.{below}
use Rattle.cells.proofs.RangeLaws.{row_at}
use Rattle.cells.proofs.states.rows_in_range.Given as goal

abbrev pub invariant-loop-t : goal.invariant-loop-t
invariant-loop-t l = below l.t (row_at l.bytes) ≡ true
