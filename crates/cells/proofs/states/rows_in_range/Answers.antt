-- `cells::states::rows_in_range` meets its contract.
use mathlib.Core.Path.{refl, sym, ◌∙◌}
use native.Mathlib.Omega.{arith}
use Rattle.cells.proofs.ReadLaws.{range-there}
use Rattle.cells.proofs.RangeLaws.{rows_none, rows_more, rows-many, rows-fail, rows_all}
use Rattle.cells.proofs.states.rows_in_range.Goals as goal

pub returns-then-n-gt-TASKS : goal.returns-then-n-gt-TASKS
returns-then-n-gt-TASKS c = rows-many c.args.bytes.now _ refl (omega arith)

pub loop-t-init : goal.loop-t-init
loop-t-init c = rows_none c.args.bytes.now

pub returns-then-not-row_in_range : goal.returns-then-not-row_in_range
returns-then-not-row_in_range c =
    rows-fail c.args.bytes.now _ refl c.loop-t.t (omega arith) (omega arith)
    (sym (range-there _ _ _ c.bytes_in.ensures) ∙ sym c.row_in_range.ensures ∙ c.if-not-row_in_range.true)

pub loop-t-preserved : goal.loop-t-preserved
loop-t-preserved c =
    rows_more c.args.bytes.now c.loop-t.t c.loop-t.invariant
    (sym (range-there _ _ _ c.bytes_in.ensures) ∙ sym c.row_in_range.ensures ∙ c.if-not-row_in_range.false)

pub returns : goal.returns
returns c = rows_all c.args.bytes.now _ refl c.loop-t.t (omega arith) (omega arith) (omega arith) c.loop-t.invariant
