-- `board::next` meets its contract.
use mathlib.Core.Path.{◌≡◌, refl, sym, ap, ◌∙◌}
use Prim.Native.Nat.{ℕ}
use native.Mathlib.Omega.{arith}
use Rattle.std.proofs.Common.{length}
use Rattle.std.specs.Prelude.{Option, Ok, option_map}
use Rattle.std.proofs.lemmas.Grind.{common_steps}
use Rattle.std.proofs.lemmas.List.{get_or_default}
use Rattle.rules.specs.Priorities.{in_range}
use Rattle.board.specs.declared.Row.{Row}
use Rattle.board.specs.Rows.{told_of}
use Rattle.board.specs.Scan.{best_of, ranged}
use Rattle.board.proofs.ScanLaws.{scan_many, scan_bad, scan_good, ranged_not, ranged_none, ranged_more, best_more}
use Rattle.board.proofs.next.Goals as goal

pub returns-then-rows-gt-ROW_LIMIT : goal.returns-then-rows-gt-ROW_LIMIT
returns-then-rows-gt-ROW_LIMIT c = sym (ap told_of (scan_many c.args.rows.now (omega arith)))

pub loop-i-init : goal.loop-i-init
loop-i-init c = (refl, ranged_none c.args.rows.now)

pub returns-then-not-in_range : goal.returns-then-not-in_range
returns-then-not-in_range c =
    let rows = c.args.rows.now in
    let read = ap (λ (r : Row). in_range r.priority.0) (get_or_default rows c.loop-i.i _ _ c.loop-i-test.true) in
    sym (ap told_of (scan_bad rows (omega arith) (ranged_not rows _ c.loop-i.i (omega arith)
    (sym read ∙ sym c.in_range.ensures ∙ c.if-not-in_range.true))))

pub loop-i-preserved : goal.loop-i-preserved
loop-i-preserved c =
    let rows = c.args.rows.now in
    let same = get_or_default rows c.loop-i.i _ _ c.loop-i-test.true in (
      grind (arith, common_steps, best_more rows c.loop-i.i),
      ranged_more rows c.loop-i.i c.loop-i.invariant.1
          (sym (ap (λ (r : Row). in_range r.priority.0) same) ∙ sym c.in_range.ensures ∙ c.if-not-in_range.false),
    )

pub returns : goal.returns
returns c =
    let rows = c.args.rows.now in
    let all : c.loop-i.i ≡ length rows = omega arith in
    let good = ap (ranged rows) (sym all) ∙ c.loop-i.invariant.1 in
    ap (λ (o : Option ℕ). told_of (Ok o)) (c.number.ensures ∙ ap (option_map (λ b. b.0)) (c.loop-i.invariant.0 ∙ ap (best_of rows) all)) ∙
    sym (ap told_of (scan_good rows (omega arith) good))
