-- `roster::checks::scripts_fault` meets its contract.
use mathlib.Core.Path.{◌≡◌, refl, sym, ◌∙◌}
use native.Mathlib.Omega.{arith}
use borrow.Author.Rules.{rules}
use Prim.Native.Nat.{◌<◌}
use Rattle.std.specs.Prelude.{Err}
use Rattle.format.specs.Answers.{first}
use Rattle.format.specs.Format.{task_count}
use Rattle.format.specs.Roster.{roster_of}
use Rattle.format.specs.Check.{script_fault, roster_fault}
use Rattle.format.proofs.TestLaws.{turn-finds, turn-passes, turns-pass}
use Rattle.format.proofs.FormatLaws.{script-count}
use Rattle.roster.proofs.checks.scripts_fault.Goals as goal

pub loop-t-init : goal.loop-t-init
unfolding first
loop-t-init c = refl

pub bounds-tops-t : goal.bounds-tops-t
bounds-tops-t c = omega (arith, c.requires.topped.room)

pub script_fault-requires : goal.script_fault-requires
script_fault-requires c =
    let t = c.loop-t.t in
    let low : t < task_count c.args.roster.now = omega arith in
    record {
      roster_value = c.requires.roster_value;
      ceilings_value = c.requires.ceilings_value;
      t_bound = low;
      top_value = c.requires.topped.at t low;
    }

pub returns-in_err-script_fault : goal.returns-in_err-script_fault
unfolding roster_fault
returns-in_err-script_fault c =
    let e : c.from_residual.result ≡ Err c.in_err-script_fault.field-0.0 = search rules in
    let size = script-count c.args.roster.now in
    e ∙ turn-finds (script_fault (roster_of c.args.roster.now)) _ c.loop-t.t _ (omega arith) c.loop-t.invariant
    (sym c.in_err-script_fault.was ∙ c.script_fault.ensures)

pub loop-t-preserved : goal.loop-t-preserved
loop-t-preserved c =
    turn-passes (script_fault (roster_of c.args.roster.now)) c.loop-t.t c.loop-t.invariant
    (sym c.in_ok-script_fault.was ∙ c.script_fault.ensures)

pub returns : goal.returns
unfolding roster_fault
returns c =
    let size = script-count c.args.roster.now in
    turns-pass (script_fault (roster_of c.args.roster.now)) _ c.loop-t.t (omega arith) c.loop-t.invariant
