-- `roster::checks::script_fault` meets its contract.
use mathlib.Core.Path.{ap, ◌∙◌}
use mathlib.Core.List.{List}
use Prim.Native.Nat.{ℕ}
use Rattle.format.specs.Steps.{steps_of}
use Rattle.format.specs.Check.{steps_fault}
use Rattle.format.proofs.FormedLaws.{part-inside, row_inside}
use Rattle.format.proofs.AnswerLaws.{script-fault}
use Rattle.roster.proofs.LoopLaws.{walk-given}
use Rattle.roster.proofs.checks.script_fault.Goals as goal

pub script_part-requires : goal.script_part-requires
script_part-requires c =
    let low = c.requires.t_bound in
    record {
      task_row_size_in_bounds = row_inside c.args.roster.now c.requires.roster_value _ low;
      t_in_bounds = part-inside c.args.roster.now c.requires.roster_value _ low;
    }

pub steps_fault-requires : goal.steps_fault-requires
steps_fault-requires c =
    let whole = walk-given c.args.roster.now c.requires.roster_value _ _ _ c.requires.t_bound c.script_part.ensures
    c.requires.ceilings_value in
    record { ceilings_len_bound = whole.0; all_listed = whole.1 }

pub returns : goal.returns
returns c =
    let steps = steps_of c.script_part.result.now in
    let fault = c.steps_fault.ensures ∙
    ap (λ (cs : List ℕ). steps_fault cs c.args.top.0 c.args.t steps) c.requires.ceilings_value in
    script-fault c.args.roster.now _ _ _ _ c.requires.t_bound c.script_part.ensures c.requires.top_value fault
