-- `exports::states::said_priority` meets its contract.
use mathlib.Core.Path.{ap, ◌∙◌}
use Rattle.std.specs.Prelude.{Option, unwrap_or}
use Rattle.rules.specs.declared.Priority.{Priority}
use Rattle.exports.proofs.SaidLaws.{said-checked}
use Rattle.exports.proofs.states.said_priority.Goals as goal

pub returns : goal.returns
returns c =
    let given = ap (λ (o : Option Priority). unwrap_or o (record { 0 = 0 })) c.checked.ensures in
    c.unwrap_or.ensures ∙ (given ∙ said-checked c.args.value)
