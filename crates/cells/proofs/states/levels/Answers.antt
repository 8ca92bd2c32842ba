-- `cells::states::levels` meets its contract.
use mathlib.Core.Path.{sym}
use native.Mathlib.Omega.{arith}
use borrow.Author.Rules.{rules}
use Rattle.rules.specs.Limits.{object_limit}
use Rattle.rules.specs.Model.{ceiling_of}
use Rattle.words.proofs.FromFn.{made_at}
use Rattle.words.proofs.TableLaws.{tabulate-of}
use Rattle.cells.proofs.states.levels.Goals as goal

pub returns : goal.returns
returns c =
    let given = ceiling_of c.args.memory.now.ceilings in
    sym (tabulate-of c.from_fn.result object_limit given 0 (omega arith)
    (λ k h. sym (made_at given c.from_fn.ensures.items (λ x y q p. search rules) k h)))
