-- `state_bytes::ceilings_from` meets its contract.
use mathlib.Core.Path.{sym}
use Prim.Native.Nat.{ℕ, ◌+◌}
use Rattle.rules.specs.declared.Priority.{Priority}
use borrow.Author.Rules.{rules}
use Rattle.rules.specs.Limits.{object_limit}
use Rattle.rules.specs.Priorities.{priority}
use Rattle.words.specs.Words.{byte_at}
use Rattle.words.proofs.FromFn.{made_as}
use Rattle.words.proofs.TableLaws.{tabulate-of}
use Rattle.cells.specs.Sizes.{ceilings_start}
use Rattle.state_bytes.proofs.ceilings_from.Goals as goal

pub returns : goal.returns
returns c =
    let given : ℕ → Priority = λ o. priority (byte_at c.args.bytes.now (ceilings_start + o)) in
    let made = c.from_fn.ensures.items in
    sym (tabulate-of c.from_fn.result object_limit given (priority 0) made.long
    (λ o h. sym (made_as (priority 0) given made (λ x y q p. search rules) o h)))
