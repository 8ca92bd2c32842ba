-- `state_bytes::levels` meets its contract.
use mathlib.Core.Path.{sym, ◌∙◌}
use Prim.Native.Nat.{ℕ}
use native.Mathlib.Omega.{arith}
use borrow.Author.Rules.{rules}
use lib.ListN.{get_or, length-map, get_or-map}
use Rattle.std.proofs.lemmas.Grind.{same_number_lists}
use Rattle.rules.specs.Priorities.{level, priority}
use Rattle.words.proofs.FromFn.{made_at}
use Rattle.state_bytes.proofs.levels.Goals as goal

pub returns : goal.returns
returns c =
    let ps = c.args.ceilings.now in
    let made = c.from_fn.ensures.items in
    same_number_lists _ _ (omega (arith, length-map ps level, made.long)) (λ o h.
    made_at (λ (k : ℕ). (get_or ps k (priority 0)).0) made (λ x y q p. search rules) o (omega (arith, made.long)) ∙
    sym (get_or-map level ps o (priority 0)))
