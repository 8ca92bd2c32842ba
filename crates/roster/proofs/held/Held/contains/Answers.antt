-- `roster::held::Held::contains` meets its contract.
use mathlib.Core.Path.{◌∙◌}
use Prim.Native.Nat.{ℕ}
use lib.Dec.{eqb}
use Rattle.std.proofs.Common.{rules}
use Rattle.std.proofs.lemmas.Iterator.{YieldsList-from_slice}
use Rattle.std.proofs.lemmas.Iterator.Search.{any_from_yields_List}
use Rattle.roster.proofs.StackLaws.{contained}
use Rattle.roster.proofs.held.Held.contains.Goals as goal

pub returns : goal.returns
returns c =
    any_from_yields_List (λ (y : ℕ). eqb y c.args.o) _ _ c.any.result c.any.ensures.ran (YieldsList-from_slice c.args.self.now (cc))
    (λ x b q k. search rules) ∙ contained c.args.self.now c.args.o
