-- `memory::Memory::holds` meets its contract.
use Rattle.std.proofs.Common.{◌≡◌, ℕ, suc, Bool, true, false, cond, eqb, ltb, List, [], ◌∷◌, refl, sym, ap, ◌∙◌, arith}
use borrow.Author.Tests.{lt-ltb}
use Rattle.std.specs.List.{list_any}
use Rattle.std.specs.Prelude.{◌||◌}
use Rattle.rules.specs.Lists.{times_in}
use Rattle.memory.proofs.Memory.holds.Goals as goal

stands-in : (o : ℕ) (l : List ℕ) → list_any (λ y. eqb y o) l ≡ ltb 0 (times_in o l)
unfolding times_in
stands-in o [] = refl
stands-in o (y ∷ ys) = go (eqb y o) (stands-in o ys)
  where
    go : (b : Bool) → list_any (λ y. eqb y o) ys ≡ ltb 0 (times_in o ys) →
        (b || list_any (λ y. eqb y o) ys) ≡ ltb 0 (cond b (suc (times_in o ys)) (times_in o ys))
    go true i = sym (lt-ltb 0 (suc (times_in o ys)) (omega arith))
    go false i = i

pub returns : goal.returns
returns c = c.contains.ensures.value ∙ (ap (list_any (λ y. eqb y c.args.o)) c.held.ensures ∙ stands-in c.args.o _)
