-- `moves::dispatch` meets its contract.
use Rattle.std.proofs.Common.{◌<◌, ◌≤◌, ◌∙◌, arith}
use Rattle.std.proofs.lemmas.Bool.Decides.{nat_tests}
use Rattle.moves.proofs.MoveLaws.{highest-starts, vacated-starts, stays, changes}
use Rattle.moves.proofs.dispatch.Goals as goal

pub start-requires : goal.start-requires
start-requires c =
    let m = c.args.memory.now in
    let up : c.level-a.result.0 < c.highest-p.result.0 = grind (arith, nat_tests) in
    rw c.vacate.ensures
    (vacated-starts m _ c.requires (highest-starts m _ c.requires c.highest-p.ensures (λ e. omega (arith, e))) (omega arith))

pub returns-then-gt : goal.returns-then-gt
returns-then-gt c =
    let up : c.level-a.result.0 < c.highest-p.result.0 = grind (arith, nat_tests) in
    rw c.vacate.ensures at c.start.ensures ∙ changes _ _ c.highest-p.ensures (omega arith)

pub returns-else-gt : goal.returns-else-gt
returns-else-gt c =
    let low : c.highest-p.result.0 ≤ c.level-a.result.0 = grind (arith, nat_tests) in
    stays _ _ c.highest-p.ensures (omega arith)
