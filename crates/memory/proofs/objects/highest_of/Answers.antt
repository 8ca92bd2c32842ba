-- `memory::objects::highest_of` meets its contract.
use Rattle.std.proofs.Common.{◌≡◌, max, rules, arith, ap, ◌∙◌}
use Rattle.memory.proofs.PriorityLaws.{raise-more, raise-end}
use Rattle.memory.proofs.objects.highest_of.Goals as goal

pub loop-o-preserved : goal.loop-o-preserved
loop-o-preserved c =
    let top : c.max-a.result.0 ≡ max c.loop-o.a.0 c.ceiling_of.result.0 = search rules in
    raise-more _ _ _ _ _ c.loop-o.o-index c.loop-o-test.true (top ∙ ap (max c.loop-o.a.0) c.ceiling_of.ensures) c.loop-o.invariant

pub returns : goal.returns
returns c = raise-end _ _ _ _ c.loop-o.o-index (omega (arith, c.loop-o-test.false)) c.loop-o.invariant
