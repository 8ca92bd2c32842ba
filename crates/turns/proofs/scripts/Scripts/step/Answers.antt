-- `turns::scripts::Scripts::step` meets its contract.
use Rattle.std.proofs.Common.{arith}
use Rattle.turns.proofs.ScriptLaws.{part-fits, part-read, step-found}
use Rattle.turns.proofs.scripts.Scripts.step.Goals as goal

pub bounds-self-inside-t : goal.bounds-self-inside-t
bounds-self-inside-t c =
    let low = (rw (← c.self.view_is) at c.requires.listed) in
    omega (arith, low, c.self.invariant.few)

pub of-requires : goal.of-requires
of-requires c =
    let low = (rw (← c.self.view_is) at c.requires.listed) in
    part-fits _ c.args.t _ (c.self.invariant.each c.args.t low) (rw (← c.self.view_is) at c.requires.within)

pub returns : goal.returns
returns c =
    let low = (rw (← c.self.view_is) at c.requires.listed) in
    let part = part-read _ c.args.t _ (c.self.invariant.each c.args.t low) _ c.of.ensures in
    rw (← c.self.view_is) (step-found _ _ _ _ _ low part c.step_at.ensures)
