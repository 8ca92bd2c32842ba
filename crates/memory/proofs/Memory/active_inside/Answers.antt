-- `memory::Memory::active_inside` meets its contract.
use Rattle.std.proofs.Common.{ℕ, List, ◌-◌, ◌<◌, length, get_or, arith, ap, ◌∙◌}
use Rattle.rules.specs.Model.{ceiling_of, task_at}
use Rattle.rules.proofs.HeldLaws.{highest-none}
use Rattle.memory.proofs.PriorityLaws.{active-rises}
use Rattle.memory.proofs.Memory.active_inside.Goals as goal

pub returns-in-empty : goal.returns-in-empty
returns-in-empty c =
    let k = task_at c.args.self.now c.args.t in
    c.base.ensures ∙ highest-none c.args.self.now.ceilings k.base k.held (omega (arith, c.in-empty.len_below, ap length c.held.ensures))

pub returns-in-len1-up : goal.returns-in-len1-up
returns-in-len1-up c =
    let m = c.args.self.now in
    let some : 0 < length (task_at m c.args.t).held = omega (arith, c.in-len1-up.len_at_least, ap length c.held.ensures) in
    c.ceiling_of.ensures ∙
    (ap (λ (cs : List ℕ). ceiling_of cs (get_or c.held.result.now (length c.held.result.now - 1) 0)) c.ceilings.ensures ∙
    (ap (λ (l : List ℕ). ceiling_of m.ceilings (get_or l (length l - 1) 0)) c.held.ensures ∙
    active-rises m c.args.t c.requires.rises some))
