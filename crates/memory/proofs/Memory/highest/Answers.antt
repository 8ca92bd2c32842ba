-- `memory::Memory::highest` meets its contract.
use Rattle.std.proofs.Common.{rules, ap, ◌∙◌}
use Rattle.rules.specs.Model.{Model}
use Rattle.rules.specs.Moves.{highest}
use Rattle.memory.proofs.QueueLaws.{marks-small, marks-highest}
use Rattle.memory.proofs.Memory.highest.Goals as goal

pub overflow_cast-self-inside : goal.overflow_cast-self-inside
overflow_cast-self-inside c = search (rules, marks-small c.self.inside c.self.invariant)

pub returns : goal.returns
unfolding highest
returns c = c.highest.ensures ∙ (marks-highest c.self.inside c.self.invariant ∙ ap (λ (m : Model). highest m) c.self.view_is)
