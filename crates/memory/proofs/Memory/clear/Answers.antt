-- `memory::Memory::clear` meets its contract.
use Rattle.std.proofs.Common.{None, ℕ, List, [], ap, sym, length, arith}
use Rattle.marks.specs.Marks.{marks_of}
use Rattle.rules.specs.Fresh.{new_tasks}
use Rattle.marks.proofs.MarkLaws.{none-on}
use Rattle.memory.proofs.Memory.clear.Goals as goal

pub invariant_of-self : goal.invariant_of-self
unfolding marks_of
invariant_of-self c =
    record {
      slots = c.self.invariant.slots;
      cells = c.self.invariant.cells;
      levels = ap (λ (qs : List (List ℕ)). length qs) c.empty.ensures;
      tasks = omega arith;
      objects = omega arith;
      marks = sym (ap marks_of c.empty.ensures);
      next = record { each = λ t d p. absurd (cc p) };
      delayed = record { each = λ t d p. absurd (cc p); tasks = λ t i. absurd (omega (arith, i, none-on t)) };
    }

pub returns : goal.returns
unfolding new_tasks
returns c = ap (λ (qs : List (List ℕ)). record { now = 0; running = None; tasks = []; ceilings = []; ready = qs }) c.empty.ensures
