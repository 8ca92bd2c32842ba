-- `memory::Memory::new` meets its contract.
use Rattle.std.proofs.Common.{None, ℕ, List, [], refl, rules, ap, sym, arith}
use Rattle.marks.specs.Marks.{marks_of}
use Rattle.rules.specs.Fresh.{new_tasks}
use Rattle.marks.proofs.MarkLaws.{none-on}
use Rattle.memory.proofs.QueueLaws.{all-empty}
use Rattle.memory.proofs.Memory.new.Goals as goal

pub invariant_of-result : goal.invariant_of-result
unfolding marks_of
invariant_of-result c =
    let rows = c.from_fn-2.ensures.items in
    record {
      slots = c.from_fn.ensures.items.long;
      cells = refl;
      levels = rows.long;
      tasks = omega arith;
      objects = omega arith;
      marks = sym (ap marks_of (all-empty 32 c.from_fn-2.result rows.long (λ i q b. search (rules, rows.at i q b))));
      next = record { each = λ t d p. absurd (cc p) };
      delayed = record { each = λ t d p. absurd (cc p); tasks = λ t i. absurd (omega (arith, i, none-on t)) };
    }

pub returns : goal.returns
unfolding new_tasks
returns c =
    let rows = c.from_fn-2.ensures.items in
    ap (λ (qs : List (List ℕ)). record { now = 0; running = None; tasks = []; ceilings = []; ready = qs })
    (all-empty 32 c.from_fn-2.result rows.long (λ i q b. search (rules, rows.at i q b)))
