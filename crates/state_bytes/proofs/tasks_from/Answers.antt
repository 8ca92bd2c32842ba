-- `state_bytes::tasks_from` meets its contract.
use mathlib.Core.Path.{sym}
use Prim.Native.Nat.{ℕ, ◌+◌, ◌*◌}
use Rattle.rules.specs.declared.Task.{Task}
use borrow.Author.Rules.{rules}
use Rattle.rules.specs.Limits.{task_limit}
use Rattle.words.proofs.FromFn.{made_as}
use Rattle.words.proofs.TableLaws.{tabulate-of}
use Rattle.memory.specs.Memory.{blank_task}
use Rattle.cells.specs.Sizes.{tasks_start, task_size}
use Rattle.cells.specs.Decode.{task_from, tasks_from}
use Rattle.cells.proofs.ReadLaws.{task-there}
use Rattle.state_bytes.proofs.tasks_from.Goals as goal

pub returns : goal.returns
unfolding tasks_from
returns c =
    let given : ℕ → Task = λ t. task_from c.args.bytes.now (tasks_start + task_size * t) in
    let made = c.from_fn.ensures.items in
    sym (tabulate-of c.from_fn.result task_limit given blank_task made.long
    (λ t h. sym (made_as blank_task given made (λ x y q p. search (rules, task-there)) t h)))
