-- `state_bytes::write` meets its contract.
use mathlib.Core.Path.{◌≡◌, ◌∙◌}
use mathlib.Core.Bool.{false}
use Prim.Native.Nat.{ℕ, ◌<◌}
use lib.ListN.{get_or}
use Rattle.std.specs.Prelude.{None}
use Rattle.std.proofs.lemmas.List.{get_or_default}
use Rattle.rules.specs.Limits.{task_limit}
use Rattle.rules.specs.declared.Place.TheVariants.{Running}
use Rattle.rules.specs.declared.Task.{Task}
use Rattle.memory.specs.Memory.{blank_task}
use native.Mathlib.Omega.{arith}
use borrow.Author.Rules.{rules}
use Rattle.dispatch.proofs.Known.{known}
use Rattle.cells.proofs.WriteLaws.{state-put, state-kept}
use Rattle.state_bytes.proofs.write.Goals as goal

-- what an element reads as where there is none, as the code has it
abbrev no_task : Task
no_task = record { place = Running; base = record { 0 = 0 }; waiting = None; permit = false }

pub returns-then-bytes-lt-STATE_SIZE : goal.returns-then-bytes-lt-STATE_SIZE
returns-then-bytes-lt-STATE_SIZE c = state-kept c.args.state c.args.bytes.now (omega arith)

pub returns : goal.returns
returns c =
    let s = c.args.state in
    let d = known s _ c.well_formed.0 in
    let read : (t : ℕ) (k : Task) → t < task_limit → k ≡ get_or s.tasks t no_task → k ≡ get_or s.tasks t blank_task = λ t k h e.
    e ∙ get_or_default s.tasks t no_task blank_task (omega (arith, d.tasks)) in
    let f = c.put_front.ensures s.tasks (record { count = d.tasks; same = λ t k l p. read t k l (search rules) }) in
    state-put s d c.args.bytes.now c.put_front.new.bytes _ _ (omega arith) (f ∙ rw c.levels.ensures) c.put.ensures c.put-2.ensures
