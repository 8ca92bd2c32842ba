-- `loading::load_tasks` meets its contract.
use Rattle.std.proofs.Common.{◌∙◌, refl, ap, sym, subst, List, ◌+◌, ◌*◌, ◌≤◌, ◌<◌, length, arith, rules}
use Rattle.rules.specs.Limits.{task_limit}
use Rattle.rules.specs.Model.{TaskRecord, Model, blank}
use Rattle.memory.specs.Rows.{held_width}
use Rattle.memory.specs.Memory.{record_of}
use Rattle.loading.specs.Loading.{Each, TaskFrom}
use Rattle.loading.proofs.RowLaws.{part_length, part-list, part-room}
use Rattle.loading.proofs.LoadLaws.{each-none, each-more, tasks-rest}
use Rattle.loading.proofs.load_tasks.Goals as goal

pub loop-t-init : goal.loop-t-init
loop-t-init g c = record { rest = refl; each = each-none _ blank _ c.requires.none }

pub read-requires : goal.read-requires
read-requires g c =
    let t = c.loop-t.t in
    let held = c.args.held.now in
    let enough : c.args.n * held_width ≤ length held = omega (arith, c.requires.rows, c.requires.room) in
    let room = part-room held_width c.args.n t held c.loop-t-test.true enough c.requires.lengths in
    (search rules, (search rules, (part_length held_width c.args.n t held c.loop-t-test.true enough, omega (arith, room))))

pub loop-t-preserved : goal.loop-t-preserved
loop-t-preserved g c =
    let l = c.loop-t in
    let low : l.t < task_limit = omega (arith, c.requires.room) in
    let row = c.read.ensures ∙ part-list held_width task_limit l.t c.args.held.now low (omega (arith, c.requires.rows)) in
    let new = c.add_task.ensures in
    record {
      rest = tasks-rest c.args.memory.now l.memory _ _ l.invariant.rest new;
      each =
          subst (λ (ks : List TaskRecord). Each (TaskFrom (goal.T-post g c.args.task) c.args.held.now) blank (l.t + 1) ks)
          (sym (ap (λ (m : Model). m.tasks) new))
          (each-more _ blank l.t l.memory.tasks _ l.invariant.each (c.task.result, c.task.ensures, ap (record_of c.task.result) row));
    }
