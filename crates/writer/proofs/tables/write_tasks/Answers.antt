-- `writer::tables::write_tasks` meets its contract.
use mathlib.Core.Path.{◌≡◌, refl, ap, ◌∙◌}
use Prim.Native.Nat.{ℕ, suc}
use native.Mathlib.Omega.{arith}
use lib.ListN.{length, length-take, length-drop}
use Rattle.words.specs.Words.{over_front}
use Rattle.encoding.specs.File.{pieces, task_row_bytes}
use Rattle.encoding.proofs.FileLaws.{before-suc, before-rise}
use Rattle.writer.proofs.TableLaws.{tasks-start, tasks-go}
use Rattle.writer.proofs.tables.write_tasks.Goals as goal

pub loop-t-init : goal.loop-t-init
loop-t-init c = tasks-start _ _ _

pub overflow_cast-start : goal.overflow_cast-start
overflow_cast-start c =
    let bases = c.args.bases.now in
    let lengths = c.args.lengths.now in
    let rise = before-rise lengths (suc c.loop-t.t) (length bases) (omega arith) in
    omega (arith, c.loop-t.invariant.begins, before-suc lengths c.loop-t.t)

pub overflow_cast-size-in-loop-t : goal.overflow_cast-size-in-loop-t
overflow_cast-size-in-loop-t c =
    let bases = c.args.bases.now in
    let lengths = c.args.lengths.now in
    omega (arith, before-suc lengths c.loop-t.t, before-rise lengths (suc c.loop-t.t) (length bases) (omega arith))

pub write_task-requires : goal.write_task-requires
write_task-requires c = simp (length-take, length-drop) (omega (arith, c.loop-t.invariant.room))

pub overflow_add-start : goal.overflow_add-start
overflow_add-start c =
    let bases = c.args.bases.now in
    let lengths = c.args.lengths.now in
    let rise = before-rise lengths (suc c.loop-t.t) (length bases) (omega arith) in
    omega (arith, c.loop-t.invariant.begins, before-suc lengths c.loop-t.t)

pub loop-t-preserved : goal.loop-t-preserved
loop-t-preserved c =
    tasks-go c.args.bases.now c.args.lengths.now c.args.table.now c.loop-t.t c.loop-t.start _ _ _ c.loop-t.table _ c.loop-t.invariant
    refl refl refl (omega arith) c.write_task.ensures

pub returns : goal.returns
returns c =
    let z : c.loop-t.t ≡ length c.args.bases.now = omega arith in
    let f = task_row_bytes c.args.bases.now c.args.lengths.now in
    c.loop-t.invariant.rows ∙ ap (λ (k : ℕ). over_front (pieces k f) c.args.table.now) z
