-- `cells::front::put_front` meets its contract.
use mathlib.Core.Path.{◌≡◌, refl, ap, ◌∙◌}
use mathlib.Core.List.{List, flat_map, ◌++◌, append_assoc}
use Prim.Native.Nat.{ℕ, ◌+◌, ◌*◌}
use native.Mathlib.Omega.{arith}
use lib.Seq.{sets}
use lib.ListN.{length, length-append}
use Rattle.memory.specs.Memory.{blank_task}
use Rattle.cells.specs.Sizes.{tasks_start, task_size, ceilings_start}
use Rattle.cells.specs.Encode.{head_row, task_bytes}
use Rattle.cells.proofs.PutLaws.{put-behind, head-size, tasks-length, task-turn, tasks-end}
use Rattle.cells.proofs.front.put_front.Goals as goal

pub loop-t-init : goal.loop-t-init
loop-t-init g c = λ ks r. refl

pub loop-t-preserved : goal.loop-t-preserved
loop-t-preserved g c = λ ks r.
    let whole = sets c.put.new.out tasks_start (flat_map task_bytes ks) in
    task-turn whole ks c.loop-t.bytes _ c.loop-t.t _ blank_task (omega (arith, r.count))
    (r.same _ _ c.loop-t-test.true c.task.ensures)
    (c.put-in-loop-t.ensures ∙ ap (λ (v : List ℕ). sets c.loop-t.bytes (tasks_start + task_size * c.loop-t.t) v) c.task_row.ensures)
    (c.loop-t.invariant ks r)

pub returns : goal.returns
returns g c = λ ks r.
    let whole = sets c.put.new.out tasks_start (flat_map task_bytes ks) in
    let bytes = c.args.bytes.now in
    let rows = flat_map task_bytes ks in
    let all = tasks-end whole ks c.loop-t.bytes c.loop-t.t (omega (arith, r.count)) (c.loop-t.invariant ks r) in
    let first = c.put.ensures ∙ ap (λ (v : List ℕ). sets bytes 0 v) c.bytes.ensures in
    let one = put-behind bytes c.put.new.out c.loop-t.bytes (head_row c.args.head) rows 0 tasks_start first all
    (omega (arith, head-size c.args.head)) in
    let size : length (head_row c.args.head ++ rows) ≡ ceilings_start =
    length-append (head_row c.args.head) rows ∙ omega (arith, head-size c.args.head, tasks-length ks, r.count) in
    put-behind bytes c.loop-t.bytes c.put-2.new.out (head_row c.args.head ++ rows) c.args.ceilings.now 0 ceilings_start one
    c.put-2.ensures (omega (arith, size)) ∙
    ap (λ (v : List ℕ). sets bytes 0 v) (append_assoc (head_row c.args.head) rows c.args.ceilings.now)
