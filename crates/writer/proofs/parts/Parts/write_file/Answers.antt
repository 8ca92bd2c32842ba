-- `writer::parts::Parts::write_file` meets its contract.
use mathlib.Core.List.{[]}
use native.Mathlib.Omega.{arith}
use lib.ListN.{length-take, length-drop}
use Rattle.writer.proofs.WholeLaws.{known, small, fits, scripts-count, tasks-written, tasks-count, objects-written}
use Rattle.writer.proofs.WholeLaws.{objects-count, file-written}
use Rattle.writer.proofs.parts.Parts.write_file.Goals as goal

pub overflow_mul-objects : goal.overflow_mul-objects
overflow_mul-objects c =
    omega (arith, small _ c.args.out.now c.requires)

pub overflow_add-objects : goal.overflow_add-objects
overflow_add-objects c =
    omega (arith, small _ c.args.out.now c.requires)

pub overflow_mul-end : goal.overflow_mul-end
overflow_mul-end c =
    omega (arith, small _ c.args.out.now c.requires)

pub overflow_add-end : goal.overflow_add-end
overflow_add-end c =
    omega (arith, small _ c.args.out.now c.requires)

pub write_scripts-requires : goal.write_scripts-requires
write_scripts-requires c =
    omega (arith, fits _ c.args.out.now c.requires)

pub slice_bounds-write_tasks-count : goal.slice_bounds-write_tasks-count
slice_bounds-write_tasks-count c =
    let one = c.write_scripts.ensures in
    omega (arith, fits _ c.args.out.now c.requires, scripts-count _ _ c.requires _ [] one)

pub slice_bounds-write_tasks-start : goal.slice_bounds-write_tasks-start
slice_bounds-write_tasks-start c =
    let one = c.write_scripts.ensures in
    omega (arith, fits _ c.args.out.now c.requires, scripts-count _ _ c.requires _ [] one)

pub slice_bounds-write_tasks-end : goal.slice_bounds-write_tasks-end
slice_bounds-write_tasks-end c =
    let one = c.write_scripts.ensures in
    omega (arith, fits _ c.args.out.now c.requires, scripts-count _ _ c.requires _ [] one)

pub write_tasks-requires : goal.write_tasks-requires
write_tasks-requires c =
    let k = known _ c.args.out.now c.requires in
    let one = c.write_scripts.ensures in
    record {
      bases_len_bound = k.counts.tasks;
      lengths_len = k.each;
      bases_bound = omega (arith, k.whole, small _ c.args.out.now c.requires);
      bases_in_bounds =
          simp (length-take, length-drop) (omega (arith, fits _ c.args.out.now c.requires, scripts-count _ _ c.requires _ [] one));
    }

pub slice_bounds-write_objects-count : goal.slice_bounds-write_objects-count
slice_bounds-write_objects-count c =
    let two = tasks-written _ _ c.requires _ _ c.write_scripts.ensures c.write_tasks.ensures in
    omega (arith, fits _ c.args.out.now c.requires, tasks-count _ _ c.requires _ [] two)

pub slice_bounds-write_objects-start : goal.slice_bounds-write_objects-start
slice_bounds-write_objects-start c =
    let two = tasks-written _ _ c.requires _ _ c.write_scripts.ensures c.write_tasks.ensures in
    omega (arith, fits _ c.args.out.now c.requires, tasks-count _ _ c.requires _ [] two)

pub slice_bounds-write_objects-end : goal.slice_bounds-write_objects-end
slice_bounds-write_objects-end c =
    let two = tasks-written _ _ c.requires _ _ c.write_scripts.ensures c.write_tasks.ensures in
    omega (arith, fits _ c.args.out.now c.requires, tasks-count _ _ c.requires _ [] two)

pub write_objects-requires : goal.write_objects-requires
write_objects-requires c =
    let k = known _ c.args.out.now c.requires in
    let two = tasks-written _ _ c.requires _ _ c.write_scripts.ensures c.write_tasks.ensures in
    record {
      ceilings_len_bound = k.counts.objects;
      ceilings_in_bounds =
          simp (length-take, length-drop) (omega (arith, fits _ c.args.out.now c.requires, tasks-count _ _ c.requires _ [] two));
    }

pub overflow_cast-n : goal.overflow_cast-n
overflow_cast-n c =
    let k = known _ c.args.out.now c.requires in
    omega (arith, k.counts.tasks, k.counts.objects, small _ c.args.out.now c.requires)

pub overflow_cast-m : goal.overflow_cast-m
overflow_cast-m c =
    let k = known _ c.args.out.now c.requires in
    omega (arith, k.counts.tasks, k.counts.objects, small _ c.args.out.now c.requires)

pub overflow_cast-objects-2 : goal.overflow_cast-objects-2
overflow_cast-objects-2 c =
    let k = known _ c.args.out.now c.requires in
    omega (arith, k.counts.tasks, k.counts.objects, small _ c.args.out.now c.requires)

pub overflow_cast-table : goal.overflow_cast-table
overflow_cast-table c =
    let k = known _ c.args.out.now c.requires in
    omega (arith, k.counts.tasks, k.counts.objects, small _ c.args.out.now c.requires)

pub slice_bounds-write_trailer-count : goal.slice_bounds-write_trailer-count
slice_bounds-write_trailer-count c =
    let two = tasks-written _ _ c.requires _ _ c.write_scripts.ensures c.write_tasks.ensures in
    let three = objects-written _ _ c.requires _ _ two c.write_objects.ensures in
    omega (arith, fits _ c.args.out.now c.requires, objects-count _ _ c.requires _ [] three)

pub slice_bounds-write_trailer-start : goal.slice_bounds-write_trailer-start
slice_bounds-write_trailer-start c =
    let two = tasks-written _ _ c.requires _ _ c.write_scripts.ensures c.write_tasks.ensures in
    let three = objects-written _ _ c.requires _ _ two c.write_objects.ensures in
    omega (arith, fits _ c.args.out.now c.requires, objects-count _ _ c.requires _ [] three)

pub slice_bounds-write_trailer-end : goal.slice_bounds-write_trailer-end
slice_bounds-write_trailer-end c =
    let two = tasks-written _ _ c.requires _ _ c.write_scripts.ensures c.write_tasks.ensures in
    let three = objects-written _ _ c.requires _ _ two c.write_objects.ensures in
    omega (arith, fits _ c.args.out.now c.requires, objects-count _ _ c.requires _ [] three)

pub write_trailer-requires : goal.write_trailer-requires
write_trailer-requires c =
    let two = tasks-written _ _ c.requires _ _ c.write_scripts.ensures c.write_tasks.ensures in
    let three = objects-written _ _ c.requires _ _ two c.write_objects.ensures in
    simp (length-take, length-drop) (omega (arith, fits _ c.args.out.now c.requires, objects-count _ _ c.requires _ [] three))

pub returns : goal.returns
returns c =
    let two = tasks-written _ _ c.requires _ _ c.write_scripts.ensures c.write_tasks.ensures in
    let three = objects-written _ _ c.requires _ _ two c.write_objects.ensures in
    file-written _ _ c.requires _ _ three c.write_trailer.ensures
