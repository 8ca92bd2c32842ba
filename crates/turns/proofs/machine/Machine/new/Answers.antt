-- `turns::machine::Machine::new` meets its contract.
use Rattle.std.proofs.Common.{◌≡◌, take, arith}
use Rattle.format.specs.Roster.{roster_of}
use Rattle.format.proofs.FormatLaws.{base-count, ceiling-count}
use Rattle.format.proofs.FormedLaws.{tasks-few, objects-few}
use Rattle.format.proofs.PassedLaws.{passes-form, passes-starts}
use Rattle.turns.proofs.StartLaws.{start-goes, start_is}
use Rattle.turns.proofs.machine.Machine.new.Goals.{After-object_count-objects}
use Rattle.turns.proofs.machine.Machine.new.Goals as goal

pub read_bases-requires : goal.read_bases-requires
read_bases-requires c =
    let s = c.roster-roster.result.now in
    tasks-few s (passes-form s (rw (← c.roster-roster.ensures) at c.requires))

pub read_ceilings-requires : goal.read_ceilings-requires
read_ceilings-requires c =
    let s = c.roster-roster.result.now in
    objects-few s (passes-form s (rw (← c.roster-roster.ensures) at c.requires))

-- what the two arrays have in front
given-bases : (c : After-object_count-objects) →
    take c.task_count-tasks.result c.read_bases.new.bases ≡ (roster_of c.roster-roster.result.now).bases
given-bases c = rw c.task_count-tasks.ensures c.read_bases.ensures

given-ceilings : (c : After-object_count-objects) →
    take c.object_count-objects.result c.read_ceilings.new.ceilings ≡ (roster_of c.roster-roster.result.now).ceilings
given-ceilings c = rw c.object_count-objects.ensures c.read_ceilings.ensures

pub slice_bounds-bases-end : goal.slice_bounds-bases-end
slice_bounds-bases-end c =
    let s = c.roster-roster.result.now in
    omega (
      arith,
      c.read_bases.auto.bases,
      c.task_count-tasks.ensures,
      tasks-few s (passes-form s (rw (← c.roster-roster.ensures) at c.requires)),
    )

pub slice_bounds-fresh-end : goal.slice_bounds-fresh-end
slice_bounds-fresh-end c =
    rw (given-bases (goal.at.slice_bounds-fresh-end c).After-object_count-objects)
    (omega (arith, c.task_count-tasks.ensures, base-count c.roster-roster.result.now))

pub slice_bounds-ceilings-end : goal.slice_bounds-ceilings-end
slice_bounds-ceilings-end c =
    let s = c.roster-roster.result.now in
    omega (
      arith,
      c.read_ceilings.auto.ceilings,
      c.object_count-objects.ensures,
      objects-few s (passes-form s (rw (← c.roster-roster.ensures) at c.requires)),
    )

pub slice_bounds-fresh-end-2 : goal.slice_bounds-fresh-end-2
slice_bounds-fresh-end-2 c =
    rw (given-ceilings (goal.at.slice_bounds-fresh-end-2 c).After-object_count-objects)
    (omega (arith, c.object_count-objects.ensures, ceiling-count c.roster-roster.result.now))

pub fresh-requires : goal.fresh-requires
fresh-requires c =
    let d = (goal.at.fresh-requires c).After-object_count-objects in
    record {
      startable =
          rw (given-bases d, given-ceilings d)
          (passes-starts c.roster-roster.result.now (rw (← c.roster-roster.ensures) at c.requires));
    }

pub invariant_of-result : goal.invariant_of-result
invariant_of-result c =
    let d = (goal.at.invariant_of-result c).After-object_count-objects in
    let fresh = rw (given-bases d, given-ceilings d, c.roster-roster.ensures) at c.fresh.ensures in
    start-goes c.args.scripts.now c.requires _ fresh

pub returns : goal.returns
returns c =
    let d = (goal.at.returns c).After-object_count-objects in
    let fresh = rw (given-bases d, given-ceilings d, c.roster-roster.ensures) at c.fresh.ensures in
    start_is c.args.scripts.now c.requires _ fresh
