-- `loading::load` meets its contract.
use Rattle.std.proofs.Common.{ℕ, List, sym, subst}
use Rattle.rules.specs.Model.{TaskRecord, blank}
use Rattle.rules.specs.Fresh.{new_tasks}
use Rattle.loading.specs.Loading.{Each, TaskFrom, CeilingFrom}
use Rattle.loading.proofs.LoadLaws.{told_fits, loaded-tasks, loaded-ceilings, loaded-numbers}
use Rattle.loading.proofs.load.Goals as goal

pub load_tasks-requires : goal.load_tasks-requires
unfolding new_tasks
load_tasks-requires g c =
    let fit = told_fits c.args.task_count c.args.object_count c.args.held.now c.args.queues.now c.requires.fits in
    record {
      none = rw (c.set_running.ensures, c.set_now.ensures, c.clear.ensures);
      room = fit.count;
      lengths = fit.held;
      rows = c.requires.held_rows;
      callable = c.requires.task_callable;
    }

pub load_ceilings-requires : goal.load_ceilings-requires
load_ceilings-requires g c =
    let fit = told_fits c.args.task_count c.args.object_count c.args.held.now c.args.queues.now c.requires.fits in
    record {
      none = rw (c.load_tasks.ensures.rest, c.set_running.ensures, c.set_now.ensures, c.clear.ensures);
      room = fit.objects;
      callable = c.requires.ceiling_callable;
    }

pub load_queues-requires : goal.load_queues-requires
load_queues-requires g c =
    let fit = told_fits c.args.task_count c.args.object_count c.args.held.now c.args.queues.now c.requires.fits in
    record {
      levels =
          rw (c.load_ceilings.ensures.rest, c.load_tasks.ensures.rest, c.set_running.ensures, c.set_now.ensures, c.clear.ensures);
      lengths = fit.queues;
      rows = c.requires.queue_rows;
    }

pub returns : goal.returns
returns g c =
    let tasks = c.load_tasks.ensures in
    let ceilings = c.load_ceilings.ensures in
    let new = c.clear.new.self in
    let now = c.set_now.ensures in
    let who = c.set_running.ensures in
    record {
      numbers = loaded-numbers new _ _ _ _ _ _ _ _ now who tasks.rest ceilings.rest c.load_queues.ensures;
      tasks =
          subst (λ (ks : List TaskRecord). Each (TaskFrom (goal.T-post g c.args.task) c.args.held.now) blank c.args.task_count ks)
          (sym (loaded-tasks new _ _ _ _ _ _ _ _ now who tasks.rest ceilings.rest c.load_queues.ensures))
          tasks.each;
      ceilings =
          subst (λ (cs : List ℕ). Each (CeilingFrom (goal.C-post g c.args.ceiling)) 0 c.args.object_count cs)
          (sym (loaded-ceilings new _ _ _ _ _ _ _ _ now who tasks.rest ceilings.rest c.load_queues.ensures))
          ceilings.each;
    }
