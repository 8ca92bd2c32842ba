-- `dispatch::store::store` meets its contract.
use Rattle.dispatch.specs.State.{encode}
use Rattle.dispatch.proofs.store.store.Goals as goal

pub returns : goal.returns
unfolding encode
returns c =
    rw (
      c.now.ensures,
      c.running.ensures,
      c.task_count-task_count.ensures.value,
      c.object_count-object_count.ensures.value,
      c.marks-marks.ensures.value,
      c.tasks.ensures,
      c.store_held.ensures,
      c.ceilings.ensures,
      c.store_queues.ensures,
    )
