-- `dispatch::store::tasks` meets its contract.
use Rattle.std.proofs.Common.{map, sym, ◌∙◌, rules, arith}
use Rattle.std.proofs.Math.ListN.{length-map}
use Rattle.rules.specs.Limits.{task_limit}
use Rattle.rules.specs.Model.{task_at}
use Rattle.memory.specs.Memory.{task_for, blank_task}
use Rattle.words.proofs.FromFn.{made_as}
use Rattle.loading.specs.Loading.{padded}
use Rattle.loading.proofs.PaddedLaws.{padded-length}
use Rattle.dispatch.proofs.EncodeLaws.{tasks-at}
use Rattle.dispatch.proofs.LoadLaws.{same_at}
use Rattle.dispatch.proofs.store.tasks.Goals as goal

pub returns : goal.returns
returns c =
    let m = c.args.memory.now in
    let made = c.from_fn.ensures.items in
    let size = padded-length task_limit (map task_for m.tasks) blank_task (omega (arith, length-map m.tasks task_for, c.requires)) in
    same_at blank_task _ (padded task_limit (map task_for m.tasks) blank_task) (made.long ∙ sym size) (λ t h.
    made_as blank_task (λ t. task_for (task_at m t)) made (λ x y q k. search rules) t (omega (arith, made.long)) ∙ sym (tasks-at m t))
