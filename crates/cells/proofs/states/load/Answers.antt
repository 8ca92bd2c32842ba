-- `cells::states::load` meets its contract.
use mathlib.Core.Path.{◌≡◌, sym, subst, ◌∙◌}
use mathlib.Core.Bool.{true}
use borrow.Author.Rules.{rules}
use Rattle.loading.specs.Loading.{parts_fit}
use Rattle.cells.specs.declared.head.Head.{Head}
use Rattle.cells.specs.Decode.{head_from}
use Rattle.cells.proofs.ReadLaws.{head-there, task-there}
use Rattle.cells.proofs.StateLaws.{held_part, queues_part, parts_lent, tasks_loaded, ceilings_loaded, whole_loaded}
use Rattle.cells.proofs.states.load.Goals as goal

pub load-requires-clause-fits : goal.load-requires-clause-fits
unfolding head_from
load-requires-clause-fits c =
    let b = c.args.bytes.now in
    let head = c.read-head.ensures ∙ head-there _ _ c.bytes_in.ensures in
    subst (λ (h : Head). parts_fit h.task_count h.object_count (held_part b) (queues_part b) ≡ true) (sym head)
    (parts_lent b c.requires.loadable)

pub returns : goal.returns
unfolding head_from
returns c =
    let b = c.args.bytes.now in
    let ok = c.requires.loadable in
    let head = c.read-head.ensures ∙ head-there _ _ c.bytes_in.ensures in
    let e = c.load.ensures.tasks in
    let f = c.load.ensures.ceilings in
    let tasks =
    tasks_loaded b ok c.load.new.memory.tasks (rw head at e.count) (λ t h. let x = e.each t (rw head h) in search (rules, task-there)) in
    let ceilings =
    ceilings_loaded b ok c.load.new.memory.ceilings (rw head at f.count) (λ o h. let x = f.each o (rw head h) in search rules) in
    whole_loaded b ok _ _ head c.load.ensures.numbers tasks ceilings
