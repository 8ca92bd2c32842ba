-- `dispatch::load::load` meets its contract.
use Rattle.std.proofs.Common.{◌<◌, arith, rules}
use Rattle.dispatch.specs.Sound.{sizes_fit}
use Rattle.dispatch.proofs.Known.{Shaped}
use Rattle.dispatch.proofs.LoadLaws.{fitting, state-loaded}
use Rattle.dispatch.proofs.load.load.Goals as goal

pub load-requires-clause-fits : goal.load-requires-clause-fits
unfolding sizes_fit
load-requires-clause-fits c = c.requires

pub load-requires-clause-task_callable : goal.load-requires-clause-task_callable
load-requires-clause-task_callable c = λ t h.
    let low : t < 64 = omega (arith, (fitting c.args.state.now c.requires).count) in
    search rules

pub load-requires-clause-ceiling_callable : goal.load-requires-clause-ceiling_callable
load-requires-clause-ceiling_callable c = λ o h.
    let low : o < 32 = omega (arith, (fitting c.args.state.now c.requires).objects) in
    search rules

pub returns : goal.returns
returns c =
    let s = c.args.state.now in
    let shape : Shaped s = record { tasks = search rules; held = search rules; ceilings = search rules; queues = search rules } in
    state-loaded s shape (fitting s c.requires) c.load.new.memory _ _ c.load.ensures.numbers c.load.ensures.tasks c.load.ensures.ceilings
    (λ t k h p. search rules) (λ o p h q. search rules)
