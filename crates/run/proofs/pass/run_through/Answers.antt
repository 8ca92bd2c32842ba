-- `run::pass::run_through` meets its contract.
use Rattle.std.proofs.Common.{ap, ◌∙◌}
use Rattle.std.proofs.lemmas.List.Edits.{sets}
use Rattle.format.proofs.FormedLaws.{tasks-few}
use Rattle.format.proofs.PassedLaws.{passes-form}
use Rattle.trace.specs.Inputs.{inputs_of}
use Rattle.trace.specs.Run.{replies_of}
use Rattle.turns.specs.Run.{Run, replies}
use Rattle.run.proofs.pass.run_through.Goals as goal

pub new-scripts-requires : goal.new-scripts-requires
new-scripts-requires c = tasks-few c.args.roster.now (passes-form c.args.roster.now c.requires.passes)

pub new-machine-requires : goal.new-machine-requires
new-machine-requires c = rw c.new-scripts.ensures c.requires.passes

pub returns : goal.returns
unfolding replies_of
returns c =
    let a = c.args in
    let machine = rw c.new-scripts.ensures at c.new-machine.ensures in
    c.pass.ensures ∙ ap (λ (p : Run). sets a.buffer.now 0 (replies p (inputs_of a.events.now))) machine
