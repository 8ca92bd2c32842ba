-- `moves::effects::rebase` meets its contract.
use Rattle.std.proofs.Common.{sym, ◌∙◌, rules}
use Rattle.rules.specs.Events.{rebase}
use Rattle.rules.proofs.Choices.{cond-false}
use Rattle.memory.specs.Memory.{waiting_in}
use Rattle.moves.proofs.MoveLaws.{outside-level}
use Rattle.moves.proofs.effects.rebase.Goals as goal

pub requeue-requires : goal.requeue-requires
requeue-requires c =
    let e = c.base-stood.ensures ∙ sym (outside-level c.args.memory.now c.args.t (sym c.inside.ensures ∙ c.if-inside.false)) in
    rw (c.set_base.ensures, e, c.place-place.ensures) (c.requires.outside (sym c.inside.ensures ∙ c.if-inside.false))

pub returns-then-inside : goal.returns-then-inside
unfolding rebase waiting_in
returns-then-inside c = search rules

pub returns-else-inside : goal.returns-else-inside
unfolding rebase
returns-else-inside c =
    let m = c.args.memory.now in
    let out = sym c.inside.ensures ∙ c.if-inside.false in
    let e = c.base-stood.ensures ∙ sym (outside-level m c.args.t out) in
    rw (c.set_base.ensures, e, c.place-place.ensures) at c.requeue.ensures ∙ sym (cond-false _ _ _ out)
