-- `moves::level` meets its contract.
use Rattle.std.proofs.Common.{sym, ◌∙◌}
use Rattle.moves.proofs.MoveLaws.{level-idle, level-busy}
use Rattle.moves.proofs.level.Goals as goal

pub active_inside-requires : goal.active_inside-requires
active_inside-requires c =
    let e = sym c.running.ensures ∙ c.in-Some.is in
    record { there = (c.requires.runner _ e).there; rises = c.requires.rises _ e }

pub returns-in-None : goal.returns-in-None
returns-in-None c = level-idle _ (sym c.running.ensures ∙ c.in-None.is)

pub returns-in-Some : goal.returns-in-Some
returns-in-Some c = level-busy _ _ _ (sym c.running.ensures ∙ c.in-Some.is) c.active_inside.ensures
