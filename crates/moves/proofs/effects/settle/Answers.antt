-- `moves::effects::settle` meets its contract.
use Rattle.std.proofs.Common.{◌≡◌, None, rules, ap, sym, ◌∙◌}
use Rattle.memory.specs.Memory.{waiting_in}
use Rattle.rules.proofs.EventLaws.{settle-inside, settle-none, settle-due}
use Rattle.moves.proofs.effects.settle.Goals as goal
use Rattle.moves.proofs.effects.settle.Goals.{else-not-inside-via-else-not-inside, else-not-inside-via-then-not-inside+in-None-1}

pub take_effect-requires-clause-arrives : goal.take_effect-requires-clause-arrives
unfolding waiting_in
take_effect-requires-clause-arrives c =
    c.requires.due _ (sym c.inside.ensures ∙ c.if-not-inside.true) (sym c.waiting.ensures ∙ ap waiting_in c.in-Some.is)

pub returns-in-Some : goal.returns-in-Some
unfolding waiting_in
returns-in-Some c =
    c.take_effect.ensures ∙
    sym (settle-due _ _ _ (sym c.inside.ensures ∙ c.if-not-inside.true) (sym c.waiting.ensures ∙ ap waiting_in c.in-Some.is))

pub returns-else-not-inside : goal.returns-else-not-inside
unfolding waiting_in
returns-else-not-inside c =
    elim c.else-not-inside.branch [
      | else-not-inside-via-else-not-inside w ↦ sym (settle-inside _ _ (sym c.inside.ensures ∙ w.if-not-inside.false))
      | else-not-inside-via-then-not-inside+in-None-1 w ↦
          let none : w.waiting.result ≡ None = search rules in
          sym (settle-none _ _ (sym c.inside.ensures ∙ w.if-not-inside.true) (sym w.waiting.ensures ∙ ap waiting_in none))
    ]
