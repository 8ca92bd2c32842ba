-- `moves::effects::take_effect` meets its contract.
use Rattle.std.proofs.Common.{◌≡◌, None, ap, sym, ◌∙◌, subst}
use Rattle.rules.specs.Model.{Model, TaskRecord, with_base, with_waiting, task_at, with_task, with_running}
use Rattle.rules.specs.Moves.{become_ready, stopped}
use Rattle.memory.specs.Memory.{waiting_in}
use Rattle.moves.specs.Room.{Arrives, settled}
use Rattle.moves.proofs.MoveLaws.{task-twice}
use Rattle.moves.proofs.effects.take_effect.Goals as goal
use Rattle.moves.proofs.effects.take_effect.Goals.{After-set_running}

has-settled : (c : After-set_running) → c.set_running.new.self ≡ settled c.args.memory.now c.args.t c.args.p.0
unfolding stopped waiting_in
has-settled c =
    let m = c.args.memory.now in
    let t = c.args.t in
    let wait = λ (k : TaskRecord). with_waiting k None in
    c.set_running.ensures ∙
    ap (λ (n : Model). with_running n None)
    (c.set_waiting.ensures ∙
    (ap (λ (n : Model). with_task n t (wait (task_at n t))) c.set_base.ensures ∙
    task-twice m t (with_base (task_at m t) c.args.p.0) wait c.requires.there))

pub become_ready-requires : goal.become_ready-requires
become_ready-requires c =
    subst (λ (n : Model). Arrives n c.args.t) (sym (has-settled (goal.at.become_ready-requires c).After-set_running)) c.requires.arrives

pub returns : goal.returns
returns c = c.become_ready.ensures ∙ ap (λ (n : Model). become_ready n c.args.t) (has-settled (goal.at.returns c).After-set_running)
