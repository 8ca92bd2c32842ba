-- `moves::become_ready` meets its contract.
use Rattle.std.proofs.Common.{◌≡◌, ℕ, [], ◌∷◌, ◌++◌, ap, sym, ◌∙◌, arith, rules}
use Rattle.rules.specs.Model.{with_place, task_at, with_task, queue, with_queue}
use Rattle.rules.specs.Moves.{become_ready}
use Rattle.rules.specs.declared.Place.TheVariants.{Ready}
use Rattle.moves.proofs.MoveLaws.{arrives-level}
use Rattle.moves.proofs.become_ready.Goals as goal

pub push_tail-requires : goal.push_tail-requires
push_tail-requires c =
    let a = c.requires.joins in
    let e = c.base-p.ensures ∙ sym (arrives-level c.args.memory.now c.args.t c.requires) in
    record { level = record { low = omega (arith, a.level.low); high = omega (arith, a.level.high) }; room = rw e a.room }

pub returns : goal.returns
unfolding become_ready
returns c =
    let m = c.args.memory.now in
    let t = c.args.t in
    let e = c.base-p.ensures ∙ sym (arrives-level m t c.requires) in
    let ready = λ (p : ℕ). with_task (with_queue m p (queue m p ++ (t ∷ []))) t (with_place (task_at m t) Ready) in
    let done : c.set_place.new.self ≡ ready c.base-p.result.0 = search rules in
    done ∙ ap ready e
