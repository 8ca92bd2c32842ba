-- `dispatch::State::loaded` meets its contract.
use Rattle.std.proofs.Common.{Some, ◌∙◌, sym, ap}
use Rattle.rules.specs.Model.{Model}
use Rattle.dispatch.proofs.MethodLaws.{unfit, tested, loaded-none, loaded-some}
use Rattle.dispatch.proofs.State.loaded.Goals as goal

pub returns-then-not-fits : goal.returns-then-not-fits
returns-then-not-fits c = loaded-none c.args.self.now (sym (unfit c.args.self.now (sym c.fits.ensures ∙ c.if-not-fits.true)))

pub returns-then-sound : goal.returns-then-sound
returns-then-sound c =
    let s = c.args.self.now in
    let fit = sym c.fits.ensures ∙ c.if-not-fits.false in
    let good = sym (tested s c.load-memory.result _ fit c.load-memory.ensures c.sound.ensures) ∙ c.if-sound.true in
    ap (λ (m : Model). Some m) c.load-memory.ensures ∙ loaded-some s good

pub returns-else-sound : goal.returns-else-sound
returns-else-sound c =
    let s = c.args.self.now in
    let fit = sym c.fits.ensures ∙ c.if-not-fits.false in
    loaded-none s (sym (tested s c.load-memory.result _ fit c.load-memory.ensures c.sound.ensures) ∙ c.if-sound.false)
