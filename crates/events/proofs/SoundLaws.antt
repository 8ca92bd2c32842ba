-- What a sound Model gives an event: what its dispatch needs, and that the Model after it is sound.
use Rattle.std.proofs.Common.{◌≡◌, true, false, ℕ, ◌<◌, Option, Some, length, ap, sym, ◌∙◌, subst}
use Rattle.rules.specs.Model.{Model}
use Rattle.rules.specs.Events.{apply}
use Rattle.rules.specs.Moved.{Moved, accepted}
use Rattle.rules.specs.Sound.{sound}
use Rattle.rules.specs.Histories.{delay_fits}
use Rattle.rules.specs.declared.Event.{Event}
use Rattle.rules.proofs.Pending.{Pending, t-in, t-fair}
use Rattle.rules.proofs.Soundness.{sound-good, sound-kept}
use Rattle.memory.specs.Memory.{Rises, Did}
use Rattle.memory.specs.declared.rulings.Ruling.{Ruling}
use Rattle.memory.specs.declared.rulings.Ruling.TheVariants.{Unchanged}
use Rattle.moves.specs.Room.{Dispatches}
use Rattle.moves.proofs.RoomLaws.{core-dispatches}
use Rattle.moves.proofs.EventLaws.{Quiet, did-quiet}

-- a dispatch of a Model that keeps what the rules promise up to a dispatch
pub dispatchable : (n : Model) → Pending false n → Dispatches n
dispatchable n p = core-dispatches n p.core (λ t g. (p.fair t g).rises)

-- after an event of a sound Model
pub kept-by : {n : Model} {x : Ruling} (m : Model) (e : Event) → sound m ≡ true → delay_fits e ≡ true → Did n x (apply m e) → sound n ≡ true
kept-by m e s f d = ap sound d.same ∙ sound-kept m e f s

-- who runs in a sound Model is a task, and the ceilings of what it holds do not fall
module _ (m : Model) (s : sound m ≡ true) (t : ℕ) (e : m.running ≡ Some t) where
  pub runner-there : t < length m.tasks
  runner-there = t-in m t (sound-good m s) e

  pub runner-rises : Rises m t
  runner-rises = (t-fair m t (sound-good m s) e).rises

-- accepted: the dispatch was of the Model b, the report by who ran first; or none was needed
pub did-by : {n a b : Model} {x : Ruling} {v w : Option ℕ} {r : Moved} → Did n x (accepted v a) → v ≡ w → a ≡ b → r ≡ accepted w b →
    Did n x r
did-by {n = n} {a = a} {b = b} {x = x} {v = v} d e f g =
    subst (Did n x) (ap (accepted v) f ∙ ap (λ (u : Option ℕ). accepted u b) e ∙ sym g) d

pub did-still : {m n b : Model} {r : Moved} → Quiet m b → n ≡ b → r ≡ accepted m.running b → Did n Unchanged r
did-still {r = r} q e f = subst (λ (u : Model). Did u Unchanged r) (sym e) (did-quiet q f)
