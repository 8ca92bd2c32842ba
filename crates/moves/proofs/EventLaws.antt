-- What an event has done, and that nobody is due before the bound.
use mathlib.Core.Path.{◌≡◌, refl, ap, ◌∙◌, sym}
use mathlib.Core.Bool.{true, false}
use Prim.Native.Nat.{ℕ, ◌<◌}
use native.Mathlib.Omega.{arith}
use lib.ListN.{length}
use Rattle.std.specs.Prelude.{Some}
use Rattle.rules.specs.Model.{Model, with_now, task_at}
use Rattle.rules.specs.Moves.{dispatch}
use Rattle.rules.specs.Moved.{Moved, accepted}
use Rattle.rules.specs.Events.{take_hold, Due, rest, permit_on, release_from, nobody, task, first_due, take_reading}
use Rattle.rules.specs.declared.Place.{Place}
use Rattle.rules.specs.declared.Place.TheVariants.{Running, Ready, Delayed, Suspended, Ended}
use Rattle.memory.specs.Memory.{Bounds, Did}
use Rattle.memory.specs.declared.rulings.Ruling.TheVariants as ruling
use Rattle.rules.proofs.Choices.{clash}
use Rattle.rules.proofs.EventLaws.{rest-permit}
use Rattle.rules.proofs.Pending.{Good}
use Rattle.rules.proofs.ReportLaws.{same-report}
use Rattle.rules.proofs.WakingLaws.{Finds, finds}
use Rattle.moves.proofs.WakingList.{none_moves}
use Rattle.rules.proofs.StillLaws.{still, still-enter, still-now, still-permit}
use Rattle.moves.specs.Room.{is_suspended}

-- n is the Model m but for what no dispatch looks at, so that no dispatch is needed
pub record Quiet (m n : Model) : Type 0 where
  pub still : dispatch n ≡ n
  pub runner : n.running ≡ m.running

pub did-quiet : {r : Moved} {m n : Model} → Quiet m n → r ≡ accepted m.running n → Did n ruling.Unchanged r
unfolding accepted
did-quiet {m = m} {n = n} q e =
    record {
      same = sym q.still ∙ sym (ap (λ (y : Moved). y.model) e);
      answer = sym (ap (λ (y : Moved). y.answer) e);
      report =
          sym ((same-report m.running n.running (dispatch n).running).1
          (ap (λ (v : Model). v.running) q.still ∙ q.runner)) ∙
          sym (ap (λ (y : Moved). y.report) e);
    }

-- Release
pub release-permit : (m : Model) (t : ℕ) (x : Place) → is_suspended x ≡ false → release_from m t x ≡ permit_on m t
unfolding release_from is_suspended
release-permit m t Running f = refl
release-permit m t Ready f = refl
release-permit m t (Delayed d) f = refl
release-permit m t Suspended f = clash f
release-permit m t Ended f = refl

-- nobody is due before the bound
pub nobody-due : (r v : ℕ) (m : Model) → Bounds v m → r < v → first_due r nobody 0 m.tasks ≡ nobody
nobody-due r v m b h = go (first_due r nobody 0 m.tasks) (finds r 0 m.tasks)
  where
    go : (f : Due) → Finds r 0 m.tasks f → f ≡ nobody
    go nobody s = refl
    go (task t d) s = absurd (omega (arith, s.come, b.each s.at d s.place))

-- nobody is due: nobody wakes, and the reading alone moves nobody
pub quiet-clock : (m : Model) (r : ℕ) → Good false m → first_due r nobody 0 m.tasks ≡ nobody → Quiet m (take_reading m r)
quiet-clock m r h e =
    let w : take_reading m r ≡ with_now m r = none_moves r (length m.tasks) (with_now m r) e in
    record { still = ap dispatch w ∙ still-now m r h ∙ sym w; runner = ap (λ (v : Model). v.running) w }

-- a Release of a task that is not suspended, and a Suspend with a permit
pub quiet-release : (m : Model) (t : ℕ) (x : Place) → Good false m → is_suspended x ≡ false → Quiet m (release_from m t x)
quiet-release m t x h e =
    let p = release-permit m t x e in
    record { still = ap dispatch p ∙ still-permit m t true h ∙ sym p; runner = ap (λ (v : Model). v.running) p }

pub quiet-rest : (m : Model) (t : ℕ) → Good false m → (task_at m t).permit ≡ true → Quiet m (rest m t)
quiet-rest m t h e =
    let p = rest-permit m t e in
    record { still = ap dispatch p ∙ still-permit m t false h ∙ sym p; runner = ap (λ (v : Model). v.running) p }

-- an Enter, and Work
pub quiet-enter : (m : Model) (o t : ℕ) → Good false m → m.running ≡ Some t → Quiet m (take_hold m o t)
quiet-enter m o t h e = record { still = still-enter m t h e o; runner = refl }

pub quiet-work : (m : Model) (t : ℕ) → Good false m → m.running ≡ Some t → Quiet m m
quiet-work m t h e = record { still = still m t h e; runner = refl }
