-- The test of a reading, made and taken apart: an accepted one is not below now, no leap, nor above the largest.
use mathlib.Core.Path.{◌≡◌, refl, sym, ◌∙◌}
use mathlib.Core.Bool.{true, false, ◌||◌}
use Prim.Native.Nat.{ℕ, ◌+◌, ◌≤◌, ◌<◌}
use borrow.Author.Tests.{lt-ltb, le-ltb}
use lib.Dec.{ltb}
use Rattle.rules.specs.Limits.{last_reading, longest_advance}
use Rattle.rules.specs.Events.{bad_reading}
use Rattle.rules.proofs.Choices.{compare, clash, or-first, or-second}

module _ (now r : ℕ) where
  pub reading-past : r < now → bad_reading now r ≡ true
  unfolding bad_reading
  reading-past h = rw (lt-ltb r now h) refl

  pub reading-leap : now + longest_advance < r → bad_reading now r ≡ true
  unfolding bad_reading
  reading-leap h =
      or-first (ltb r now || ltb (now + longest_advance) r) _ (or-second (ltb r now) _ (lt-ltb (now + longest_advance) r h))

  pub reading-far : last_reading < r → bad_reading now r ≡ true
  unfolding bad_reading
  reading-far h = or-second (ltb r now || ltb (now + longest_advance) r) _ (lt-ltb last_reading r h)

  pub reading-good : now ≤ r → r ≤ now + longest_advance → r ≤ last_reading → bad_reading now r ≡ false
  unfolding bad_reading
  reading-good h g k = rw (le-ltb r now h, le-ltb (now + longest_advance) r g) (le-ltb last_reading r k)

  module _ (e : bad_reading now r ≡ false) where
    pub reading-early : now ≤ r
    reading-early = compare now r (λ h. h) (λ h. clash (sym (reading-past h) ∙ e))

    pub reading-near : r ≤ now + longest_advance
    reading-near = compare r (now + longest_advance) (λ h. h) (λ h. clash (sym (reading-leap h) ∙ e))

    pub reading-low : r ≤ last_reading
    reading-low = compare r last_reading (λ h. h) (λ h. clash (sym (reading-far h) ∙ e))
