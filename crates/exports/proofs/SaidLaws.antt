-- Laws of a priority that a caller says, by what the checked constructor finds.
use mathlib.Core.Path.{◌≡◌, refl}
use mathlib.Core.Bool.{Bool, true, false, cond}
use Prim.Native.Nat.{ℕ}
use Rattle.std.specs.Prelude.{None, Some, unwrap_or}
use Rattle.rules.specs.Priorities.{in_range, checked_of}
use Rattle.rules.specs.declared.Priority.{Priority}
use Rattle.exports.specs.Said.{said_priority, SaidInRange}

pub said-checked : (n : ℕ) → unwrap_or (checked_of n) (record { 0 = 0 }) ≡ said_priority n
unfolding said_priority
said-checked n = go (in_range n)
  where
    go : (b : Bool) →
        unwrap_or (cond b (Some (record { 0 = n })) None) (record { 0 = 0 }) ≡ cond {A = Priority} b (record { 0 = n }) (record { 0 = 0 })
    go true = refl
    go false = refl

pub said-in-range : SaidInRange
unfolding said_priority
said-in-range n = go (in_range n) refl
  where
    go : (b : Bool) → in_range n ≡ b → in_range (cond {A = Priority} b (record { 0 = n }) (record { 0 = 0 })).0 ≡ b
    go true e = e
    go false e = refl
