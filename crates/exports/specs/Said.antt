-- A priority that a caller says as a number of 64 bits.
use Rattle.std.specs.Prelude.{◌≡◌, cond, ℕ}
use Rattle.rules.specs.Priorities.{in_range}
use Rattle.rules.specs.declared.Priority.{Priority}

-- the priority of that value; 0, which is none, where the value is none
unfoldable pub said_priority : ℕ → Priority
said_priority n = cond (in_range n) (record { 0 = n }) (record { 0 = 0 })

-- so that 3, "priority outside 1 to 32", is answered exactly for the numbers outside
abbrev pub SaidInRange : Type 0
SaidInRange = (n : ℕ) → in_range (said_priority n).0 ≡ in_range n
