-- What the loop of `turns::scripts::Scripts::new` keeps.
use Rattle.std.proofs.Common.{◌≡◌, ℕ, ◌<◌, length, get_or}
use Rattle.turns.specs.ScriptsView.{part_of, no_part}
use Rattle.turns.proofs.scripts.Scripts.new.Given as goal

abbrev pub invariant-loop-t : goal.invariant-loop-t
invariant-loop-t l = (length l.parts ≡ 64) × ((k : ℕ) → k < l.t → get_or l.parts k no_part ≡ part_of l.roster k)
