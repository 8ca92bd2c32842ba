-- What the loop of `board::source::stand_before` keeps: t does not stand before i.
use mathlib.Core.Path.{◌≡◌}
use Prim.Native.Nat.{◌+◌}
use lib.ListN.{drop}
use Rattle.dispatch.specs.Readers.{queue_of}
use Rattle.memory.specs.Rows.{place_in}
use Rattle.board.proofs.source.stand_before.Given as goal

abbrev pub invariant-loop-i : goal.invariant-loop-i
invariant-loop-i l = place_in l.t (queue_of l.state l.p) ≡ l.i + place_in l.t (drop l.i (queue_of l.state l.p))
