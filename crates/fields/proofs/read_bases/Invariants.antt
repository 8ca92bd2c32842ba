-- What the loop of `fields::read_bases` keeps.
use Rattle.std.proofs.Common.{◌≡◌, length, take}
use Rattle.format.specs.Roster.{roster_of}
use Rattle.fields.proofs.read_bases.Given as goal

abbrev pub invariant-loop-t : goal.invariant-loop-t
invariant-loop-t l =
    record { room : length l.bases ≡ length l.initial.bases; read : take l.t l.bases ≡ take l.t (roster_of l.s).bases }
