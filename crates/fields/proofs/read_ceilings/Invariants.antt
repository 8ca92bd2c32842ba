-- What the loop of `fields::read_ceilings` keeps.
use Rattle.std.proofs.Common.{◌≡◌, length, take}
use Rattle.format.specs.Roster.{roster_of}
use Rattle.fields.proofs.read_ceilings.Given as goal

abbrev pub invariant-loop-o : goal.invariant-loop-o
invariant-loop-o l =
    record { room : length l.ceilings ≡ length l.initial.ceilings; read : take l.o l.ceilings ≡ take l.o (roster_of l.s).ceilings }
