-- What the loop of `memory::objects::highest_of` keeps.
use Rattle.std.proofs.Common.{◌≡◌, drop, map}
use Rattle.rules.specs.Priorities.{level}
use Rattle.rules.specs.Model.{highest_of}
use Rattle.memory.proofs.objects.highest_of.Given as goal

-- the objects so far are in a
abbrev pub invariant-loop-o : goal.invariant-loop-o
invariant-loop-o l =
    highest_of (map level l.ceilings) l.fn.p.0 l.held ≡ highest_of (map level l.ceilings) l.a.0 (drop l.o-index l.held)
