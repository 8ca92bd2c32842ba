-- What the loop of `loading::load_ceilings` keeps.
use Rattle.std.proofs.Common.{◌≡◌}
use Rattle.rules.specs.Model.{with_ceilings}
use Rattle.loading.specs.Loading.{Each, CeilingFrom}
use Rattle.loading.proofs.load_ceilings.Given as goal

abbrev pub invariant-loop-o : goal.invariant-loop-o
invariant-loop-o g l = record {
  rest : l.memory ≡ with_ceilings l.fn.memory l.memory.ceilings;
  each : Each (CeilingFrom (goal.C-post g l.ceiling)) 0 l.o l.memory.ceilings;
}
