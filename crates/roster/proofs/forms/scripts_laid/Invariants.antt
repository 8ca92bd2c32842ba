-- What the loop of `roster::forms::scripts_laid` keeps.
use Rattle.format.proofs.FormLaws.{LaidTo}
use Rattle.roster.proofs.forms.scripts_laid.Given as goal

abbrev pub invariant-loop-t : goal.invariant-loop-t
invariant-loop-t l = LaidTo l.s l.t l.end
