-- What the loop of `roster::forms::scripts_form` keeps.
use Rattle.roster.proofs.TopLaws.{FormedTo}
use Rattle.roster.proofs.forms.scripts_form.Given as goal

abbrev pub invariant-loop-t : goal.invariant-loop-t
invariant-loop-t l = FormedTo l.s l.t l.tops
