-- What the loop of `step_form::steps_form` keeps.
use Rattle.format.specs.Steps.{steps_of}
use Rattle.format.specs.Form.{step_form}
use Rattle.step_form.proofs.OwnLaws.{SoFar}
use Rattle.step_form.proofs.steps_form.Given as goal

abbrev pub invariant-loop-k : goal.invariant-loop-k
invariant-loop-k l = SoFar (step_form l.limits.tasks l.limits.objects l.t l.part) l.t l.initial.top.0 (steps_of l.part) l.k l.top.0
