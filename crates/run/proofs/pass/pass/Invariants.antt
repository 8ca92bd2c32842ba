-- What the loop of `run::pass::pass` keeps.
use Rattle.std.proofs.Common.{◌≡◌, ◌*◌, length, drop}
use Rattle.std.proofs.lemmas.List.Edits.{sets}
use Rattle.trace.specs.Limits.{reply_size}
use Rattle.trace.specs.Inputs.{inputs_of}
use Rattle.turns.specs.Run.{replies}
use Rattle.run.proofs.pass.pass.Given as goal

abbrev pub invariant-loop-i : goal.invariant-loop-i
invariant-loop-i l =
    (length l.buffer ≡ length l.initial.buffer) ×
    (sets l.initial.buffer 0 (replies l.initial.machine (inputs_of l.events)) ≡
    sets l.buffer (reply_size * l.i) (replies l.machine (drop l.i (inputs_of l.events))))
