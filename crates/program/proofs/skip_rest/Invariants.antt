-- Each turn skips some of the bytes that are left to skip. The last may skip past LONGEST_REST, by one read less a byte.
use Rattle.std.proofs.Common.{◌-◌, ◌≤◌}
use Rattle.program.proofs.skip_rest.Given as goal

abbrev pub invariant-loop-skipped : goal.invariant-loop-skipped
invariant-loop-skipped g l = l.skipped ≤ 1073807360

abbrev pub decreases-loop-skipped : goal.decreases-loop-skipped
decreases-loop-skipped g l = 1073807360 - l.skipped
