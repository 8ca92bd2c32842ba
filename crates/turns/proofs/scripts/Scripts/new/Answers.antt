-- `turns::scripts::Scripts::new` meets its contract.
use Rattle.std.proofs.Common.{arith, rules}
use Rattle.turns.specs.ScriptsView.{part_of, no_part}
use Rattle.turns.proofs.ScriptLaws.{found-more}
use Rattle.turns.proofs.scripts.Scripts.new.Goals as goal

pub loop-t-preserved : goal.loop-t-preserved
loop-t-preserved c = (
  search rules,
  found-more (part_of c.args.roster.now) no_part c.loop-t.parts c.loop-t.t _ (omega arith) (search rules) c.loop-t.invariant.1,
)

pub invariant_of-result : goal.invariant_of-result
invariant_of-result c =
    record {
      room = c.loop-t.invariant.0;
      few = c.requires;
      each = λ t h. c.loop-t.invariant.1 t (omega (arith, c.task_count-t-end.ensures));
    }
