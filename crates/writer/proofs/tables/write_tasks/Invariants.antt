-- What the loop of `writer::tables::write_tasks` keeps.
use Rattle.writer.proofs.TableLaws.{TasksTo}
use Rattle.writer.proofs.tables.write_tasks.Given as goal

abbrev pub invariant-loop-t : goal.invariant-loop-t
invariant-loop-t l = TasksTo l.bases l.lengths l.initial.table l.t l.start l.table
