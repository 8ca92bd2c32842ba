-- What the loop of `writer::tables::write_objects` keeps.
use Rattle.writer.proofs.TableLaws.{ObjectsTo}
use Rattle.writer.proofs.tables.write_objects.Given as goal

abbrev pub invariant-loop-o : goal.invariant-loop-o
invariant-loop-o l = ObjectsTo l.ceilings l.initial.table l.o l.table
