-- What an event comes to in the engine, as the rules' answer and report.
use Rattle.std.specs.Prelude.{Ok, Err}
use Rattle.rules.specs.Answers.{Answer}
use Rattle.rules.specs.declared.Refusal.TheVariants as refusal
use Rattle.rules.specs.declared.Report.{Report}
use Rattle.rules.specs.declared.Report.TheVariants as report
use Rattle.memory.specs.declared.rulings.Ruling.{Ruling}
use Rattle.memory.specs.declared.rulings.Ruling.TheVariants.{Unchanged, Preempted, Changed, NoSuchTask, NoSuchObject, BadPriority}
use Rattle.memory.specs.declared.rulings.Ruling.TheVariants.{BadReading, NobodyRuns, EndedTask, InsideAction, AboveCeiling, NotInnermost}

-- accepted with a report, or refused: one of the nine answers of the table
abbrev pub answer_in : Ruling → Answer
answer_in Unchanged = Ok tt
answer_in Preempted = Ok tt
answer_in Changed = Ok tt
answer_in NoSuchTask = Err refusal.NoSuchTask
answer_in NoSuchObject = Err refusal.NoSuchObject
answer_in BadPriority = Err refusal.BadPriority
answer_in BadReading = Err refusal.BadReading
answer_in NobodyRuns = Err refusal.NobodyRuns
answer_in EndedTask = Err refusal.EndedTask
answer_in InsideAction = Err refusal.InsideAction
answer_in AboveCeiling = Err refusal.AboveCeiling
answer_in NotInnermost = Err refusal.NotInnermost

-- "A refused event reports 0."
abbrev pub report_in : Ruling → Report
report_in Unchanged = report.Unchanged
report_in Preempted = report.Preempted
report_in Changed = report.Changed
report_in NoSuchTask = report.Unchanged
report_in NoSuchObject = report.Unchanged
report_in BadPriority = report.Unchanged
report_in BadReading = report.Unchanged
report_in NobodyRuns = report.Unchanged
report_in EndedTask = report.Unchanged
report_in InsideAction = report.Unchanged
report_in AboveCeiling = report.Unchanged
report_in NotInnermost = report.Unchanged
