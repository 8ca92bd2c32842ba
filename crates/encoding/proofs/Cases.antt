-- The written rosters that are worked out, by computation.
use mathlib.Core.Path.{refl}
use Rattle.rules.specs.Lists
use Rattle.words.specs.Words
use Rattle.format.specs.Answers as Verdicts
use Rattle.format.specs.Steps
use Rattle.format.specs.Form
use Rattle.encoding.specs.File
use Rattle.encoding.specs.Answers
use Rattle.encoding.specs.Cases
use Rattle.encoding.specs.Cases.{WritingsAnswered, WholeWritten}

pub answered : WritingsAnswered
unfolding File.pieces File.steps_before File.script_at File.task_row_bytes File.object_row_bytes File.trailer_bytes File.file_of
    Answers.lengths_add_up Answers.lent_script_form Answers.lent_scripts_form Answers.parts_form Answers.file_form Answers.write_answer_of
    Verdicts.first Lists.all_of Lists.below Words.word_at Words.tabulate Steps.set_step Steps.step_of Steps.code_at Steps.a_at
    Steps.b_at Steps.step_at Form.is_step Form.unused_zero Form.names_listed Form.stands_right Form.step_good Form.step_form
    Form.steps_form Cases.cases
answered = refl

pub whole-written : WholeWritten
unfolding File.pieces File.steps_before File.script_at File.task_row_bytes File.object_row_bytes File.trailer_bytes File.file_of
    Answers.lengths_add_up Answers.lent_script_form Answers.lent_scripts_form Answers.parts_form Answers.file_form Answers.write_answer_of
    Answers.write_buffer_of Answers.written_of
    Verdicts.first Lists.all_of Lists.below Words.word_at Words.tabulate Steps.set_step Steps.step_of Steps.code_at Steps.a_at
    Steps.b_at Steps.step_at Form.is_step Form.unused_zero Form.names_listed Form.stands_right Form.step_good Form.step_form
    Form.steps_form
whole-written = record { file = refl; buffer = refl; part = refl; kept = refl; none = refl }
