-- The worked rosters, by computation.
use mathlib.Core.Path.{◌≡◌, refl}
use mathlib.Core.Bool.{Bool, true, false, ◌&&◌}
use borrow.Author.Tests.{lt-leb}
use lib.Dec.{leb}
use lib.ListN.{length}
use Rattle.rules.specs.Model
use Rattle.rules.specs.Lists
use Rattle.words.specs.Words
use Rattle.format.specs.Answers
use Rattle.format.specs.Format
use Rattle.format.specs.Steps
use Rattle.format.specs.Roster
use Rattle.format.specs.Form
use Rattle.format.specs.Readers
use Rattle.format.specs.Check
use Rattle.format.specs.Cases
use Rattle.format.specs.Cases.{Judged, Looked, Read, LongRosterRefused}

and_none : (a : Bool) → (a && false) ≡ false
and_none true = refl
and_none false = refl

-- all of them
worked : Judged × Looked × Read × LongRosterRefused
unfolding Model.highest_of Lists.times_in Lists.without Lists.all_of Lists.below Words.word_at Words.number_at Words.tabulate Answers.first
    Format.trailer Format.task_count Format.object_count Format.object_table Format.task_table Format.task_row Format.base_at
    Format.start_at
    Format.length_at Format.object_row Format.ceiling_at Format.part_at Steps.set_step Steps.step_of Steps.code_at Steps.a_at Steps.b_at
    Steps.step_at Steps.steps_of Roster.roster_of Form.length_good Form.mark_good Form.counts_kept Form.tables_good Form.scripts_end
    Form.laid_from
    Form.script_laid Form.scripts_laid Form.layout_good Form.task_row_good Form.object_row_good Form.values_good Form.is_step
    Form.unused_zero
    Form.names_listed
    Form.stands_right Form.step_good Form.step_form Form.steps_form Form.script_form Form.scripts_form Form.form_of Form.script_answer
    Form.script_part Check.held_after Check.held_before Check.own_set Check.top_of Check.while_held Check.low_ceiling Check.not_innermost
    Check.other_task Check.fault_of Check.fault_in Check.steps_fault Check.top_at Check.script_fault Check.roster_fault Check.check_of
    Cases.cases Cases.lookups Readers.object_answer Readers.base_found Readers.ceiling_found Readers.count_found Readers.step_found
worked = (
  refl,
  refl,
  record {
    base = refl;
    no_task = refl;
    no_form = refl;
    ceiling = refl;
    second_ceiling = refl;
    no_object = refl;
    form_first = refl;
    count = refl;
    count_of_none = refl;
    step = refl;
    at_the_end = refl;
    step_of_none = refl;
  },
  λ s h. simp (lt-leb (length s) 60000 h, and_none (leb 14 (length s))),
)

pub judged : Judged
judged = worked.0

pub looked : Looked
looked = worked.1

pub read : Read
read = worked.2

pub long-roster-refused : LongRosterRefused
long-roster-refused = worked.3
