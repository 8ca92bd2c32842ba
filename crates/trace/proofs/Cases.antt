-- The worked runs, by computation.
use mathlib.Core.Path.{◌≡◌, refl, sym}
use mathlib.Core.Bool.{Bool, true, false, ◌&&◌}
use Prim.Native.Nat.{◌%◌}
use borrow.Author.Tests.{lt-leb}
use lib.Dec.{eqb, leb}
use lib.ListN.{length}
use Rattle.format.proofs.TestLaws.{and_no}
use Rattle.rules.specs.Lists
use Rattle.rules.specs.Model
use Rattle.rules.specs.Moves
use Rattle.rules.specs.Moved
use Rattle.rules.specs.Fresh
use Rattle.rules.specs.Events
use Rattle.words.specs.Words
use Rattle.format.specs.Answers as FormAnswers
use Rattle.format.specs.Format
use Rattle.format.specs.Steps
use Rattle.format.specs.Roster
use Rattle.format.specs.Form
use Rattle.format.specs.Check
use Rattle.trace.specs.Config
use Rattle.trace.specs.Inputs
use Rattle.trace.specs.Run
use Rattle.trace.specs.Cases
use Rattle.trace.specs.Cases.{Traced, LongEventsRefused}

pub traced : Traced
unfolding Lists.times_in Lists.without Lists.all_of Lists.below Model.highest_of Moves.become_ready Moves.stopped Moves.preempt Moves.start
    Moves.highest_to Moves.highest Moves.dispatch_by Moves.dispatch Moved.is_nobody Moved.same_runner Moved.report_by Moved.accepted
    Moved.refuse_if_nobody Fresh.new_tasks Fresh.join_from Fresh.fresh_model Fresh.refused_fresh Fresh.fresh Events.enter Events.settle_with
    Events.settle Events.leave Events.put_off Events.delay Events.rest Events.suspend Events.release_from Events.release Events.due_at
    Events.earlier Events.first_due Events.wake Events.wake_up Events.bad_reading Events.clock Events.requeue Events.rebase Events.is_ended
    Events.set_base Events.work Events.finish Events.apply Words.word_at Words.number_at Words.tabulate FormAnswers.first Format.trailer
    Format.task_count Format.object_count Format.object_table Format.task_table Format.task_row Format.base_at Format.start_at
    Format.length_at
    Format.object_row Format.ceiling_at Format.part_at Steps.set_step Steps.step_of Steps.code_at Steps.a_at Steps.b_at Steps.step_at
    Steps.steps_of
    Roster.roster_of Form.length_good Form.mark_good Form.counts_kept Form.tables_good Form.scripts_end Form.laid_from Form.script_laid
    Form.scripts_laid Form.layout_good Form.task_row_good Form.object_row_good Form.values_good Form.is_step Form.unused_zero
    Form.names_listed
    Form.stands_right Form.step_good Form.step_form Form.steps_form Form.script_form Form.scripts_form Form.form_of Form.script_answer
    Form.script_part Check.held_after Check.held_before Check.own_set Check.top_of Check.while_held Check.low_ceiling Check.not_innermost
    Check.other_task Check.fault_of Check.fault_in Check.steps_fault Check.top_at Check.script_fault Check.roster_fault Check.check_of
    Config.start_of Config.event_of Config.answer_to Config.perform Config.position_after Config.advance Config.step_by Config.outside
    Config.happen Inputs.decode Inputs.value_at Inputs.decoded_at Inputs.event_good Inputs.events_good Inputs.input_at Inputs.inputs_of
    Run.answer_of Run.running_byte Run.reply_of Run.replies_from Run.replies_of Run.buffer_of Cases.cases
traced = refl

pub long-events-refused : LongEventsRefused
unfolding Inputs.events_good
long-events-refused events h =
    sym (and_no _ _ (and_none (eqb (length events % 8) 0) (leb (length events) 32768) (lt-leb (length events) 32768 h)))
  where
    and_none : (a b : Bool) → b ≡ false → (a && b) ≡ false
    and_none true b e = e
    and_none false b e = refl
