-- The worked pairs: one meets every premise, and each premise is needed. By computation from the bytes.
use mathlib.Core.Path.{◌≡◌, refl}
use mathlib.Core.Bool.{true}
use mathlib.Core.List.{List, [], ◌∷◌}
use Prim.Native.Nat.{ℕ, zero, suc, ◌<◌}
use native.Mathlib.Omega.{arith}
use borrow.Author.Tests.{ltb-true}
use lib.Dec.{ltb}
use lib.ListN.{get_or}
use Rattle.rules.specs.Lists
use Rattle.rules.specs.Lists.{all_of}
use Rattle.rules.specs.Model
use Rattle.rules.specs.Moves
use Rattle.rules.specs.Moved
use Rattle.rules.specs.Fresh
use Rattle.rules.specs.Events
use Rattle.rules.proofs.Choices.{and_left, and_right}
use Rattle.words.specs.Words
use Rattle.words.specs.Words.{Bytes}
use Rattle.format.specs.Answers as FormAnswers
use Rattle.format.specs.Format
use Rattle.format.specs.Steps
use Rattle.format.specs.Roster as R
use Rattle.format.specs.Roster.{roster_of}
use Rattle.format.specs.Form
use Rattle.format.specs.Check
use Rattle.format.specs.Check.{check_of}
use Rattle.trace.specs.Config
use Rattle.trace.specs.Inputs
use Rattle.trace.specs.Run
use Rattle.isolation.specs.Tests
use Rattle.isolation.specs.Tests.{asked}
use Rattle.isolation.specs.Cases
use Rattle.isolation.specs.Cases.{level, one, two, PairAgrees, Worked}
use Rattle.isolation.proofs.TestLaws.{tests_agree}

-- what the first pair meets, and what all cases show
record Computed : Type 0 where
  met : asked level one two ≡ (true ∷ true ∷ true ∷ true ∷ true ∷ true ∷ [])
  worked : Worked

computed : Computed
unfolding Lists.times_in Lists.without Lists.all_of Lists.below Model.highest_of Moves.become_ready Moves.stopped Moves.preempt Moves.start
    Moves.highest_to Moves.highest Moves.dispatch_by Moves.dispatch Moved.is_nobody Moved.same_runner Moved.report_by Moved.accepted
    Moved.refuse_if_nobody Fresh.new_tasks Fresh.join_from Fresh.fresh_model Fresh.refused_fresh Fresh.fresh Events.enter Events.settle_with
    Events.settle Events.leave Events.put_off Events.delay Events.rest Events.suspend Events.release_from Events.release Events.due_at
    Events.earlier Events.first_due Events.wake Events.wake_up Events.bad_reading Events.clock Events.requeue Events.rebase Events.is_ended
    Events.set_base Events.work Events.finish Events.apply Words.word_at Words.number_at Words.tabulate FormAnswers.first Format.trailer
    Format.task_count Format.object_count Format.object_table Format.task_table Format.task_row Format.base_at Format.start_at
    Format.length_at
    Format.object_row Format.ceiling_at Format.part_at Steps.set_step Steps.step_of Steps.code_at Steps.a_at Steps.b_at Steps.step_at
    Steps.steps_of
    R.roster_of Form.length_good Form.mark_good Form.counts_kept Form.tables_good Form.scripts_end Form.laid_from Form.script_laid
    Form.scripts_laid Form.layout_good Form.task_row_good Form.object_row_good Form.values_good Form.is_step Form.unused_zero
    Form.names_listed
    Form.stands_right Form.step_good Form.step_form Form.steps_form Form.script_form Form.scripts_form Form.form_of Form.script_answer
    Form.script_part Check.held_after Check.held_before Check.own_set Check.top_of Check.while_held Check.low_ceiling Check.not_innermost
    Check.other_task Check.fault_of Check.fault_in Check.steps_fault Check.top_at Check.script_fault Check.roster_fault Check.check_of
    Config.start_of Config.event_of Config.answer_to Config.perform Config.position_after Config.advance Config.step_by Config.outside
    Config.happen Inputs.decode Inputs.value_at Inputs.decoded_at Inputs.event_good Inputs.events_good Inputs.input_at Inputs.inputs_of
    Run.answer_of Run.running_byte Run.reply_of Run.replies_from Run.replies_of Run.buffer_of Tests.every_step Tests.own_value
    Tests.released_task
    Tests.entered_object Tests.same_list Tests.no_set Tests.lacking_from Cases.cases
computed = record { met = refl; worked = refl }

bytes_of : (s : List ℕ) → all_of (λ x. ltb x 256) s ≡ true → Bytes s
unfolding all_of
bytes_of s e = record { below = go s e }
  where
    go : (l : List ℕ) → all_of (λ x. ltb x 256) l ≡ true → (i : ℕ) → get_or l i 0 < 256
    go [] f i = omega arith
    go (x ∷ l) f zero = ltb-true x 256 (and_left (ltb x 256) (all_of (λ x. ltb x 256) l) f)
    go (x ∷ l) f (suc i) = go l (and_right (ltb x 256) (all_of (λ x. ltb x 256) l) f) i

both_bytes : Bytes one × Bytes two
unfolding Lists.all_of
both_bytes = (bytes_of one refl, bytes_of two refl)

pub pair-agrees : PairAgrees
pair-agrees = tests_agree level one two both_bytes.0 both_bytes.1 computed.met

pub worked : Worked
worked = computed.worked
