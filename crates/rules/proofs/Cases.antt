-- The marked cases A to L of specs/Cases.antt come out as document 01 says, and the reports of specs/Reports.antt as 2026-10 does, by
-- computation.
use mathlib.Core.Path.{refl}
use Rattle.rules.specs.Lists
use Rattle.rules.specs.Model
use Rattle.rules.specs.Moves
use Rattle.rules.specs.Moved
use Rattle.rules.specs.Fresh
use Rattle.rules.specs.Events
use Rattle.rules.specs.Cases
use Rattle.rules.specs.Cases.{CasesClaim}
use Rattle.rules.specs.Reports
use Rattle.rules.specs.Reports.{ReportCasesClaim}

-- both at once, so that what they unfold is named once
computed : CasesClaim × ReportCasesClaim
unfolding Reports.reports_from Reports.reports_in Reports.reported Reports.report_cases Cases.outcome_from Cases.outcome Cases.queues_of
    Cases.expected Cases.case Cases.marked_cases Model.highest_of Moves.become_ready Moves.stopped Moves.preempt Moves.start
    Moves.highest_to
    Moves.highest Moves.dispatch_by Moves.dispatch Moved.is_nobody Moved.same_runner Moved.report_by Moved.accepted Moved.refuse_if_nobody
    Lists.all_of Fresh.new_tasks Fresh.join_from Fresh.fresh_model Fresh.refused_fresh Fresh.fresh Lists.times_in Events.enter
    Events.settle_with
    Events.settle Events.leave Events.put_off Events.delay Events.rest Events.suspend Events.release_from Events.release Events.due_at
    Events.earlier Events.first_due Events.wake Events.wake_up Events.bad_reading Events.clock Lists.without Events.requeue Events.rebase
    Events.is_ended Events.set_base Events.work Events.finish Events.apply
computed = (refl, refl)

pub marked : CasesClaim
marked = computed.0

pub reported : ReportCasesClaim
reported = computed.1
