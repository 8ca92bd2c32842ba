-- `lines::text::Page::put_running` meets its contract.
use Rattle.lines.proofs.LineLaws.{added_as, running-nobody, running-task}
use Rattle.lines.proofs.text.Page.put_running.Goals as goal

pub returns-then-running-eq-NOBODY : goal.returns-then-running-eq-NOBODY
returns-then-running-eq-NOBODY c = added_as (running-nobody _ c.if-running-eq-NOBODY.true) c.put.ensures

pub returns-else-running-eq-NOBODY : goal.returns-else-running-eq-NOBODY
returns-else-running-eq-NOBODY c = added_as (running-task _ c.if-running-eq-NOBODY.false) c.put_number.ensures
