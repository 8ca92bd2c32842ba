-- What every accepted event has done when its one dispatch begins, in one table: proofs/Ways.antt shows that an event is the dispatch of
-- this, or a refusal.
use Rattle.std.specs.Prelude.{ℕ, None, Option, Some}
use Rattle.rules.specs.Model.{Model, task_at}
use Rattle.rules.specs.Moves.{stopped}
use Rattle.rules.specs.Events.{take_hold, give_up, settle, put_off, rest, release_from, take_reading, rebase, end}
use Rattle.rules.specs.declared.Event.{Event}
use Rattle.rules.specs.declared.Event.TheVariants.{Enter, Leave, Delay, Suspend, Release, Clock, Set, Work, Finish}

-- what is done for the running task; nothing where nobody runs
unfoldable pub for_runner : Model → Option ℕ → (ℕ → Model) → Model
for_runner m None f = m
for_runner m (Some t) f = f t

-- the line of document 01 for each event ("Enter: .." to "Finish: .."), what stands before "After every accepted event"
unfoldable pub effect : Model → Event → Model
effect m (Enter o) = for_runner m m.running (take_hold m o)
effect m (Leave o) = for_runner m m.running (λ t. settle (give_up m t) t)
effect m (Delay d) = for_runner m m.running (λ t. put_off (stopped m) t d)
effect m Suspend = for_runner m m.running (rest m)
effect m (Release t) = release_from m t (task_at m t).place
effect m (Clock r) = take_reading m r
effect m (Set t p) = rebase m t p.0
effect m Work = m
effect m Finish = for_runner m m.running (end m)
