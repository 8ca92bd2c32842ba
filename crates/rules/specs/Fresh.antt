-- The fresh start.
use Rattle.std.specs.Prelude.{◌≡◌, Bool, true, false, cond, not, ◌&&◌, List, [], ◌∷◌, ℕ, zero, suc, ◌≤◌, length, replicate, None, Ok, Err}
use Rattle.rules.specs.Limits.{task_limit, object_limit, last_priority, counts_good}
use Rattle.rules.specs.Priorities.{in_range}
use Rattle.rules.specs.Model.{TaskRecord, Model}
use Rattle.rules.specs.Moves.{become_ready, dispatch}
use Rattle.rules.specs.declared.Place.TheVariants.{Suspended}
use Rattle.rules.specs.Answers.{Answer}
use Rattle.rules.specs.declared.Refusal.TheVariants.{BadCounts, BadBases}
use Rattle.rules.specs.Lists.{all_of}

-- "A fresh state is made from ceilings and bases alone": what a fresh start is made from
pub record Setup : Type 0 where
  pub bases : List ℕ
  pub ceilings : List ℕ

-- a task of base p that has not joined a queue yet: "permits are off"
abbrev pub new_task : ℕ → TaskRecord
new_task p = record { place = Suspended; base = p; waiting = None; permit = false; held = [] }

unfoldable pub new_tasks : List ℕ → List TaskRecord
new_tasks [] = []
new_tasks (p ∷ ps) = new_task p ∷ new_tasks ps

-- "now is 0"; no task is ready yet
abbrev pub unstarted : Setup → Model
unstarted s =
    record { now = 0; running = None; tasks = new_tasks s.bases; ceilings = s.ceilings; ready = replicate last_priority [] }

-- "tasks join in number order the tail of the queue for their base": n tasks from t on
unfoldable pub join_from : ℕ → ℕ → Model → Model
join_from t zero m = m
join_from t (suc n) m = join_from (suc t) n (become_ready m t)

-- "and one dispatch follows, as after an event"
unfoldable pub fresh_model : Setup → Model
fresh_model s = dispatch (join_from 0 (length s.bases) (unstarted s))

-- "the state beside that answer is the fresh one of a single task, base 1, and no objects"
abbrev pub single_task : Setup
single_task = record { bases = 1 ∷ []; ceilings = [] }

unfoldable pub refused_fresh : Model
refused_fresh = fresh_model single_task

-- 13 unless "counts" are in range; 15 "for a bad base or ceiling"
abbrev pub setup_counted : Setup → Bool
setup_counted s = counts_good (length s.bases) (length s.ceilings)

abbrev pub setup_in_range : Setup → Bool
setup_in_range s = all_of in_range s.bases && all_of in_range s.ceilings

-- what a fresh start gives back: no event, so that it has no report
pub record Begun : Type 0 where
  pub answer : Answer
  pub model : Model

-- "A fresh start is refused with 13 for counts out of range, else with 15 for a bad base or ceiling"
unfoldable pub fresh : Setup → Begun
fresh s =
    cond (not (setup_counted s)) (record { answer = Err BadCounts; model = refused_fresh })
    (cond (not (setup_in_range s)) (record { answer = Err BadBases; model = refused_fresh })
    (record { answer = Ok tt; model = fresh_model s }))

-- the same said apart: what a fresh start accepts
pub record Startable (s : Setup) : Type 0 where
  pub some : 1 ≤ length s.bases
  pub count : length s.bases ≤ task_limit
  pub objects : length s.ceilings ≤ object_limit
  pub bases : all_of in_range s.bases ≡ true
  pub ceilings : all_of in_range s.ceilings ≡ true
