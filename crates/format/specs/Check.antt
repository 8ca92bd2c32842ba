-- The check of a roster: answers 17 to 20, each rule a definition that says where it is broken.
use Rattle.std.specs.Prelude.{Ok}
use Rattle.std.specs.Prelude.{◌≡◌, Bool, false, cond, not, ◌&&◌, List, [], ◌∷◌, ◌++◌, ℕ, zero, suc, ◌-◌, max, eqb, ltb, length, get_or, Err}
use Rattle.std.specs.Prelude.{take}
use Rattle.rules.specs.Model.{ceiling_of, highest_of}
use Rattle.rules.specs.Lists.{times_in}
use Rattle.format.specs.Answers.{passed, first, Verdict}
use Rattle.format.specs.Steps.{step_in}
use Rattle.format.specs.Roster.{Roster, roster_of, base_of, script_of}
use Rattle.format.specs.Form.{form_of}
use Rattle.format.specs.declared.Step.{Step}
use Rattle.format.specs.declared.Step.TheVariants.{Enter, Leave, Delay, Work, Suspend, Release, Set, Again, Finish}
use Rattle.format.specs.declared.Fault.TheVariants.{WhileHeld, LowCeiling, NotInnermost, OtherTask}

-- lists of held objects, outermost first: something is held; an object is held; it is the innermost
abbrev pub something : List ℕ → Bool
something held = ltb 0 (length held)

abbrev pub is_held : List ℕ → ℕ → Bool
is_held held o = ltb 0 (times_in o held)

abbrev pub is_innermost : List ℕ → ℕ → Bool
is_innermost held o = something held && eqb (get_or held (length held - 1) 0) o

-- what a step leaves held
unfoldable pub held_after : List ℕ → Step → List ℕ
held_after held (Enter o) = held ++ (o ∷ [])
held_after held (Leave o) = take (length held - 1) held
held_after held (Delay d) = held
held_after held Work = held
held_after held Suspend = held
held_after held (Release t) = held
held_after held (Set t p) = held
held_after held Again = held
held_after held Finish = held

-- what a script has held before its step at position k: nothing at first
unfoldable pub held_before : List Step → ℕ → List ℕ
held_before steps zero = []
held_before steps (suc k) = held_after (held_before steps k) (step_in steps k)

-- "its own Set values": what a step of task t sets its own base to, or 0
unfoldable pub own_set : ℕ → Step → ℕ
own_set t (Enter o) = 0
own_set t (Leave o) = 0
own_set t (Delay d) = 0
own_set t Work = 0
own_set t Suspend = 0
own_set t (Release u) = 0
own_set t (Set u p) = cond (eqb u t) p.0 0
own_set t Again = 0
own_set t Finish = 0

-- the highest of a base and all own Set values, wherever in the script they stand
unfoldable pub top_of : ℕ → ℕ → List Step → ℕ
top_of t base [] = base
top_of t base (x ∷ steps) = top_of t (max base (own_set t x)) steps

-- 17 "Delay, Suspend, Again or the script's end while something is held, or Enter of a held object"
unfoldable pub while_held : List ℕ → Step → Bool
while_held held (Enter o) = is_held held o
while_held held (Leave o) = false
while_held held (Delay d) = something held
while_held held Work = false
while_held held Suspend = something held
while_held held (Release t) = false
while_held held (Set t p) = false
while_held held Again = something held
while_held held Finish = something held

-- 18 "Enter of an object whose ceiling is below any of the task's base, its own Set values or its held ceilings"
unfoldable pub low_ceiling : List ℕ → ℕ → List ℕ → Step → Bool
low_ceiling ceilings top held (Enter o) = ltb (ceiling_of ceilings o) (highest_of ceilings top held)
low_ceiling ceilings top held (Leave o) = false
low_ceiling ceilings top held (Delay d) = false
low_ceiling ceilings top held Work = false
low_ceiling ceilings top held Suspend = false
low_ceiling ceilings top held (Release t) = false
low_ceiling ceilings top held (Set t p) = false
low_ceiling ceilings top held Again = false
low_ceiling ceilings top held Finish = false

-- 19 "Leave not innermost"
unfoldable pub not_innermost : List ℕ → Step → Bool
not_innermost held (Enter o) = false
not_innermost held (Leave o) = not (is_innermost held o)
not_innermost held (Delay d) = false
not_innermost held Work = false
not_innermost held Suspend = false
not_innermost held (Release t) = false
not_innermost held (Set t p) = false
not_innermost held Again = false
not_innermost held Finish = false

-- 20 "Set of another task"
unfoldable pub other_task : ℕ → Step → Bool
other_task t (Enter o) = false
other_task t (Leave o) = false
other_task t (Delay d) = false
other_task t Work = false
other_task t Suspend = false
other_task t (Release u) = false
other_task t (Set u p) = not (eqb u t)
other_task t Again = false
other_task t Finish = false

-- "in one step the lowest wins": of the step x at position k of task t
unfoldable pub fault_of : List ℕ → ℕ → List ℕ → ℕ → ℕ → Step → Verdict
fault_of ceilings top held t k x =
    cond (while_held held x) (Err (WhileHeld t k))
    (cond (low_ceiling ceilings top held x) (Err (LowCeiling t k))
    (cond (not_innermost held x) (Err (NotInnermost t k))
    (cond (other_task t x) (Err (OtherTask t k))
    (Ok tt))))

unfoldable pub fault_in : List ℕ → ℕ → ℕ → List Step → ℕ → Verdict
fault_in ceilings top t steps k = fault_of ceilings top (held_before steps k) t k (step_in steps k)

-- one script, "the script's end counts as the step after the last"
unfoldable pub steps_fault : List ℕ → ℕ → ℕ → List Step → Verdict
steps_fault ceilings top t steps = first (suc (length steps)) (fault_in ceilings top t steps)

-- the highest of a task's base and its own Set values
unfoldable pub top_at : Roster → ℕ → ℕ
top_at r t = top_of t (base_of r t) (script_of r t)

unfoldable pub script_fault : Roster → ℕ → Verdict
script_fault r t = steps_fault r.ceilings (top_at r t) t (script_of r t)

-- "17 to 20, name the first fault in task and step order"
unfoldable pub roster_fault : Roster → Verdict
roster_fault r = first (length r.scripts) (script_fault r)

-- "16, and then 17 to 20"
unfoldable pub check_of : List ℕ → Verdict
check_of s = cond (passed (form_of s)) (roster_fault (roster_of s)) (form_of s)

-- a roster that passes
abbrev pub Passes : List ℕ → Type 0
Passes s = check_of s ≡ Ok tt
