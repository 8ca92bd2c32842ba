-- The form of a roster: answers 11 to 16, each rule a definition that says that it is kept.
use Rattle.std.specs.Prelude.{Bool, true, false, cond, not, ◌&&◌, List, [], ℕ, zero, suc, ◌+◌, ◌%◌, eqb, ltb, length, Ok, Err}
use Rattle.rules.specs.Priorities.{in_range}
use Rattle.rules.specs.Limits.{counts_good, size_good}
use Rattle.rules.specs.Lists.{below}
use Rattle.format.specs.Limits.{first_mark, second_mark, step_size}
use Rattle.format.specs.Answers.{passed, first, Verdict}
use Rattle.words.specs.Words.{byte_at}
use Rattle.format.specs.Format.{trailer, task_count, object_count, task_table, object_table}
use Rattle.format.specs.Format.{task_row, object_row, base_at, ceiling_at, start_at, length_at, part_at}
use Rattle.format.specs.Steps.{a_at, b_at, step_at, step_count}
use Rattle.format.specs.declared.Step.{Step}
use Rattle.format.specs.declared.Step.TheVariants.{Enter, Leave, Delay, Work, Suspend, Release, Set, Again, Finish}
use Rattle.format.specs.declared.Fault.TheVariants.{NoSuchTask, BadLength, BadMark}
use Rattle.format.specs.declared.Fault.TheVariants.{BadCounts, BadLayout, BadValues, BadStep}

-- 11 "length"
unfoldable pub length_good : List ℕ → Bool
length_good s = size_good (length s)

-- 12 "mark"
unfoldable pub mark_good : List ℕ → Bool
mark_good s = eqb (byte_at s (trailer s)) first_mark && eqb (byte_at s (trailer s + 1)) second_mark

-- 13 "counts"
unfoldable pub counts_kept : List ℕ → Bool
counts_kept s = counts_good (task_count s) (object_count s)

-- 14 "starts or lengths off the layout": "with no gaps", each table ends where the next part starts
unfoldable pub tables_good : List ℕ → Bool
tables_good s = eqb (task_row s (task_count s)) (object_table s) && eqb (object_row s (object_count s)) (trailer s)

-- "scripts in task order from byte 0": where those of the first t tasks end
unfoldable pub scripts_end : List ℕ → ℕ → ℕ
scripts_end s zero = 0
scripts_end s (suc t) = scripts_end s t + length_at s t

-- a script that starts there; "script length in bytes (2, a multiple of 4)"
unfoldable pub laid_from : List ℕ → ℕ → ℕ → Bool
laid_from s start t = eqb (start_at s t) start && eqb (length_at s t % step_size) 0

unfoldable pub script_laid : List ℕ → ℕ → Bool
script_laid s t = laid_from s (scripts_end s t) t

unfoldable pub scripts_laid : List ℕ → Bool
scripts_laid s = below (task_count s) (script_laid s) && eqb (scripts_end s (task_count s)) (task_table s)

unfoldable pub layout_good : List ℕ → Bool
layout_good s = tables_good s && scripts_laid s

-- 15 "a base, ceiling or zero byte wrong"
unfoldable pub task_row_good : List ℕ → ℕ → Bool
task_row_good s t = in_range (base_at s t) && eqb (byte_at s (task_row s t + 1)) 0

unfoldable pub object_row_good : List ℕ → ℕ → Bool
object_row_good s o = in_range (ceiling_at s o) && eqb (byte_at s (object_row s o + 1)) 0

unfoldable pub values_good : List ℕ → Bool
values_good s = below (task_count s) (task_row_good s) && below (object_count s) (object_row_good s)

-- 16 "a step that breaks the lines above": bytes that are none of the eight codes, or "sets a base outside 1 to 32", read as Finish
unfoldable pub is_step : Step → Bool
is_step (Enter o) = true
is_step (Leave o) = true
is_step (Delay d) = true
is_step Work = true
is_step Suspend = true
is_step (Release t) = true
is_step (Set t p) = true
is_step Again = true
is_step Finish = false

-- .. "Unused operands are 0."
unfoldable pub unused_zero : ℕ → ℕ → Step → Bool
unused_zero a b (Enter o) = eqb b 0
unused_zero a b (Leave o) = eqb b 0
unused_zero a b (Delay d) = eqb a 0
unused_zero a b Work = eqb a 0 && eqb b 0
unused_zero a b Suspend = eqb a 0 && eqb b 0
unused_zero a b (Release t) = eqb b 0
unused_zero a b (Set t p) = true
unused_zero a b Again = eqb a 0 && eqb b 0
unused_zero a b Finish = true

-- .. "names no listed object or task": of n tasks and m objects
unfoldable pub names_listed : ℕ → ℕ → Step → Bool
names_listed n m (Enter o) = ltb o m
names_listed n m (Leave o) = ltb o m
names_listed n m (Delay d) = true
names_listed n m Work = true
names_listed n m Suspend = true
names_listed n m (Release t) = ltb t n
names_listed n m (Set t p) = ltb t n
names_listed n m Again = true
names_listed n m Finish = true

-- .. "Again (.. only as a script's last)"
unfoldable pub stands_right : Bool → Step → Bool
stands_right last (Enter o) = true
stands_right last (Leave o) = true
stands_right last (Delay d) = true
stands_right last Work = true
stands_right last Suspend = true
stands_right last (Release t) = true
stands_right last (Set t p) = true
stands_right last Again = last
stands_right last Finish = true

unfoldable pub step_good : ℕ → ℕ → Bool → ℕ → ℕ → Step → Bool
step_good n m last a b x = is_step x && unused_zero a b x && names_listed n m x && stands_right last x

-- the step at position k of task t's script, of n tasks and m objects
unfoldable pub step_form : ℕ → ℕ → ℕ → List ℕ → ℕ → Verdict
step_form n m t part k =
    cond (step_good n m (eqb (suc k) (step_count part)) (a_at part k) (b_at part k) (step_at part k)) (Ok tt) (Err (BadStep t k))

unfoldable pub steps_form : ℕ → ℕ → ℕ → List ℕ → Verdict
steps_form n m t part = first (step_count part) (step_form n m t part)

unfoldable pub script_form : List ℕ → ℕ → Verdict
script_form s t = steps_form (task_count s) (object_count s) t (part_at s t)

-- "16 .. the first fault in task and step order"
unfoldable pub scripts_form : List ℕ → Verdict
scripts_form s = first (task_count s) (script_form s)

-- "11 to 15: lowest wins."
unfoldable pub form_of : List ℕ → Verdict
form_of s =
    cond (not (length_good s)) (Err BadLength)
    (cond (not (mark_good s)) (Err BadMark)
    (cond (not (counts_kept s)) (Err BadCounts)
    (cond (not (layout_good s)) (Err BadLayout)
    (cond (not (values_good s)) (Err BadValues)
    (scripts_form s)))))

-- "its number comes from a call of its own on the same input (here 11 to 16, then 1)"
unfoldable pub script_answer : List ℕ → ℕ → Verdict
script_answer s t = cond (passed (form_of s)) (cond (ltb t (task_count s)) (Ok tt) (Err NoSuchTask)) (form_of s)

-- "a refusal gives an empty part"
unfoldable pub script_part : List ℕ → ℕ → List ℕ
script_part s t = cond (passed (script_answer s t)) (part_at s t) []
