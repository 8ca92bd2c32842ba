-- Laws of the layout: a listed object's ceiling, a task's base and script, and a row's numbers.
use mathlib.Core.Path.{◌≡◌, ap, ◌∙◌}
use mathlib.Core.List.{List, []}
use Prim.Native.Nat.{ℕ, ◌+◌, ◌*◌, ◌≤◌, ◌<◌}
use lib.ListN.{length}
use Rattle.rules.specs.Model.{ceiling_of}
use Rattle.format.specs.Limits.{task_row_size}
use Rattle.words.specs.Words.{word_at}
use Rattle.format.specs.Format.{task_count, object_count, task_table, task_row}
use Rattle.format.specs.Format.{base_at, start_at, length_at, ceiling_at, part_at}
use Rattle.format.specs.Steps.{steps_of}
use Rattle.format.specs.Roster.{roster_of, base_of, script_of}
use Rattle.std.proofs.lemmas.Grind.{common_steps}
use Rattle.words.proofs.TableLaws.{length-tabulate, tabulate-at, tabulate-past}

module _ (s : List ℕ) where
  pub ceiling-listed : (o : ℕ) → o < object_count s → ceiling_of (roster_of s).ceilings o ≡ ceiling_at s o
  unfolding roster_of
  ceiling-listed o h = tabulate-at (object_count s) (ceiling_at s) o 0 h

  pub ceiling-unlisted : (o : ℕ) → object_count s ≤ o → ceiling_of (roster_of s).ceilings o ≡ 0
  unfolding roster_of
  ceiling-unlisted o h = tabulate-past (object_count s) (ceiling_at s) o 0 h

  pub base-listed : (t : ℕ) → t < task_count s → base_of (roster_of s) t ≡ base_at s t
  unfolding roster_of
  base-listed t h = tabulate-at (task_count s) (base_at s) t 0 h

  pub base-unlisted : (t : ℕ) → task_count s ≤ t → base_of (roster_of s) t ≡ 0
  unfolding roster_of
  base-unlisted t h = tabulate-past (task_count s) (base_at s) t 0 h

  pub script-listed : (t : ℕ) → t < task_count s → script_of (roster_of s) t ≡ steps_of (part_at s t)
  unfolding roster_of
  script-listed t h = tabulate-at (task_count s) (λ u. steps_of (part_at s u)) t [] h

  pub base-count : length (roster_of s).bases ≡ task_count s
  unfolding roster_of
  base-count = length-tabulate (task_count s) (base_at s)

  pub ceiling-count : length (roster_of s).ceilings ≡ object_count s
  unfolding roster_of
  ceiling-count = length-tabulate (object_count s) (ceiling_at s)

  pub script-count : length (roster_of s).scripts ≡ task_count s
  unfolding roster_of
  script-count = length-tabulate (task_count s) (λ t. steps_of (part_at s t))

  -- a row's numbers, by where the task table starts
  pub start-read : (t table a : ℕ) → table ≡ task_table s → a ≡ word_at s (table + task_row_size * t + 2) → a ≡ start_at s t
  unfolding start_at task_row
  start-read t table a e f = f ∙ ap (λ (x : ℕ). word_at s (x + task_row_size * t + 2)) e

  pub length-read : (t table n : ℕ) → table ≡ task_table s → n ≡ word_at s (table + task_row_size * t + 4) → n ≡ length_at s t
  unfolding length_at task_row
  length-read t table n e f = f ∙ ap (λ (x : ℕ). word_at s (x + task_row_size * t + 4)) e

-- for a reader's proof: what is listed, and what is not
pub ruleset read_laws = (common_steps, base-listed, base-unlisted, base-count, ceiling-listed, ceiling-unlisted, ceiling-count)
