-- When a State is sound: document 01's list, of the Model that it means, the clause of 2026-02, and no clause of ours.
use Rattle.std.specs.Prelude.{◌≡◌, Bool, true, ◌&&◌, ◌↔◌, ℕ, ◌-◌, ◌^◌, ◌≤◌, ◌<◌, eqb, length}
use Rattle.rules.specs.Limits.{first_priority, last_priority, counts_good}
use Rattle.rules.specs.Model.{queue}
use Rattle.rules.specs.Sound.{sound}
use Rattle.marks.specs.Marks.{bit_at, marks_of}
use Rattle.memory.specs.Rows.{held_width, queue_width}
use Rattle.loading.specs.Loading.{lengths_good}
use Rattle.dispatch.specs.declared.State.{State}
use Rattle.dispatch.specs.State.{view}

-- "a count or number out of range": the counts, the lengths of the held lists of the tasks that there are, and of the ready queues
unfoldable pub sizes_fit : State → Bool
sizes_fit s =
    counts_good s.task_count s.object_count && lengths_good held_width s.task_count s.held &&
    lengths_good queue_width last_priority s.queues

-- 2026-02: "The state keeps the word, a mark on exactly when its queue is nonempty; otherwise it is unsound."
unfoldable pub marks_good : State → Bool
marks_good s = eqb s.marks (marks_of (view s).ready)

-- which is to say, of a word of 32 bits, queue by queue
abbrev pub MarksGoodClaim : Type 0
MarksGoodClaim =
    (s : State) → s.marks < 2 ^ last_priority → (marks_good s ≡ true) ↔
    ((p : ℕ) → first_priority ≤ p → p ≤ last_priority → (bit_at s.marks (p - 1) ≡ 1) ↔ (0 < length (queue (view s) p)))

-- and the rest of the list
unfoldable pub sound_of : State → Bool
sound_of s = sizes_fit s && marks_good s && sound (view s)
