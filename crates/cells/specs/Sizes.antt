-- Where a state's bytes have each part: a head, the task rows, the ceilings, the held lists, the ready queues.
use Rattle.std.specs.Prelude.{ℕ, ◌+◌, ◌*◌}
use Rattle.rules.specs.Limits.{task_limit, object_limit, last_priority}
use Rattle.memory.specs.Rows.{held_width, queue_width}

-- a number has eight bytes, the lowest first; the word of marks has four
abbrev pub number_size : ℕ
number_size = 8

abbrev pub marks_size : ℕ
marks_size = 4

-- the head, 16 bytes: now (8), running task or 255, task count, object count, a zero that nobody reads, the word of marks (4)
abbrev pub head_size : ℕ
head_size = 16

abbrev pub running_at : ℕ
running_at = 8

abbrev pub task_count_at : ℕ
task_count_at = 9

abbrev pub object_count_at : ℕ
object_count_at = 10

abbrev pub marks_at : ℕ
marks_at = 12

abbrev pub nobody_code : ℕ
nobody_code = 255

-- a task row, 16 bytes: due time (8), place kind, base, whether a base waits, that base, permit, then 3 zeros that nobody reads
abbrev pub task_size : ℕ
task_size = 16

abbrev pub kind_offset : ℕ
kind_offset = 8

abbrev pub base_offset : ℕ
base_offset = 9

abbrev pub waits_offset : ℕ
waits_offset = 10

abbrev pub waiting_offset : ℕ
waiting_offset = 11

abbrev pub permit_offset : ℕ
permit_offset = 12

-- where the parts start, with no gaps, and where the last ends
abbrev pub tasks_start : ℕ
tasks_start = head_size

abbrev pub ceilings_start : ℕ
ceilings_start = tasks_start + task_limit * task_size

abbrev pub held_start : ℕ
held_start = ceilings_start + object_limit

abbrev pub queues_start : ℕ
queues_start = held_start + task_limit * held_width

abbrev pub state_size : ℕ
state_size = queues_start + last_priority * queue_width
