-- The layout of a roster: where its bytes have each number. What lies past the last byte reads as 0.
use Rattle.std.specs.Prelude.{List, ℕ, ◌+◌, ◌*◌, ◌-◌, length, take, drop}
use Rattle.words.specs.Words.{byte_at, word_at}
use Rattle.format.specs.Limits.{trailer_size, task_row_size, object_row_size}

-- "then an 8-byte trailer that points back"
unfoldable pub trailer : List ℕ → ℕ
trailer s = length s - trailer_size

-- "Trailer: 52 35, task count, object count, start of object table (2 bytes), start of task table (2)."
unfoldable pub task_count : List ℕ → ℕ
task_count s = byte_at s (trailer s + 2)

unfoldable pub object_count : List ℕ → ℕ
object_count s = byte_at s (trailer s + 3)

unfoldable pub object_table : List ℕ → ℕ
object_table s = word_at s (trailer s + 4)

unfoldable pub task_table : List ℕ → ℕ
task_table s = word_at s (trailer s + 6)

-- "Task row, 6 bytes: base, 0, script start (2), script length in bytes (2, a multiple of 4)."
unfoldable pub task_row : List ℕ → ℕ → ℕ
task_row s t = task_table s + task_row_size * t

unfoldable pub base_at : List ℕ → ℕ → ℕ
base_at s t = byte_at s (task_row s t)

unfoldable pub start_at : List ℕ → ℕ → ℕ
start_at s t = word_at s (task_row s t + 2)

unfoldable pub length_at : List ℕ → ℕ → ℕ
length_at s t = word_at s (task_row s t + 4)

-- "Object row, 2 bytes: ceiling, 0."
unfoldable pub object_row : List ℕ → ℕ → ℕ
object_row s o = object_table s + object_row_size * o

unfoldable pub ceiling_at : List ℕ → ℕ → ℕ
ceiling_at s o = byte_at s (object_row s o)

-- "The script of a task is handed back as a part of the lent roster": the bytes between the row's start and end
unfoldable pub part_at : List ℕ → ℕ → List ℕ
part_at s t = take (length_at s t) (drop (start_at s t) s)
