-- The sizes of the parts, the marks and the codes of the roster file (document 01, "The roster"), each named once.
-- How many bytes, tasks and objects there may be is said by rules' Limits.
use Rattle.std.specs.Prelude.{ℕ}

-- "an 8-byte trailer"; "Task row, 6 bytes"; "Object row, 2 bytes"; "A step has 4 bytes"
abbrev pub trailer_size : ℕ
trailer_size = 8

abbrev pub task_row_size : ℕ
task_row_size = 6

abbrev pub object_row_size : ℕ
object_row_size = 2

abbrev pub step_size : ℕ
step_size = 4

-- "Trailer: 52 35, .." (hexadecimal)
abbrev pub first_mark : ℕ
first_mark = 82

abbrev pub second_mark : ℕ
second_mark = 53

-- "Codes: 1 Enter a; 2 Leave a; 3 Delay b; 4 Work; 5 Suspend; 6 Release a; 7 Set a, b; 8 Again"
abbrev pub enter_code : ℕ
enter_code = 1

abbrev pub leave_code : ℕ
leave_code = 2

abbrev pub delay_code : ℕ
delay_code = 3

abbrev pub work_code : ℕ
work_code = 4

abbrev pub suspend_code : ℕ
suspend_code = 5

abbrev pub release_code : ℕ
release_code = 6

abbrev pub set_code : ℕ
set_code = 7

abbrev pub again_code : ℕ
again_code = 8
