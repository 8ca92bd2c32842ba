-- The lines that the program prints, as bytes.
use Rattle.std.specs.Prelude.{Bool, cond, ◌&&◌, List, [], ◌∷◌, ◌++◌, ℕ, zero, suc, ◌+◌, ◌*◌, ◌/◌, ◌%◌, eqb, leb, ltb, length}
use Rattle.std.specs.Prelude.{drop}
use Rattle.trace.specs.Limits.{reply_size, nobody_byte}
use Rattle.trace.specs.Answers.{RunAnswer, number_of, task_of, position_of, ran}

-- the characters, in ASCII: "every line ended by one newline", a space, "-", the digit 0
abbrev pub newline : ℕ
newline = 10

abbrev pub space : ℕ
space = 32

abbrev pub dash : ℕ
dash = 45

abbrev pub first_digit : ℕ
first_digit = 48

-- `passed`, `end`, `refused`
abbrev pub passed_word : List ℕ
passed_word = 112 ∷ (97 ∷ (115 ∷ (115 ∷ (101 ∷ (100 ∷ [])))))

abbrev pub end_word : List ℕ
end_word = 101 ∷ (110 ∷ (100 ∷ []))

abbrev pub refused_word : List ℕ
refused_word = 114 ∷ (101 ∷ (102 ∷ (117 ∷ (115 ∷ (101 ∷ (100 ∷ []))))))

-- a number in decimal, without leading zeros; it has no more digits than k
unfoldable pub digits_to : ℕ → ℕ → List ℕ
digits_to zero n = []
digits_to (suc k) n =
    cond (ltb n 10) ((first_digit + n) ∷ []) (digits_to k (n / 10) ++ ((first_digit + n % 10) ∷ []))

unfoldable pub decimal : ℕ → List ℕ
decimal n = digits_to (suc n) n

-- `0 1 1`, `0 - 2`: an event's answer, the running task, and since 2026-10 the report "as a third number"
unfoldable pub running_text : ℕ → List ℕ
running_text r = cond (eqb r nobody_byte) (dash ∷ []) (decimal r)

unfoldable pub reply_line : ℕ → ℕ → ℕ → List ℕ
reply_line a r w = decimal a ++ (space ∷ (running_text r ++ (space ∷ (decimal w ++ (newline ∷ [])))))

-- "one line each", from the replies that a run wrote
unfoldable pub reply_lines : List ℕ → List ℕ
reply_lines [] = []
reply_lines (a ∷ []) = []
reply_lines (a ∷ r ∷ []) = []
reply_lines (a ∷ r ∷ w ∷ rest) = reply_line a r w ++ reply_lines rest

-- the numbers "16, and then 17 to 20", which have a place; "with 0, 11 to 15, 21 and 22 the place .. isn't printed"
abbrev pub has_place : ℕ → Bool
has_place number = leb 16 number && leb number 20

-- ` 1 1`
unfoldable pub place_text : ℕ → ℕ → ℕ → List ℕ
place_text number task position =
    cond (has_place number) (space ∷ (decimal task ++ (space ∷ decimal position))) []

-- `refused 18 1 1`
unfoldable pub refused_line : ℕ → ℕ → ℕ → List ℕ
refused_line number task position =
    refused_word ++ (space ∷ (decimal number ++ (place_text number task position ++ (newline ∷ []))))

-- `passed`, a line for each event, `end`
unfoldable pub passed_lines : List ℕ → List ℕ
passed_lines replies = passed_word ++ (newline ∷ (reply_lines replies ++ (end_word ++ (newline ∷ []))))

-- "Every refused run prints such a line alone"
unfoldable pub lines_of : RunAnswer → List ℕ → List ℕ
lines_of a replies = cond (ran a) (passed_lines replies) (refused_line (number_of a) (task_of a) (position_of a))

-- no line of a reply has more bytes than these, and neither have all the other lines together
abbrev pub reply_room : ℕ
reply_room = 12

abbrev pub other_room : ℕ
other_room = 40

unfoldable pub room_for : List ℕ → ℕ
room_for replies = other_room + reply_room * (length replies / reply_size)

-- the buffer with the lines at its start, and how many bytes they are; untouched, and 0, where it may be too short
unfoldable pub lines_buffer : RunAnswer → List ℕ → List ℕ → List ℕ
lines_buffer a replies out =
    cond (leb (room_for replies) (length out)) (lines_of a replies ++ drop (length (lines_of a replies)) out) out

unfoldable pub lines_size : RunAnswer → List ℕ → List ℕ → ℕ
lines_size a replies out = cond (leb (room_for replies) (length out)) (length (lines_of a replies)) 0
