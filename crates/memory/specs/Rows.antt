-- Lists in rows of one list of cells: a row is the length of its list, the elements, then zeros. Any width, any number of rows.
use Rattle.std.specs.Prelude.{cond, List, [], ◌∷◌, ◌++◌, map, ℕ, zero, suc, ◌-◌, eqb, length, take, drop, replicate}
use Rattle.rules.specs.Limits.{task_limit, object_limit, last_priority}

-- the first n rows of width w
unfoldable pub rows : ℕ → ℕ → List ℕ → List (List ℕ)
rows w zero l = []
rows w (suc n) l = take w l ∷ rows w n (drop w l)

-- the list in a row
unfoldable pub in_row : List ℕ → List ℕ
in_row [] = []
in_row (n ∷ cells) = take n cells

-- the row of width w for a list
unfoldable pub row_for : ℕ → List ℕ → List ℕ
row_for w l = length l ∷ (l ++ replicate (w - suc (length l)) 0)

-- the lists of n rows of width w
unfoldable pub lists : ℕ → ℕ → List ℕ → List (List ℕ)
lists w n l = map in_row (rows w n l)

-- where x stands first in a list, or the list's length
unfoldable pub place_in : ℕ → List ℕ → ℕ
place_in x [] = 0
place_in x (y ∷ ys) = cond (eqb y x) 0 (suc (place_in x ys))

-- a list with its element at i cut out
abbrev pub cut_at : ℕ → List ℕ → List ℕ
cut_at i l = take i l ++ drop (suc i) l

-- the ready queues: a row for each priority, with room for all tasks
abbrev pub queue_width : ℕ
queue_width = suc task_limit

abbrev pub queues_in : List ℕ → List (List ℕ)
queues_in l = lists queue_width last_priority l

-- the held lists: a row for each task, with room for all objects
abbrev pub held_width : ℕ
held_width = suc object_limit

abbrev pub held_in : List ℕ → List (List ℕ)
held_in l = lists held_width task_limit l
