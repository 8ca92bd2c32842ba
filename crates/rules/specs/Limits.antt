-- The sizes of document 01 ("What is built") and of the requests, each named once.
use Rattle.std.specs.Prelude.{◌≡◌, Bool, true, false, ◌&&◌, ℕ, leb}

-- 2026-07: "Tasks up to 64, objects up to 32, roster up to 60,000 bytes."
abbrev pub task_limit : ℕ
task_limit = 64

abbrev pub object_limit : ℕ
object_limit = 32

abbrev pub smallest_roster : ℕ
smallest_roster = 14

abbrev pub largest_roster : ℕ
largest_roster = 60000

-- 13 "counts": "tasks 1 to" task_limit, "objects 0 to" object_limit
abbrev pub counts_good : ℕ → ℕ → Bool
counts_good tasks objects = leb 1 tasks && leb tasks task_limit && leb objects object_limit

-- 11 "length": "roster 14 to" largest_roster "bytes"
abbrev pub size_good : ℕ → Bool
size_good size = leb smallest_roster size && leb size largest_roster

-- what they take and what they refuse, in the request's numbers
abbrev pub LimitsClaim : Type 0
LimitsClaim =
    (counts_good 1 0 ≡ true) × (counts_good 64 32 ≡ true) × (counts_good 0 0 ≡ false) × (counts_good 65 0 ≡ false) ×
    (counts_good 1 33 ≡ false) × (size_good 14 ≡ true) × (size_good 60000 ≡ true) × (size_good 13 ≡ false) × (size_good 60001 ≡ false)

-- "readings 0 to 281474976710655": the clock counts ticks and is not the time of day (001, on D.9)
abbrev pub last_reading : ℕ
last_reading = 281474976710655

-- 2026-08: refused is "a reading more than 86,400,000 ticks past now. Exactly that many is taken."
abbrev pub longest_advance : ℕ
longest_advance = 86400000

-- "Delay d (16 bits, 0 to 65,535)"
abbrev pub last_delay : ℕ
last_delay = 65535

-- "Priority values are a kind of their own, whose first (1), last (32) and default (15) belong to that kind."
abbrev pub first_priority : ℕ
first_priority = 1

abbrev pub last_priority : ℕ
last_priority = 32

abbrev pub default_priority : ℕ
default_priority = 15

-- "Values 1 to 30 are Priority, 31 and 32 Interrupt_Priority."
abbrev pub first_interrupt : ℕ
first_interrupt = 31
