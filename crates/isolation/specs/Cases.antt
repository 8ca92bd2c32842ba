-- Pairs of rosters worked out at the level 10: two that agree above it, and for each premise two that keep all the others and part.
use Rattle.std.specs.Prelude.{◌≡◌, List, [], ◌∷◌, ◌++◌, map, ℕ, ◌+◌, length}
use Rattle.format.specs.Cases.{step_bytes, enter, leave, delay, work, suspend, set_to, again}
use Rattle.trace.specs.Run.{replies_of}
use Rattle.trace.specs.Cases.{clock, release, step, set}
use Rattle.isolation.specs.Sharing.{Agreeing}
use Rattle.isolation.specs.Tests.{lacking}

abbrev pub level : ℕ
level = 10

-- "6 Release a"
abbrev pub free : ℕ → List ℕ
free t = step_bytes 6 t 0

-- task 0 is above the level in both rosters, and so is object 0, which it enters; it releases task 1 from inside
abbrev pub high : List ℕ
high = enter 0 ++ free 1 ++ leave 0 ++ delay 5 ++ again

-- beside it: one task; two tasks and an object of the ceiling 10
abbrev pub one : List ℕ
one =
    high ++ work ++ again ++
    (20 ∷ 0 ∷ 0 ∷ 0 ∷ 20 ∷ 0 ∷ 5 ∷ 0 ∷ 20 ∷ 0 ∷ 8 ∷ 0 ∷
    25 ∷ 0 ∷
    82 ∷ 53 ∷ 2 ∷ 1 ∷ 40 ∷ 0 ∷ 28 ∷ 0 ∷ [])

abbrev pub two : List ℕ
two =
    high ++ enter 1 ++ leave 1 ++ set_to 1 3 ++ free 1 ++
    (20 ∷ 0 ∷ 0 ∷ 0 ∷ 20 ∷ 0 ∷ 10 ∷ 0 ∷ 20 ∷ 0 ∷ 12 ∷ 0 ∷ 7 ∷ 0 ∷ 32 ∷ 0 ∷ 4 ∷ 0 ∷
    25 ∷ 0 ∷ 10 ∷ 0 ∷
    82 ∷ 53 ∷ 3 ∷ 2 ∷ 54 ∷ 0 ∷ 36 ∷ 0 ∷ [])

-- they meet every premise of the claim
abbrev pub PairAgrees : Type 0
PairAgrees = Agreeing level one two

-- task 0 takes four steps; seven are taken while it is away; a Release of a task that only the second has; task 0 wakes
abbrev pub events : List ℕ
events =
    step ++ step ++ step ++ step ++ step ++ step ++ step ++ step ++ step ++ step ++ step ++ release 2 ++ clock 5 ++ step

-- a roster of two tasks, with their scripts and bases, and one object
abbrev pub roster : List ℕ → ℕ → List ℕ → ℕ → ℕ → List ℕ
roster x b y c ceiling =
    x ++ y ++ (b ∷ 0 ∷ 0 ∷ 0 ∷ length x ∷ 0 ∷ c ∷ 0 ∷ length x ∷ 0 ∷ length y ∷ 0 ∷ ceiling ∷ 0 ∷
    82 ∷ 53 ∷ 2 ∷ 1 ∷ (length x + length y + 12) ∷ 0 ∷ (length x + length y) ∷ 0 ∷ [])

-- two rosters under the same events: what of 1 to 7 (specs/Tests.antt) they lack, and the bytes that each writes
pub record Case : Type 0 where
  pub first : List ℕ
  pub second : List ℕ
  pub events : List ℕ
  pub lacks : List ℕ
  pub writes : List (List ℕ)

abbrev pub shown : Case → List (List ℕ)
shown x =
    lacking level x.first x.second x.events ∷ replies_of x.first x.events ∷ replies_of x.second x.events ∷ []

unfoldable pub cases : List Case
cases =
    -- the two that agree: task 0 runs at the same moments; the answers differ at the last of the seven steps, and at the
    -- Release. The reports of the Clock by which it takes over differ too (2026-10): 1, from a lower task, and 2, from nobody
    record {
      first = one;
      second = two;
      events = events;
      lacks = [];
      writes =
          (0 ∷ 0 ∷ 0 ∷ 0 ∷ 0 ∷ 0 ∷ 0 ∷ 0 ∷ 0 ∷ 0 ∷ 1 ∷ 2 ∷
          0 ∷ 1 ∷ 0 ∷ 0 ∷ 1 ∷ 0 ∷ 0 ∷ 1 ∷ 0 ∷ 0 ∷ 1 ∷ 0 ∷ 0 ∷ 1 ∷ 0 ∷ 0 ∷ 1 ∷ 0 ∷ 0 ∷ 1 ∷ 0 ∷
          1 ∷ 1 ∷ 0 ∷ 0 ∷ 0 ∷ 1 ∷ 0 ∷ 0 ∷ 0 ∷ []) ∷
          (0 ∷ 0 ∷ 0 ∷ 0 ∷ 0 ∷ 0 ∷ 0 ∷ 0 ∷ 0 ∷ 0 ∷ 1 ∷ 2 ∷
          0 ∷ 1 ∷ 0 ∷ 0 ∷ 1 ∷ 0 ∷ 0 ∷ 2 ∷ 2 ∷ 0 ∷ 2 ∷ 0 ∷ 0 ∷ 1 ∷ 2 ∷ 0 ∷ 255 ∷ 2 ∷ 5 ∷ 255 ∷ 0 ∷
          0 ∷ 255 ∷ 0 ∷ 0 ∷ 0 ∷ 2 ∷ 0 ∷ 0 ∷ 0 ∷ []) ∷ [];
    } ∷
    -- the others part: who runs after the last event is 0 in one and 1 in the other. Each lacks one thing and keeps the rest
    -- 1 "two rosters that pass": the first does not (20), its task 1 sets the base of task 0
    record {
      first = roster (delay 1) 20 (set_to 0 1) 5 25;
      second = roster (delay 1) 20 work 5 25;
      events = step ++ step ++ clock 1;
      lacks = 1 ∷ [];
      writes = (0 ∷ 1 ∷ 2 ∷ 0 ∷ 1 ∷ 0 ∷ 0 ∷ 1 ∷ 0 ∷ []) ∷ (0 ∷ 1 ∷ 2 ∷ 0 ∷ 1 ∷ 0 ∷ 0 ∷ 0 ∷ 1 ∷ []) ∷ [];
    } ∷
    -- 2 "agree .. on every task above P": the base of task 1 is 30 or 15
    record {
      first = roster work 20 work 30 25;
      second = roster work 20 work 15 25;
      events = clock 0;
      lacks = 2 ∷ [];
      writes = (0 ∷ 1 ∷ 0 ∷ []) ∷ (0 ∷ 0 ∷ 0 ∷ []) ∷ [];
    } ∷
    -- .. the script of task 0 is a Delay or a Work
    record {
      first = roster (delay 1) 20 work 5 25;
      second = roster work 20 work 5 25;
      events = step;
      lacks = 2 ∷ [];
      writes = (0 ∷ 1 ∷ 2 ∷ []) ∷ (0 ∷ 0 ∷ 0 ∷ []) ∷ [];
    } ∷
    -- 3 "and every object with a ceiling above P": the ceiling is 25 or 30, between which task 1 wakes
    record {
      first = roster (enter 0 ++ leave 0) 20 (delay 1) 28 25;
      second = roster (enter 0 ++ leave 0) 20 (delay 1) 28 30;
      events = step ++ step ++ clock 1;
      lacks = 3 ∷ [];
      writes = (0 ∷ 0 ∷ 2 ∷ 0 ∷ 0 ∷ 0 ∷ 0 ∷ 1 ∷ 1 ∷ []) ∷ (0 ∷ 0 ∷ 2 ∷ 0 ∷ 0 ∷ 0 ∷ 0 ∷ 0 ∷ 0 ∷ []) ∷ [];
    } ∷
    -- 4 "Above P means the base and all own Set values are higher": task 0 of base 20 sets itself to 5, and task 1 has the base 8 or 3
    record {
      first = roster (set_to 0 5) 20 work 8 25;
      second = roster (set_to 0 5) 20 work 3 25;
      events = step;
      lacks = 4 ∷ [];
      writes = (0 ∷ 1 ∷ 2 ∷ []) ∷ (0 ∷ 0 ∷ 0 ∷ []) ∷ [];
    } ∷
    -- 4 "every other task has them all at P or lower": task 1, which sets itself to 5, has the base 30
    record {
      first = roster work 20 (set_to 1 5) 30 32;
      second = roster work 20 (set_to 1 5) 5 32;
      events = clock 0;
      lacks = 4 ∷ [];
      writes = (0 ∷ 1 ∷ 0 ∷ []) ∷ (0 ∷ 0 ∷ 0 ∷ []) ∷ [];
    } ∷
    -- .. task 1 of base 5 sets itself to 30
    record {
      first = roster (delay 1) 20 (set_to 1 30) 5 25;
      second = roster (delay 1) 20 work 5 25;
      events = step ++ step ++ clock 1;
      lacks = 4 ∷ [];
      writes = (0 ∷ 1 ∷ 2 ∷ 0 ∷ 1 ∷ 0 ∷ 0 ∷ 1 ∷ 0 ∷ []) ∷ (0 ∷ 1 ∷ 2 ∷ 0 ∷ 1 ∷ 0 ∷ 0 ∷ 0 ∷ 1 ∷ []) ∷ [];
    } ∷
    -- 5 "releases no task above P": task 1 releases task 0
    record {
      first = roster suspend 20 work 5 25;
      second = roster suspend 20 (free 0) 5 25;
      events = step ++ step;
      lacks = 5 ∷ [];
      writes = (0 ∷ 1 ∷ 2 ∷ 0 ∷ 1 ∷ 0 ∷ []) ∷ (0 ∷ 1 ∷ 2 ∷ 0 ∷ 0 ∷ 1 ∷ []) ∷ [];
    } ∷
    -- 6 "and uses no object with a ceiling above P": task 1 is inside one when task 0 wakes
    record {
      first = roster (delay 1) 20 (enter 0 ++ leave 0) 5 25;
      second = roster (delay 1) 20 work 5 25;
      events = step ++ step ++ clock 1;
      lacks = 6 ∷ [];
      writes = (0 ∷ 1 ∷ 2 ∷ 0 ∷ 1 ∷ 0 ∷ 0 ∷ 1 ∷ 0 ∷ []) ∷ (0 ∷ 1 ∷ 2 ∷ 0 ∷ 1 ∷ 0 ∷ 0 ∷ 0 ∷ 1 ∷ []) ∷ [];
    } ∷
    -- 7 "with no Set from outside": of task 1, which has ended in the second
    record {
      first = roster (delay 1) 20 work 5 25;
      second = roster (delay 1) 20 [] 5 25;
      events = step ++ step ++ set 1 30 ++ clock 1;
      lacks = 7 ∷ [];
      writes = (0 ∷ 1 ∷ 2 ∷ 0 ∷ 1 ∷ 0 ∷ 0 ∷ 1 ∷ 0 ∷ 0 ∷ 1 ∷ 0 ∷ []) ∷ (0 ∷ 1 ∷ 2 ∷ 0 ∷ 255 ∷ 2 ∷ 6 ∷ 255 ∷ 0 ∷ 0 ∷ 0 ∷ 2 ∷ []) ∷ [];
    } ∷
    []

abbrev pub Worked : Type 0
Worked = map shown cases ≡ map (λ (x : Case). x.lacks ∷ x.writes) cases
