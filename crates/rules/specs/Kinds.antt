-- The place kinds, and their numbers, in the scope's order: "running, ready, delayed, suspended or ended".
use Rattle.std.specs.Prelude.{cond, ℕ, eqb, Result, Ok, Err}
use Rattle.std.specs.Result.{result_unwrap_or}
use Rattle.rules.specs.declared.NoSuchKind.{NoSuchKind}
use Rattle.rules.specs.declared.Place.{Place}
use Rattle.rules.specs.declared.Place.TheVariants.{Running, Ready, Delayed, Suspended, Ended}
use Rattle.rules.specs.declared.PlaceKind.{PlaceKind}

-- "place kind (one of the five above)"
abbrev pub kind_of : Place → PlaceKind
kind_of Running = PlaceKind.Running
kind_of Ready = PlaceKind.Ready
kind_of (Delayed d) = PlaceKind.Delayed
kind_of Suspended = PlaceKind.Suspended
kind_of Ended = PlaceKind.Ended

abbrev pub running_code : ℕ
running_code = 0

abbrev pub ready_code : ℕ
ready_code = 1

abbrev pub delayed_code : ℕ
delayed_code = 2

abbrev pub suspended_code : ℕ
suspended_code = 3

abbrev pub ended_code : ℕ
ended_code = 4

abbrev pub kind_number : PlaceKind → ℕ
kind_number PlaceKind.Running = running_code
kind_number PlaceKind.Ready = ready_code
kind_number PlaceKind.Delayed = delayed_code
kind_number PlaceKind.Suspended = suspended_code
kind_number PlaceKind.Ended = ended_code

-- the kind of a number, if it is one of the five
abbrev pub kind_found : ℕ → Result PlaceKind NoSuchKind
kind_found k =
    cond (eqb k running_code) (Ok PlaceKind.Running)
    (cond (eqb k ready_code) (Ok PlaceKind.Ready)
    (cond (eqb k delayed_code) (Ok PlaceKind.Delayed)
    (cond (eqb k suspended_code) (Ok PlaceKind.Suspended)
    (cond (eqb k ended_code) (Ok PlaceKind.Ended) (Err (record { 0 = k }))))))

-- a number that is none of them reads as running
abbrev pub kind_from : ℕ → PlaceKind
kind_from k = result_unwrap_or (kind_found k) PlaceKind.Running

-- the place of a kind; a delayed task's has its due time
abbrev pub place_of : PlaceKind → ℕ → Place
place_of PlaceKind.Running due = Running
place_of PlaceKind.Ready due = Ready
place_of PlaceKind.Delayed due = Delayed due
place_of PlaceKind.Suspended due = Suspended
place_of PlaceKind.Ended due = Ended
