-- What is claimed of written rosters: they read back as what was given, and what a roster says has one encoding.
use Rattle.std.specs.Prelude.{◌≡◌, ◌↔◌, true, List, ℕ, ◌≤◌, ◌<◌, length, take, Ok, Err}
use Rattle.rules.specs.Limits.{largest_roster}
use Rattle.rules.specs.Fresh.{setup_counted}
use Rattle.words.specs.Words.{Bytes}
use Rattle.format.specs.Roster.{roster_of}
use Rattle.format.specs.Form.{form_of}
use Rattle.format.specs.declared.Fault.TheVariants.{BadLength}
use Rattle.encoding.specs.File.{Parts, file_of, given}
use Rattle.encoding.specs.Answers.{lengths_add_up, parts_form, write_answer_of, write_buffer_of, written_of}
use Rattle.encoding.specs.Encoding.{parts_of}
use Rattle.encoding.specs.declared.WriteError.TheVariants.{Refused}

-- "What is written reads back as what was given": it is the front part of the buffer, has its form, and says the bases, ceilings and
-- steps that were given
pub record ReadBack (p : Parts) (out : List ℕ) : Type 0 where
  pub front : take (length (written_of p (length out))) (write_buffer_of p out) ≡ written_of p (length out)
  pub form : form_of (written_of p (length out)) ≡ Ok tt
  pub says : roster_of (written_of p (length out)) ≡ given p

abbrev pub ReadsBack : Type 0
ReadsBack = (p : Parts) (out : List ℕ) → write_answer_of p (length out) ≡ Ok tt → ReadBack p out

-- "15 and 16 as the reader would": to the file that would be written the form answers what the writer does, with task and step,
-- where neither 13, 14 nor 11 is answered
abbrev pub RefusesAsRead : Type 0
RefusesAsRead =
    (p : Parts) → setup_counted p.setup ≡ true → lengths_add_up p ≡ true → length (file_of p) ≤ largest_roster →
    form_of (file_of p) ≡ parts_form p

-- "then 11 if the file would pass its limit, then 22": a file that is too long is refused with 11, whatever the room
abbrev pub LengthBeforeRoom : Type 0
LengthBeforeRoom =
    (p : Parts) (size : ℕ) → parts_form p ≡ Ok tt → largest_roster < length (file_of p) → write_answer_of p size ≡ Err (Refused BadLength)

-- "two rosters that pass 11 to 16 have the same bases, ceilings and steps exactly when their bytes agree"
abbrev pub OneEncoding : Type 0
OneEncoding =
    (s u : List ℕ) → Bytes s → Bytes u → form_of s ≡ Ok tt → form_of u ≡ Ok tt → ((roster_of s ≡ roster_of u) ↔ (s ≡ u))

-- a roster that is read and written again: nothing is refused where there is room for it, and its bytes are the same
pub record Rewritten (s : List ℕ) : Type 0 where
  pub answer : (size : ℕ) → length s ≤ size → write_answer_of (parts_of (roster_of s)) size ≡ Ok tt
  pub file : file_of (parts_of (roster_of s)) ≡ s

abbrev pub WritesAgain : Type 0
WritesAgain = (s : List ℕ) → Bytes s → form_of s ≡ Ok tt → Rewritten s
