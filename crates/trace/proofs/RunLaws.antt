-- Laws of what a run answers and leaves in the buffer.
use mathlib.Core.Path.{◌≡◌, refl, ap, sym, ◌∙◌}
use mathlib.Core.Bool.{true, false, cond, not}
use mathlib.Core.List.{List, [], ◌∷◌}
use Prim.Native.Nat.{ℕ, ◌*◌, ◌≤◌, ◌<◌}
use native.Mathlib.Omega.{arith}
use borrow.Author.Tests.{lt-ltb, le-ltb}
use lib.Dec.{ltb}
use lib.ListN.{length}
use lib.Seq.{sets}
use Rattle.format.specs.Answers.{Verdict}
use Rattle.format.specs.Roster.{Roster}
use Rattle.format.specs.Check.{check_of}
use Rattle.format.specs.declared.Fault.{Fault}
use Rattle.words.proofs.TableLaws.{length-tabulate}
use Rattle.trace.specs.declared.Input.{Input}
use Rattle.std.specs.Prelude.{Ok, Err}
use Rattle.trace.specs.declared.RunError.{RunError}
use Rattle.trace.specs.declared.RunError.TheVariants.{BadRoster, BadEvents, ShortBuffer}
use Rattle.trace.specs.Limits.{reply_size}
use Rattle.trace.specs.Config.{Config, happen}
use Rattle.trace.specs.Inputs.{event_count, events_good, input_at, inputs_of}
use Rattle.trace.specs.Answers.{RunAnswer}
use Rattle.trace.specs.Run.{after_check, answer_of, reply_of, replies_from, replies_of, buffer_of}
use Rattle.words.proofs.CopyLaws.{sets-front}

-- three bytes for each event
pub replies-count : (r : Roster) (c : Config) (es : List Input) → length (replies_from r c es) ≡ reply_size * length es
unfolding replies_from reply_of
replies-count r c [] = refl
replies-count r c (e ∷ es) = omega (arith, replies-count r (happen r c e).config es)

pub replies-length : (roster events : List ℕ) → length (replies_of roster events) ≡ reply_size * event_count events
unfolding replies_of inputs_of
replies-length roster events =
    replies-count _ _ (inputs_of events) ∙ ap (λ (n : ℕ). reply_size * n) (length-tabulate (event_count events) (input_at events))

-- what a run answers, by its tests in their order
module _ (roster events : List ℕ) (size : ℕ) where
  abbrev on-roster : RunAnswer
  on-roster = cond (not (events_good events)) (Err BadEvents) (cond (ltb size (reply_size * event_count events)) (Err ShortBuffer) (Ok tt))

  pub answer-roster : (f : Fault) → check_of roster ≡ Err f → answer_of roster events size ≡ Err (BadRoster f)
  unfolding answer_of
  answer-roster f e = ap (λ (v : Verdict). after_check v on-roster) e

  module _ (passes : check_of roster ≡ Ok tt) where
    answer-on : answer_of roster events size ≡ on-roster
    unfolding answer_of
    answer-on = ap (λ (v : Verdict). after_check v on-roster) passes

    pub answer-events : events_good events ≡ false → answer_of roster events size ≡ Err BadEvents
    answer-events e = answer-on ∙ rw e

    pub answer-short : events_good events ≡ true → size < reply_size * event_count events → answer_of roster events size ≡ Err ShortBuffer
    answer-short e h = answer-on ∙ rw (e, lt-ltb _ _ h)

    pub answer-done : events_good events ≡ true → reply_size * event_count events ≤ size → answer_of roster events size ≡ Ok tt
    answer-done e h = answer-on ∙ rw (e, le-ltb _ _ h)

-- the ways of a run
module _ (roster events buffer : List ℕ) where
  abbrev pub Ran : RunAnswer → List ℕ → Type 0
  Ran a after = (a ≡ answer_of roster events (length buffer)) × (after ≡ buffer_of roster events buffer)

  -- a refused run
  refuses : (e : RunError) → answer_of roster events (length buffer) ≡ Err e → Ran (Err e) buffer
  unfolding buffer_of
  refuses e is = (sym is, sym (rw is))

  pub run-roster : (f : Fault) → check_of roster ≡ Err f → Ran (Err (BadRoster f)) buffer
  run-roster f e = refuses (BadRoster f) (answer-roster roster events (length buffer) f e)

  module _ (passes : check_of roster ≡ Ok tt) where
    pub run-events : events_good events ≡ false → Ran (Err BadEvents) buffer
    run-events e = refuses BadEvents (answer-events roster events (length buffer) passes e)

    pub run_short : events_good events ≡ true → length buffer < reply_size * event_count events → Ran (Err ShortBuffer) buffer
    run_short e h = refuses ShortBuffer (answer-short roster events (length buffer) passes e h)

    pub run-done : (after : List ℕ) → events_good events ≡ true → reply_size * event_count events ≤ length buffer →
        after ≡ sets buffer 0 (replies_of roster events) → Ran (Ok tt) after
    unfolding buffer_of
    run-done after e h k =
        let is : answer_of roster events (length buffer) ≡ Ok tt = answer-done roster events (length buffer) passes e h in
        let room : length (replies_of roster events) ≤ length buffer = omega (arith, replies-length roster events) in
        (sym is, k ∙ (sets-front buffer (replies_of roster events) room ∙ sym (rw is)))
