-- Laws of a run and its lines: the replies that its lines are of, and what is printed where both buffers are long enough.
use mathlib.Core.Path.{◌≡◌, refl, ap, sym, ◌∙◌}
use mathlib.Core.Bool.{Bool, true, false, cond, not, ◌&&◌}
use mathlib.Core.List.{List, [], ◌++◌}
use Prim.Native.Nat.{ℕ, ◌*◌, ◌/◌, ◌%◌, ◌≤◌}
use native.Mathlib.Omega.{arith}
use borrow.Author.Tests.{ltb-false, le-leb, leb-true}
use lib.Dec.{eqb, leb, ltb}
use Rattle.std.specs.Prelude.{Ok, Err}
use lib.ListN.{length, take, drop, length-append}
use lib.Seq.{take-append_seam}
use Rattle.rules.specs.Lists.{below}
use Rattle.format.specs.Answers.{Verdict}
use Rattle.format.specs.Check.{check_of}
use Rattle.rules.proofs.Choices.{and_left, and_right}
use Rattle.format.proofs.TestLaws.{truth, by-test}
use Rattle.trace.specs.Limits.{event_size, largest_events, reply_size}
use Rattle.trace.specs.Inputs.{event_count, event_good, events_good}
use Rattle.trace.specs.Answers.{RunAnswer, error_number, error_task, error_position, ran}
use Rattle.trace.specs.Run.{after_check, answer_of, replies_of, buffer_of}
use Rattle.lines.specs.Lines.{refused_line, lines_of, room_for, lines_buffer, lines_size}
use Rattle.lines.specs.Printed.{replies_written, printed_buffer, printed_size, replies_enough, lines_enough, printed}
use Rattle.trace.specs.declared.RunError.{RunError}
use Rattle.trace.specs.declared.RunError.TheVariants.{BadRoster, BadEvents, ShortBuffer}
use Rattle.trace.proofs.RunLaws.{replies-length, answer-roster, answer-events, answer-done}

-- a run that is done had room for its replies
pub done-room : (roster events : List ℕ) (size : ℕ) → ran (answer_of roster events size) ≡ true → reply_size * event_count events ≤ size
unfolding answer_of
done-room roster events size h = go (check_of roster) (events_good events) (ltb size (reply_size * event_count events)) refl h
  where
    go : (v : Verdict) (g short : Bool) → ltb size (reply_size * event_count events) ≡ short →
        ran (after_check v (cond (not g) (Err BadEvents) (cond short (Err ShortBuffer) (Ok tt)))) ≡ true →
        reply_size * event_count events ≤ size
    go (Err f) g short e r = absurd (truth (sym r))
    go (Ok done) false short e r = absurd (truth (sym r))
    go (Ok done) true true e r = absurd (truth (sym r))
    go (Ok done) true false e r = ltb-false _ _ e

-- what the lines are made of: n bytes of the buffer, after a run that answered a
module _ (roster events replies after : List ℕ) (a : RunAnswer) (n : ℕ)
    (answer : a ≡ answer_of roster events (length replies)) (count : n ≡ cond (ran a) (reply_size * event_count events) 0) where
  count-done : ran a ≡ true → n ≡ length (replies_of roster events)
  count-done e = count ∙ (ap (λ (b : Bool). cond b (reply_size * event_count events) 0) e ∙ sym (replies-length roster events))

  count_none : ran a ≡ false → n ≡ 0
  count_none e = count ∙ ap (λ (b : Bool). cond b (reply_size * event_count events) 0) e

  pub written-fits : n ≤ length replies
  written-fits =
      by-test (ran a)
      (λ e. omega (arith, count-done e, replies-length roster events, done-room roster events (length replies) (ap ran (sym answer) ∙ e)))
      (λ e. omega (arith, count_none e))

  pub written_is : after ≡ buffer_of roster events replies → take n after ≡ replies_written roster events (length replies)
  unfolding buffer_of replies_written
  written_is k =
      let whole = replies_of roster events in
      let stays = drop (length whole) replies in
      by-test (ran a)
      (λ e.
      let r : ran (answer_of roster events (length replies)) ≡ true = ap ran (sym answer) ∙ e in
      let here : after ≡ whole ++ stays = k ∙ ap (λ (b : Bool). cond b (whole ++ stays) replies) r in
      ap (λ (m : ℕ). take m after) (count-done e) ∙
      (ap (take (length whole)) here ∙
      (take-append_seam whole stays ∙ sym (ap (λ (b : Bool). cond b whole []) r))))
      (λ e.
      let r : ran (answer_of roster events (length replies)) ≡ false = ap ran (sym answer) ∙ e in
      ap (λ (m : ℕ). take m after) (count_none e) ∙ sym (ap (λ (b : Bool). cond b whole []) r))

-- the lines lie within the buffer
pub lines-within : (a : RunAnswer) (replies out : List ℕ) → lines_size a replies out ≤ length (lines_buffer a replies out)
unfolding lines_size lines_buffer
lines-within a replies out = go (leb (room_for replies) (length out))
  where
    text : List ℕ
    text = lines_of a replies

    go : (b : Bool) → cond b (length text) 0 ≤ length (cond b (text ++ drop (length text) out) out)
    go true = omega (arith, length-append text (drop (length text) out))
    go false = omega arith

-- the lines of a run are those of the replies that the run wrote
pub printed-is : (roster events replies after out out' : List ℕ) (a : RunAnswer) (n r : ℕ) → a ≡ answer_of roster events (length replies) →
    n ≡ cond (ran a) (reply_size * event_count events) 0 → after ≡ buffer_of roster events replies →
    r ≡ lines_size a (take n after) out → out' ≡ lines_buffer a (take n after) out →
    (r ≡ printed_size roster events (length replies) out) × ((after ≡ buffer_of roster events replies) ×
    ((out' ≡ printed_buffer roster events (length replies) out) × (r ≤ length out')))
unfolding printed_size printed_buffer
printed-is roster events replies after out out' a n r ea en k er eo =
    let w : take n after ≡ replies_written roster events (length replies) = written_is roster events replies after a n ea en k in
    let within : r ≤ length out' = rw (er, eo) (lines-within a (take n after) out) in
    (cc, (k, (cc, within)))

-- where both buffers are long enough, what is printed is the line of a refusal, or the lines of the replies
module _ (roster events : List ℕ) (size : ℕ) (out : List ℕ) (replies-enough : replies_enough ≤ size)
    (lines-enough : lines_enough ≤ length out) where
  few : events_good events ≡ true → event_count events ≤ largest_events / event_size
  unfolding events_good
  few e =
      let whole = eqb (length events % event_size) 0 in
      let small = leb (length events) largest_events in
      let first : (whole && small) ≡ true = and_left (whole && small) (below (event_count events) (event_good events)) e in
      let short : length events ≤ largest_events = leb-true _ _ (and_right whole small first) in
      omega arith

  -- the lines of an answer and of what it wrote, if they are known
  made : (a : RunAnswer) (replies text : List ℕ) → answer_of roster events size ≡ a → replies_written roster events size ≡ replies →
      room_for replies ≤ length out → lines_of a replies ≡ text →
      (printed_size roster events size out ≡ length text) × (printed_buffer roster events size out ≡ text ++ drop (length text) out)
  unfolding printed_size printed_buffer lines_size lines_buffer
  made a replies text ea ew room et =
      let b = le-leb _ _ room in
      let size_is : lines_size a replies out ≡ length text =
      ap (λ (x : Bool). cond x (length (lines_of a replies)) 0) b ∙ ap length et
      in
      let buffer-is : lines_buffer a replies out ≡ text ++ drop (length text) out =
      ap (λ (x : Bool). cond x (lines_of a replies ++ drop (length (lines_of a replies)) out) out) b ∙
      ap (λ (l : List ℕ). l ++ drop (length l) out) et
      in (
        ap (λ (x : RunAnswer). lines_size x (replies_written roster events size) out) ea ∙
            (ap (λ (l : List ℕ). lines_size a l out) ew ∙ size_is),
        ap (λ (x : RunAnswer). lines_buffer x (replies_written roster events size) out) ea ∙
            (ap (λ (l : List ℕ). lines_buffer a l out) ew ∙ buffer-is),
      )

  -- a refusal's line is of no replies
  refused : (r : RunError) (text : List ℕ) → answer_of roster events size ≡ Err r →
      refused_line (error_number r) (error_task r) (error_position r) ≡ text →
      (printed_size roster events size out ≡ length text) × (printed_buffer roster events size out ≡ text ++ drop (length text) out)
  unfolding replies_written lines_of room_for
  refused r text e t = made (Err r) [] text e (rw e) (omega arith) t

  -- the size and the buffer
  abbrev pub Enough : Type 0
  Enough = (printed_size roster events size out ≡ length (printed roster events)) ×
      (printed_buffer roster events size out ≡ printed roster events ++ drop (length (printed roster events)) out)

  pub printed-enough : Enough
  unfolding printed replies_written lines_of room_for
  printed-enough = go (check_of roster) refl
    where
      passes : check_of roster ≡ Ok tt → Enough
      passes e =
          by-test (events_good events)
          (λ f.
          let count = few f in
          let is : answer_of roster events size ≡ Ok tt = answer-done roster events size e f (omega arith) in
          made (Ok tt) (replies_of roster events) (printed roster events) is (rw is)
          (omega (arith, replies-length roster events)) (sym (rw (e, f))))
          (λ f. refused BadEvents (printed roster events) (answer-events roster events size e f) (sym (rw (e, f))))

      go : (v : Verdict) → check_of roster ≡ v → Enough
      go (Ok done) e = passes e
      go (Err f) e = refused (BadRoster f) (printed roster events) (answer-roster roster events size f e) (sym (rw e))

-- what stands in front of the buffer, as many bytes as the answer says, is what is printed
pub printed-text : (roster events : List ℕ) (size : ℕ) (out : List ℕ) {r : ℕ} {out' : List ℕ} → r ≡ printed_size roster events size out →
    out' ≡ printed_buffer roster events size out → replies_enough ≤ size → lines_enough ≤ length out → take r out' ≡ printed roster events
printed-text roster events size out {r} {out'} e f h g =
    let text = printed roster events in
    let enough = printed-enough roster events size out h g in
    ap (λ (n : ℕ). take n out') (e ∙ enough.0) ∙
    (ap (take (length text)) (f ∙ enough.1) ∙ take-append_seam text (drop (length text) out))
