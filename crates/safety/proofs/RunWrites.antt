-- What a run writes is what the claim speaks of: the proof.
use mathlib.Core.Path.{◌≡◌, refl, ap, ◌∙◌, sym}
use mathlib.Core.Logic.{◌↔◌}
use mathlib.Core.Bool.{Bool, true, false, cond, not}
use mathlib.Core.List.{List, [], ◌∷◌, ◌++◌, map}
use Prim.Native.Nat.{ℕ, suc, ◌+◌, ◌*◌, ◌<◌}
use native.Mathlib.Omega.{arith}
use lib.ListN.{length, get_or, drop, length-append, length-map, get_or-append}
use Rattle.std.specs.Prelude.{Ok, Err}
use Rattle.rules.specs.Answers.{number_of, report_number}
use Rattle.rules.proofs.Choices.{cond-true}
use Rattle.rules.proofs.Refusals.{number-done}
use Rattle.format.specs.Answers.{Verdict, passed}
use Rattle.format.specs.Roster.{Roster, roster_of}
use Rattle.format.specs.Check.{check_of}
use Rattle.trace.specs.Limits.{reply_size}
use Rattle.trace.specs.Config.{Config, start_of, happen}
use Rattle.trace.specs.Answers as run
use Rattle.trace.specs.Answers.{RunAnswer}
use Rattle.trace.specs.Run.{after_check}
use Rattle.trace.specs.Inputs.{inputs_of}
use Rattle.trace.specs.Run.{answer_of, running_byte, reply_of, replies_from, replies_of, buffer_of}
use Rattle.trace.proofs.RunLaws.{replies-count}
use Rattle.trace.specs.declared.Input.{Input}
use Rattle.safety.specs.History.{Event, step, input_of, after_from, after}
use Rattle.safety.specs.Safe.{running, step_answer, Idle}
use Rattle.safety.specs.RunWrites.{RunWrites}
use Rattle.safety.proofs.Theorem.{safe}

-- the three bytes at an event, from any configuration on
module _ (r : Roster) where
  reply-byte : (c : Config) (before : List Event) (e : Event) (behind : List Event) (k : ℕ) → k < reply_size →
      get_or (replies_from r c (map input_of (before ++ (e ∷ behind)))) (reply_size * length before + k) 0 ≡
      get_or (reply_of (happen r (after_from r c before) (input_of e))) k 0
  unfolding replies_from reply_of after_from
  reply-byte c [] e behind k h =
      let start : reply_size * 0 + k ≡ k = omega arith in
      let first = reply_of (happen r c (input_of e)) in
      let rest = replies_from r (happen r c (input_of e)).config (map input_of behind) in
      ap (λ (n : ℕ). get_or (first ++ rest) n 0) start ∙ get_or-append first rest 0 k h
  reply-byte c (x ∷ before) e behind k h =
      let three : reply_size * suc (length before) + k ≡ suc (suc (suc (reply_size * length before + k))) = omega arith in
      ap (λ (n : ℕ). get_or (replies_from r c (map input_of (x ∷ before ++ (e ∷ behind)))) n 0) three ∙
      reply-byte (happen r c (input_of x)).config before e behind k h

  after_last : (c : Config) (before : List Event) (e : Event) →
      after_from r c (before ++ (e ∷ [])) ≡ (happen r (after_from r c before) (input_of e)).config
  unfolding after_from
  after_last c [] e = refl
  after_last c (x ∷ before) e = after_last (happen r c (input_of x)).config before e

-- a run that is not refused has a roster that passes
pub ran-passes : (s ev : List ℕ) (size : ℕ) → answer_of s ev size ≡ Ok tt → passed (check_of s) ≡ true
unfolding answer_of
ran-passes s ev size e = go (check_of s) _ e
  where
    go : (v : Verdict) (w : RunAnswer) → after_check v w ≡ Ok tt → passed v ≡ true
    go (Ok done) w g = refl
    go (Err f) w g = absurd (cc g)

-- the three bytes of an event in the buffer of a run that is not refused
module _ (s ev buffer : List ℕ) (es : List Event) (e : answer_of s ev (length buffer) ≡ Ok tt) (f : inputs_of ev ≡ map input_of es) where
  r : Roster
  r = roster_of s

  replies : List ℕ
  replies = replies_from r (start_of r) (map input_of es)

  whole : buffer_of s ev buffer ≡ replies ++ drop (length replies) buffer
  unfolding buffer_of replies_of r replies
  whole =
      cond-true (run.ran (answer_of s ev (length buffer))) (replies_of s ev ++ drop (length (replies_of s ev)) buffer) buffer
      (ap run.ran e) ∙
      ap (λ (is : List Input). replies_from r (start_of r) is ++ drop (length (replies_from r (start_of r) is)) buffer) f

  at : (i : ℕ) → i < reply_size * length es → get_or (buffer_of s ev buffer) i 0 ≡ get_or replies i 0
  unfolding replies
  at i h =
      ap (λ (l : List ℕ). get_or l i 0) whole ∙
      get_or-append replies (drop (length replies) buffer) 0 i
      (omega (arith, h, replies-count r (start_of r) (map input_of es), length-map es input_of))

  module _ (before behind : List Event) (x : Event) (q : es ≡ before ++ (x ∷ behind)) where
    size : length es ≡ length before + suc (length behind)
    size = ap length q ∙ length-append before (x ∷ behind)

    written : (k : ℕ) → k < reply_size →
        get_or (buffer_of s ev buffer) (reply_size * length before + k) 0 ≡ get_or (reply_of (happen r (after r before) (input_of x))) k 0
    unfolding r replies
    written k h =
        at (reply_size * length before + k) (omega (arith, size, h)) ∙
        ap (λ (l : List Event). get_or (replies_from r (start_of r) (map input_of l)) (reply_size * length before + k) 0) q ∙
        reply-byte r (start_of r) before x behind k h

    pub answer-written : get_or (buffer_of s ev buffer) (reply_size * length before) 0 ≡
        number_of (happen (roster_of s) (after (roster_of s) before) (input_of x)).answer
    unfolding r reply_of
    answer-written =
        let first : reply_size * length before ≡ reply_size * length before + 0 = omega arith in
        ap (λ (n : ℕ). get_or (buffer_of s ev buffer) n 0) first ∙ written 0 (omega arith)

    pub task-written : get_or (buffer_of s ev buffer) (reply_size * length before + 1) 0 ≡
        running_byte (running (roster_of s) (before ++ (x ∷ [])))
    unfolding r reply_of
    task-written =
        written 1 (omega arith) ∙ ap (λ (c : Config). running_byte c.model.running) (sym (after_last r (start_of r) before x))

    pub report-written : get_or (buffer_of s ev buffer) (reply_size * length before + 2) 0 ≡
        report_number (happen (roster_of s) (after (roster_of s) before) (input_of x)).report
    unfolding r reply_of
    report-written = written 2 (omega arith)

pub run-writes : RunWrites
run-writes s ev buffer es y e f =
    record { answer = answer; task = task-written s ev buffer es e f; report = report-written s ev buffer es e f }
  where
    answer : (before behind : List Event) → es ≡ before ++ (step ∷ behind) →
        (get_or (buffer_of s ev buffer) (reply_size * length before) 0 ≡ 0 → ⊥) ↔ Idle (roster_of s) before
    answer before behind q =
        let refusal = (safe s y (ran-passes s ev (length buffer) e) es).refused before behind q in
        let byte = answer-written s ev buffer es e f before behind step q in (
          λ n. refusal.0 (record { is = λ d. n (byte ∙ ap number_of d) }),
          λ i z. (refusal.1 i).is (number-done (step_answer (roster_of s) before) (sym byte ∙ z)),
        )
