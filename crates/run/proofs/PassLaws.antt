-- Laws of the pass over a run's events.
use mathlib.Core.Path.{◌≡◌, refl, ap, sym, ◌∙◌}
use mathlib.Core.List.{List, [], ◌∷◌, ◌++◌}
use Prim.Native.Nat.{ℕ, suc, ◌+◌, ◌*◌, ◌≤◌, ◌<◌}
use native.Mathlib.Numerals.{add-one}
use native.Mathlib.Omega.{arith}
use lib.ListN.{set, drop, drop_of_length-le}
use lib.Seq.{sets, drop-cons}
use Rattle.std.specs.Prelude.{None, Option, Some, unwrap_or}
use Rattle.words.proofs.TableLaws.{length-tabulate, tabulate-at}
use Rattle.rules.specs.Answers.{number_of, report_number}
use Rattle.memory.specs.Rulings.{answer_in, report_in}
use Rattle.memory.specs.declared.rulings.Ruling.{Ruling}
use Rattle.trace.specs.declared.Input.{Input}
use Rattle.trace.specs.declared.Input.TheVariants.{Step}
use Rattle.trace.specs.Limits.{reply_size, nobody_byte}
use Rattle.trace.specs.Inputs.{event_count, input_at, inputs_of}
use Rattle.trace.specs.Run.{running_byte, reply_of, replies_from}
use Rattle.turns.specs.Run.{Run, Happened, outcome, after, replies}

-- the events that are left
inputs-next : (s : List ℕ) (i : ℕ) → i < event_count s → drop i (inputs_of s) ≡ input_at s i ∷ drop (i + 1) (inputs_of s)
unfolding inputs_of
inputs-next s i h =
    drop-cons (inputs_of s) i Step (omega (arith, length-tabulate (event_count s) (input_at s))) ∙
    (ap (λ (x : Input). x ∷ drop (suc i) (inputs_of s)) (tabulate-at (event_count s) (input_at s) i Step h) ∙
    ap (λ (n : ℕ). input_at s i ∷ drop n (inputs_of s)) (sym (add-one i)))

inputs_end : (s : List ℕ) (i : ℕ) → event_count s ≤ i → drop i (inputs_of s) ≡ []
unfolding inputs_of
inputs_end s i h = drop_of_length-le (inputs_of s) {i = i} (omega (arith, length-tabulate (event_count s) (input_at s)))

-- one event and its reply; all of them
module _ (s whole : List ℕ) where
  pub replies-turn : (p p' : Run) (b : List ℕ) (i n t w : ℕ) (x : Input) → i < event_count s → x ≡ input_at s i → p' ≡ after p x →
      n ∷ t ∷ w ∷ [] ≡ reply_of (outcome p x) → whole ≡ sets b (reply_size * i) (replies p (drop i (inputs_of s))) →
      whole ≡
      sets (set (set (set b (reply_size * i) n) (reply_size * i + 1) t) (reply_size * i + 2) w) (reply_size * (i + 1))
      (replies p' (drop (i + 1) (inputs_of s)))
  unfolding replies_from
  replies-turn p p' b i n t w x h e f g k =
      let at = reply_size * i in
      let rest = drop (i + 1) (inputs_of s) in
      let one : suc at ≡ at + 1 = omega arith in
      let two : suc (suc at) ≡ at + 2 = omega arith in
      let three : suc (suc (suc at)) ≡ reply_size * (i + 1) = omega arith in
      let here : drop i (inputs_of s) ≡ x ∷ rest = inputs-next s i h ∙ ap (λ (y : Input). y ∷ rest) (sym e) in
      k ∙ ap (λ (l : List Input). sets b at (replies p l)) here ∙
      ap (λ (l : List ℕ). sets b at (l ++ replies (after p x) rest)) (sym g) ∙
      rw (f, ← three, ← two, ← one)

  pub replies-over : (p : Run) (b : List ℕ) (i : ℕ) → event_count s ≤ i →
      whole ≡ sets b (reply_size * i) (replies p (drop i (inputs_of s))) → b ≡ whole
  unfolding replies_from
  replies-over p b i h k = sym (k ∙ ap (λ (l : List Input). sets b (reply_size * i) (replies p l)) (inputs_end s i h))

-- the reply, byte by byte
byte_is : (o : Option ℕ) → unwrap_or o nobody_byte ≡ running_byte o
unfolding running_byte
byte_is None = refl
byte_is (Some t) = refl

pub reply_is : (old new : Run) (x : Input) (z : Ruling) (n t w : ℕ) → Happened old x new z → n ≡ number_of (answer_in z) →
    t ≡ unwrap_or new.config.model.running nobody_byte → w ≡ report_number (report_in z) → n ∷ t ∷ w ∷ [] ≡ reply_of (outcome old x)
unfolding reply_of
reply_is old new x z n t w h e f g = rw (e, h.answer, f, byte_is, h.same, g, h.report)
