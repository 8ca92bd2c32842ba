-- Laws of a fresh start and of events on bytes, by the ways of the code.
use mathlib.Core.Path.{◌≡◌, refl, ap, sym, ◌∙◌}
use mathlib.Core.Bool.{Bool, true, false, cond, ◌&&◌}
use mathlib.Core.List.{List}
use Prim.Native.Nat.{ℕ, ◌≤◌, ◌<◌}
use native.Mathlib.Omega.{arith}
use borrow.Author.Tests.{lt-ltb, le-ltb, eq-eqb, ne_eqb}
use lib.Dec.{eqb, ltb}
use lib.ListN.{length}
use Rattle.std.specs.Prelude.{Option, None, Some, Err, is_ok}
use Rattle.rules.specs.Answers.{Answer, number_of, report_number}
use Rattle.rules.specs.declared.Event.{Event}
use Rattle.rules.specs.declared.Report.TheVariants.{Unchanged}
use Rattle.rules.specs.declared.Refusal.TheVariants.{Unsound}
use Rattle.rules.specs.Model.{Model}
use Rattle.rules.specs.Sound.{sound}
use Rattle.rules.specs.Events.{apply}
use Rattle.rules.proofs.Choices.{cond-true, cond-false, clash, and_left, and_right}
use Rattle.words.specs.Words.{byte_at, long_at}
use Rattle.marks.specs.Marks.{marks_of}
use Rattle.memory.specs.Rulings.{answer_in, report_in}
use Rattle.memory.specs.Memory.{Did}
use Rattle.memory.specs.declared.rulings.Ruling.{Ruling}
use Rattle.dispatch.specs.State.{view, encode}
use Rattle.dispatch.specs.Sound.{sizes_fit, sound_of}
use Rattle.dispatch.proofs.MethodLaws.{ok-is, unfit, unsound-by, tested, loaded-none}
use Rattle.dispatch.proofs.MethodLaws.{loaded-some, none-loaded, some-loaded, refused-by, accepted-by}
use Rattle.rules.specs.Fresh.{Setup}
use Rattle.dispatch.specs.Methods.{unsound, applied_of, fresh_of, loaded_of}
use Rattle.dispatch.specs.declared.State.{State}
use Rattle.dispatch.specs.declared.Started.{Started}
use Rattle.dispatch.specs.declared.Stepped.{Stepped}
use Rattle.cells.specs.Sizes.{running_at, task_count_at, marks_at, nobody_code, state_size}
use Rattle.cells.specs.Decode.{runner_from, state_of_bytes}
use Rattle.cells.specs.InRange.{readable}
use Rattle.cells.specs.Encode.{with_state}
use Rattle.cells.proofs.WriteLaws.{state-kept}
use Rattle.cells.proofs.RangeLaws.{unread-answer, read_answer}
use Rattle.layout.specs.Events.{loaded_from, unless_short, event_number, event_bytes, event_report, fresh_number}
use Rattle.layout.specs.Events.{fresh_bytes, sound_number, listed_code, running_number}

-- 0 is the number of no refusal
pub accepted_is : (a : Answer) → number_of a ≡ 0 → is_ok a ≡ true
accepted_is a e = sym (ok-is a) ∙ eq-eqb (number_of a) 0 e

pub refused_is : (a : Answer) → (number_of a ≡ 0 → ⊥) → is_ok a ≡ false
refused_is a f = sym (ok-is a) ∙ ne_eqb (number_of a) 0 f

-- too few bytes, or enough
pub short-answer : (b : List ℕ) (n : ℕ) → length b < state_size → unless_short b n ≡ number_of (Err Unsound)
short-answer b n h = cond-true (ltb (length b) state_size) (number_of (Err Unsound)) n (lt-ltb (length b) state_size h)

pub own-answer : (b : List ℕ) (n : ℕ) → state_size ≤ length b → unless_short b n ≡ n
own-answer b n h = cond-false (ltb (length b) state_size) (number_of (Err Unsound)) n (le-ltb (length b) state_size h)

module _ (b : List ℕ) (e : Event) where
  -- bytes stay as they are where the answer is not 0
  pub bytes-kept : (event_number b e ≡ 0 → ⊥) → b ≡ event_bytes b e
  unfolding event_bytes
  bytes-kept z = sym (cond-false (eqb (event_number b e) 0) (with_state (applied_of (state_of_bytes b) e).state b) b (ne_eqb _ 0 z))

  unread-number : readable b ≡ false → event_number b e ≡ number_of (Err Unsound)
  unfolding event_number
  unread-number h = unread-answer b (number_of (applied_of (state_of_bytes b) e).answer) h

  event-unread : (n : ℕ) → n ≡ number_of (Err Unsound) → readable b ≡ false → (w : ℕ) → w ≡ report_number Unchanged →
      (n ≡ event_number b e) × ((b ≡ event_bytes b e) × (w ≡ event_report b e))
  unfolding event_report
  event-unread n i h w j =
      let same = unread-number h in
      let none = cond-false (readable b) _ (report_number Unchanged) h in
      (i ∙ sym same, (bytes-kept (λ z. let clash = sym same ∙ z in omega arith), j ∙ sym none))

  module _ (r : Stepped) (step : r ≡ applied_of (state_of_bytes b) e) (n : ℕ) (i : n ≡ number_of r.answer) (w : ℕ)
      (j : w ≡ report_number r.report) (h : readable b ≡ true) where
    event-number : n ≡ event_number b e
    unfolding event_number
    event-number =
        i ∙ (ap (λ (x : Stepped). number_of x.answer) step ∙ sym (read_answer b (number_of (applied_of (state_of_bytes b) e).answer) h))

    event-report : w ≡ event_report b e
    unfolding event_report
    event-report =
        j ∙ (ap (λ (x : Stepped). report_number x.report) step ∙
        sym (cond-true (readable b) (report_number (applied_of (state_of_bytes b) e).report) _ h))

    event-refused : (n ≡ 0 → ⊥) → (n ≡ event_number b e) × ((b ≡ event_bytes b e) × (w ≡ event_report b e))
    event-refused z = (event-number, (bytes-kept (λ x. z (event-number ∙ x)), event-report))

    event-done : (b' : List ℕ) → n ≡ 0 → b' ≡ with_state r.state b →
        (0 ≡ event_number b e) × ((b' ≡ event_bytes b e) × (w ≡ event_report b e))
    unfolding event_bytes
    event-done b' z f =
        let done : event_number b e ≡ 0 = sym event-number ∙ z in
        let after = with_state (applied_of (state_of_bytes b) e).state b in
        let written = cond-true (eqb (event_number b e) 0) after b (eq-eqb _ 0 done) in
        (sym done, (f ∙ (ap (λ (x : Stepped). with_state x.state b) step ∙ sym written), event-report))

  -- bytes that are no sound state
  pub event-unsound : (n : ℕ) → n ≡ number_of (Err Unsound) → (w : ℕ) → w ≡ report_number Unchanged →
      (readable b && sound_of (state_of_bytes b)) ≡ false → (n ≡ event_number b e) × ((b ≡ event_bytes b e) × (w ≡ event_report b e))
  event-unsound n i w j f = go (readable b) refl
    where
      go : (x : Bool) → readable b ≡ x → (n ≡ event_number b e) × ((b ≡ event_bytes b e) × (w ≡ event_report b e))
      go false h = event-unread n i h w j
      go true h =
          let bad = sym (ap (λ (y : Bool). y && sound_of (state_of_bytes b)) h) ∙ f in
          event-refused (unsound (state_of_bytes b)) (unsound-by (state_of_bytes b) e bad) n i w j h
          (λ z. let clash = sym i ∙ z in omega arith)

-- the memory of bytes that are a sound state's, and none
module _ (b : List ℕ) where
  pub unloadable : (readable b && sizes_fit (state_of_bytes b)) ≡ false → None ≡ loaded_from b
  unfolding loaded_from
  unloadable f = go (readable b) refl
    where
      go : (x : Bool) → readable b ≡ x → None ≡ cond (readable b) (loaded_of (state_of_bytes b)) None
      go false h = sym (cond-false (readable b) _ None h)
      go true h =
          let unfit = unfit (state_of_bytes b) (sym (ap (λ (x : Bool). x && sizes_fit (state_of_bytes b)) h) ∙ f) in
          sym (cond-true (readable b) _ None h ∙ sym (loaded-none (state_of_bytes b) (sym unfit)))

  module _ (ok : (readable b && sizes_fit (state_of_bytes b)) ≡ true) (m : Model) (same : m ≡ view (state_of_bytes b)) (marks : ℕ)
      (w : marks ≡ long_at b marks_at) (r : Bool) (t : r ≡ (eqb marks (marks_of m.ready) && sound m)) where
    told : r ≡ sound_of (state_of_bytes b)
    unfolding state_of_bytes
    told =
        tested (state_of_bytes b) m r (and_right (readable b) (sizes_fit (state_of_bytes b)) ok) same
        (t ∙ ap (λ (k : ℕ). eqb k (marks_of m.ready) && sound m) w)

    from_state : loaded_from b ≡ loaded_of (state_of_bytes b)
    unfolding loaded_from
    from_state = cond-true (readable b) _ None (and_left (readable b) (sizes_fit (state_of_bytes b)) ok)

    loaded_sound : r ≡ true → Some m ≡ loaded_from b
    loaded_sound e = ap (λ (x : Model). Some x) same ∙ (loaded-some (state_of_bytes b) (sym told ∙ e) ∙ sym from_state)

    loaded_unsound : r ≡ false → None ≡ loaded_from b
    loaded_unsound e = loaded-none (state_of_bytes b) (sym told ∙ e) ∙ sym from_state

    pub loaded_told : cond r (Some m) None ≡ loaded_from b
    loaded_told = go r refl
      where
        go : (x : Bool) → r ≡ x → cond x (Some m) None ≡ loaded_from b
        go true e = loaded_sound e
        go false e = loaded_unsound e

  -- what was loaded
  pub none_loaded : None ≡ loaded_from b → (readable b && sound_of (state_of_bytes b)) ≡ false
  unfolding loaded_from
  none_loaded e = go (readable b) e
    where
      go : (x : Bool) → None ≡ cond x (loaded_of (state_of_bytes b)) None → (x && sound_of (state_of_bytes b)) ≡ false
      go true f = none-loaded (state_of_bytes b) f
      go false f = refl

  pub some_loaded : (m : Model) → Some m ≡ loaded_from b →
      (readable b ≡ true) × (sound_of (state_of_bytes b) ≡ true) × (m ≡ view (state_of_bytes b))
  unfolding loaded_from
  some_loaded m e = go (readable b) e
    where
      go : (x : Bool) → Some m ≡ cond x (loaded_of (state_of_bytes b)) None →
          (x ≡ true) × (sound_of (state_of_bytes b) ≡ true) × (m ≡ view (state_of_bytes b))
      go true f = let both = some-loaded (state_of_bytes b) m f in (refl, both.0, both.1)
      go false f = absurd (cc)

  -- an event on the memory
  module _ (e : Event) (m n : Model) (x : Ruling) (from : Some m ≡ loaded_from b) (d : Did n x (apply m e)) (k : ℕ)
      (i : k ≡ number_of (answer_in x)) (p : ℕ) (q : p ≡ report_number (report_in x)) where
    abbrev stepped : State → Stepped
    stepped s = record { answer = answer_in x; report = report_in x; state = s }

    pub moved-refused : (k ≡ 0 → ⊥) → (k ≡ event_number b e) × ((b ≡ event_bytes b e) × (p ≡ event_report b e))
    moved-refused z =
        let all = some_loaded m from in
        let s = state_of_bytes b in
        let step = refused-by s e m n x all.1 all.2 d (refused_is (answer_in x) (λ y. z (i ∙ y))) in
        event-refused b e (stepped s) step k i p q all.0 z

    pub moved-done : k ≡ 0 → (b' : List ℕ) → b' ≡ with_state (encode n) b →
        (0 ≡ event_number b e) × ((b' ≡ event_bytes b e) × (p ≡ event_report b e))
    moved-done z b' f =
        let all = some_loaded m from in
        let step = accepted-by (state_of_bytes b) e m n x all.1 all.2 d (accepted_is (answer_in x) (sym i ∙ z)) in
        event-done b e (stepped (encode n)) step k i p q all.0 b' z f

-- a fresh start
module _ (s : Setup) (b : List ℕ) (n : ℕ) where
  pub fresh-short : n ≡ number_of (Err Unsound) → length b < state_size →
      (n ≡ fresh_number s b) × (b ≡ fresh_bytes s b)
  unfolding fresh_number fresh_bytes
  fresh-short i h =
      (i ∙ sym (short-answer b (number_of (fresh_of s).answer) h), state-kept (fresh_of s).state b h)

  pub fresh-made : (b' : List ℕ) (r : Started) → r ≡ fresh_of s → b' ≡ with_state r.state b → n ≡ number_of r.answer →
      state_size ≤ length b → (n ≡ fresh_number s b) × (b' ≡ fresh_bytes s b)
  unfolding fresh_number fresh_bytes
  fresh-made b' r e f i h =
      let own = own-answer b (number_of (fresh_of s).answer) h in
      (i ∙ (ap (λ (x : Started). number_of x.answer) e ∙ sym own), f ∙ ap (λ (x : Started). with_state x.state b) e)

-- the test of soundness
module _ (b : List ℕ) (n : ℕ) where
  pub sound-no : n ≡ number_of (Err Unsound) → (readable b && sound_of (state_of_bytes b)) ≡ false → n ≡ sound_number b
  unfolding sound_number
  sound-no i f = i ∙ sym (go (readable b) (sound_of (state_of_bytes b)) f)
    where
      go : (x y : Bool) → (x && y) ≡ false → cond x (cond y 0 (number_of (Err Unsound))) (number_of (Err Unsound)) ≡ number_of (Err Unsound)
      go false y e = refl
      go true false e = refl
      go true true e = absurd (clash e)

pub sound-yes : (b : List ℕ) → readable b ≡ true → sound_of (state_of_bytes b) ≡ true → 0 ≡ sound_number b
unfolding sound_number
sound-yes b h g = rw (h, g)

-- who runs
pub running-unread : (b : List ℕ) → readable b ≡ false → nobody_code ≡ running_number b
unfolding running_number
running-unread b h = sym (cond-false (readable b) _ nobody_code h)

pub running-told : (b : List ℕ) (w : Option ℕ) (n : ℕ) → readable b ≡ true → w ≡ runner_from (byte_at b running_at) →
    n ≡ listed_code (byte_at b task_count_at) w → n ≡ running_number b
unfolding running_number state_of_bytes
running-told b w n h e f =
    f ∙ (ap (listed_code (byte_at b task_count_at)) e ∙ sym (cond-true (readable b) _ nobody_code h))

-- what the flag says beside the memory
pub flag-some : (r : Bool) (m : Model) (o : Option Model) → cond r (Some m) None ≡ o → r ≡ true → Some m ≡ o
flag-some r m o e f = sym (cond-true r (Some m) None f) ∙ e

pub flag-none : (r : Bool) (m : Model) (o : Option Model) → cond r (Some m) None ≡ o → r ≡ false → None ≡ o
flag-none r m o e f = sym (cond-false r (Some m) None f) ∙ e
