-- Bytes that a fresh start and events move stand for the states that the methods give: a caller that holds bytes is where one that
-- holds the state by value is.
use mathlib.Core.Path.{◌≡◌, refl, ap, sym, ◌∙◌}
use mathlib.Core.Bool.{Bool, true, false, cond}
use mathlib.Core.List.{List, [], ◌∷◌, ◌++◌, map, flat_map}
use Prim.Native.Nat.{ℕ, suc, ◌*◌, ◌≤◌, ◌<◌}
use native.Mathlib.Omega.{arith}
use borrow.Author.Tests.{le-ltb}
use lib.Dec.{eqb, ltb}
use native.Mathlib.Nat.{zero-mul, suc-mul}
use lib.ListN.{length-append, length-replicate, length, get_or, drop, get_or-eq_default, get_or-map}
use Rattle.rules.specs.Limits.{task_limit}
use Rattle.rules.specs.Answers.{number_of}
use Rattle.rules.specs.Model.{Model, blank, task_at}
use Rattle.rules.specs.Sound.{sound}
use Rattle.rules.specs.Events.{apply}
use Rattle.rules.specs.Fresh.{Setup, fresh}
use Rattle.rules.specs.declared.Place.{Place}
use Rattle.rules.specs.declared.Place.TheVariants.{Running, Ready, Delayed, Suspended, Ended}
use Rattle.rules.specs.declared.Event.{Event}
use Rattle.rules.specs.Histories.{delay_fits}
use Rattle.rules.specs.Clauses.{Numbers}
use Rattle.rules.proofs.Choices.{compare, cond-false}
use Rattle.rules.proofs.SoundLaws.{sound-is}
use Rattle.rules.proofs.Soundness.{sound-kept}
use Rattle.rules.proofs.FreshLaws.{fresh-sound}
use Rattle.marks.proofs.MarkLaws.{marks-fit}
use Rattle.memory.specs.Memory.{blank_task, waiting_for, task_for}
use Rattle.memory.specs.Rows.{row_for, held_width, queue_width}
use Rattle.loading.specs.Loading.{padded, held_lists}
use Rattle.loading.proofs.FlatLaws.{Short}
use Rattle.dispatch.proofs.Known.{Shaped}
use Rattle.dispatch.specs.State.{view, encode}
use Rattle.dispatch.specs.Sound.{sound_of}
use Rattle.dispatch.specs.Methods.{answered, unsound, applied_of, fresh_of}
use Rattle.dispatch.specs.declared.State.{State}
use Rattle.dispatch.specs.declared.Stepped.{Stepped}
use Rattle.dispatch.proofs.MethodLaws.{view-sound}
use Rattle.loading.proofs.PaddedLaws.{padded-at, held-count}
use Rattle.cells.specs.Sizes.{state_size}
use Rattle.cells.specs.Decode.{state_of_bytes}
use Rattle.cells.specs.InRange.{readable}
use Rattle.cells.specs.Encode.{due_of, bytes_of_state, with_state, number_values, Fits}
use Rattle.layout.specs.Events.{event_number, event_bytes, fresh_bytes}
use Rattle.cells.proofs.BackLaws.{state-back}
use Rattle.dispatch.proofs.EncodeLaws.{held-short, queue-short}
use Rattle.cells.proofs.StateLaws.{held_is, queues_are, shaped}
use Rattle.cells.proofs.RangeLaws.{read_answer, read-long, written-readable}

-- the due time of a place that is not delayed is 0
due-small : (x : Place) → ((d : ℕ) → x ≡ Delayed d → d < number_values) → due_of x < number_values
due-small Running f = omega arith
due-small Ready f = omega arith
due-small (Delayed d) f = f d refl
due-small Suspended f = omega arith
due-small Ended f = omega arith

-- lists in rows, each with room for itself: as many cells as the rows have
row-length : (w : ℕ) (l : List ℕ) → length l < w → length (row_for w l) ≡ w
unfolding row_for
row-length w l h = simp (length-append, length-replicate) (omega arith)

flat-length : (w : ℕ) (ls : List (List ℕ)) → Short w ls → length (flat_map (row_for w) ls) ≡ length ls * w
unfolding flat_map
flat-length w [] s = sym (zero-mul w)
flat-length w (l ∷ ls) s =
    let k = row-length w l (s 0) in
    let rest = flat-length w ls (λ i. s (suc i)) in
    simp length-append (omega (arith, k, rest, suc-mul (length ls) w))

-- the state for a sound Model has the lengths and numbers that bytes have room for
module _ (m : Model) (s : sound m ≡ true) where
  sizes : Numbers m
  sizes = (sound-is m s).numbers

  shape : Shaped (encode m)
  shape =
      let held = ap length (held_is m) ∙ flat-length held_width (held_lists m) (held-short m s) ∙
      ap (λ (n : ℕ). n * held_width) (held-count m sizes.count) in
      let queues =
      ap length (queues_are m) ∙ flat-length queue_width m.ready (queue-short m s) ∙ ap (λ (n : ℕ). n * queue_width) sizes.queues in
      shaped m sizes.count sizes.objects held queues

  record-at : (t : ℕ) → get_or (padded task_limit (map task_for m.tasks) blank_task) t blank_task ≡ task_for (task_at m t)
  unfolding waiting_for
  record-at t = padded-at task_limit (map task_for m.tasks) blank_task t ∙ get_or-map task_for m.tasks t blank

  due-fits : (t d : ℕ) → (task_at m t).place ≡ Delayed d → d < number_values
  due-fits t d e =
      compare (length m.tasks) t
      (λ g. absurd (let z : ◌≡◌ {A = ℕ} 0 1 = cc (get_or-eq_default m.tasks blank {n = t} g) in omega arith))
      (λ g. omega (arith, ((sound-is m s).due t d g e).1, sizes.reading))

  fits : Fits (encode m)
  unfolding encode
  fits =
      record {
        now = omega (arith, sizes.reading);
        running = λ t e. omega (arith, sizes.runner t e, sizes.count);
        marks = rw sizes.queues at (marks-fit m.ready);
        due = λ t. rw (record-at t) (due-small (task_at m t).place (due-fits t));
      }

  -- its bytes, written over others that are enough, stand for it
  pub written_back : (b : List ℕ) → state_size ≤ length b → state_of_bytes (with_state (encode m) b) ≡ encode m
  unfolding with_state
  written_back b h =
      let after = bytes_of_state (encode m) ++ drop state_size b in
      ap state_of_bytes (cond-false (ltb (length b) state_size) b after (le-ltb (length b) state_size h)) ∙
      state-back (encode m) (drop state_size b) shape fits

  few : (encode m).task_count ≤ task_limit
  unfolding encode
  few = sizes.count

  pub written_read : (b : List ℕ) → state_size ≤ length b → readable (with_state (encode m) b) ≡ true
  unfolding with_state
  written_read b h =
      let after = bytes_of_state (encode m) ++ drop state_size b in
      ap readable (cond-false (ltb (length b) state_size) b after (le-ltb (length b) state_size h)) ∙
      written-readable (encode m) (drop state_size b) shape fits few

-- after a fresh start
pub fresh-readable : (s : Setup) (b : List ℕ) → state_size ≤ length b → readable (fresh_bytes s b) ≡ true
unfolding fresh_bytes fresh_of
fresh-readable s b h = written_read (fresh s).model (fresh-sound s) b h

pub fresh-back : (s : Setup) (b : List ℕ) → state_size ≤ length b → state_of_bytes (fresh_bytes s b) ≡ (fresh_of s).state
unfolding fresh_bytes fresh_of
fresh-back s b h = written_back (fresh s).model (fresh-sound s) b h

-- after an event
module _ (b : List ℕ) (e : Event) (h : readable b ≡ true) (d : delay_fits e ≡ true) where
  abbrev s : State
  s = state_of_bytes b

  number_is : event_number b e ≡ number_of (applied_of s e).answer
  unfolding event_number
  number_is = read_answer b (number_of (applied_of s e).answer) h

  -- what is written where the answer is 0, and what stays
  bytes-are : event_bytes b e ≡ cond (eqb (number_of (applied_of s e).answer) 0) (with_state (applied_of s e).state b) b
  unfolding event_bytes
  bytes-are = ap (λ (n : ℕ). cond (eqb n 0) (with_state (applied_of s e).state b) b) number_is

  abbrev Held : Stepped → Type 0
  Held r = state_of_bytes (cond (eqb (number_of r.answer) 0) (with_state r.state b) b) ≡ r.state

  long : state_size ≤ length b
  long = read-long b h

  abbrev Kept : Stepped → Type 0
  Kept r = readable (cond (eqb (number_of r.answer) 0) (with_state r.state b) b) ≡ true

  read-when-sound : sound_of s ≡ true → Kept (answered s (apply (view s) e))
  unfolding answered
  read-when-sound g = by-test (eqb (number_of (apply (view s) e).answer) 0)
    where
      m : Model
      m = (apply (view s) e).model

      by-test : (t : Bool) → readable (cond t (with_state (cond t (encode m) s) b) b) ≡ true
      by-test true = written_read m (sound-kept (view s) e d (view-sound s g)) b long
      by-test false = h

  when-sound : sound_of s ≡ true → Held (answered s (apply (view s) e))
  unfolding answered
  when-sound g = by-test (eqb (number_of (apply (view s) e).answer) 0)
    where
      m : Model
      m = (apply (view s) e).model

      by-test : (t : Bool) → state_of_bytes (cond t (with_state (cond t (encode m) s) b) b) ≡ cond t (encode m) s
      by-test true = written_back m (sound-kept (view s) e d (view-sound s g)) b long
      by-test false = refl

  -- readable bytes stay readable
  pub event-readable : readable (event_bytes b e) ≡ true
  unfolding applied_of
  event-readable = ap readable bytes-are ∙ both (sound_of s) refl
    where
      both : (t : Bool) → sound_of s ≡ t → Kept (cond t (answered s (apply (view s) e)) (unsound s))
      both true g = read-when-sound g
      both false g = h

  pub event-back : state_of_bytes (event_bytes b e) ≡ (applied_of s e).state
  unfolding applied_of
  event-back = ap state_of_bytes bytes-are ∙ both (sound_of s) refl
    where
      both : (t : Bool) → sound_of s ≡ t → Held (cond t (answered s (apply (view s) e)) (unsound s))
      both true g = when-sound g
      both false g = refl
