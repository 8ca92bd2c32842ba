-- Laws of bytes in range: by the ways of the code, and of the bytes that a state is written as.
use mathlib.Core.Path.{◌≡◌, refl, ap, sym, ◌∙◌}
use mathlib.Core.Bool.{Bool, true, false, ◌&&◌}
use mathlib.Core.List.{List, [], ◌∷◌, ◌++◌, append_assoc, map, flat_map}
use Prim.Native.Nat.{ℕ, zero, suc, ◌+◌, ◌*◌, ◌≤◌, ◌<◌}
use native.Mathlib.Nat.{not-suc-le-zero, le_of_suc-le-suc}
use native.Mathlib.Omega.{arith}
use native.Mathlib.Numerals.{add-one}
use borrow.Author.Tests.{lt-leb, le-leb, leb-true}
use lib.Dec.{leb}
use lib.ListN.{length, length-append}
use Rattle.rules.specs.Limits.{task_limit}
use Rattle.rules.specs.Lists.{below}
use Rattle.std.specs.Prelude.{None, Option, Some, Err}
use Rattle.rules.specs.Answers.{number_of}
use Rattle.rules.specs.declared.Refusal.TheVariants.{Unsound}
use Rattle.rules.specs.declared.Priority.{Priority}
use Rattle.rules.specs.declared.Place.{Place}
use Rattle.rules.specs.declared.Place.TheVariants.{Running, Ready, Delayed, Suspended, Ended}
use Rattle.rules.specs.declared.Task.{Task}
use Rattle.rules.specs.Kinds.{kind_of, kind_number, ended_code}
use Rattle.rules.specs.Priorities.{level}
use Rattle.dispatch.specs.declared.State.{State}
use Rattle.dispatch.proofs.Known.{Shaped}
use Rattle.rules.proofs.Choices.{clash, and_left, and-make, cond-true, cond-false}
use Rattle.rules.proofs.SoundLaws.{below_at, below-make}
use Rattle.words.specs.Words.{byte_at}
use Rattle.cells.specs.Sizes.{task_count_at, tasks_start, task_size, kind_offset, waits_offset, permit_offset, state_size}
use Rattle.cells.specs.Decode.{state_of_bytes}
use Rattle.cells.specs.InRange.{row_in_range, rows_in_range, readable, unless_unreadable}
use Rattle.cells.specs.Encode.{low_bytes, waits_byte, bit, task_tail, task_bytes, head_bytes, bytes_of_state, Fits}
use Rattle.cells.proofs.PutLaws.{task-length}
use Rattle.cells.proofs.WriteLaws.{head-length, state-length}
use Rattle.cells.proofs.BackLaws.{byte-behind, around-tasks, state-back}

-- the rows of the listed tasks
abbrev pub row_at : List ℕ → ℕ → Bool
row_at s t = row_in_range s (tasks_start + task_size * t)

pub rows_none : (s : List ℕ) → below 0 (row_at s) ≡ true
unfolding below
rows_none s = refl

pub rows_more : (s : List ℕ) (t : ℕ) → below t (row_at s) ≡ true → row_at s t ≡ true → below (t + 1) (row_at s) ≡ true
unfolding below
rows_more s t e f = rw add-one (and-make _ _ e f)

module _ (s : List ℕ) (n : ℕ) (e : n ≡ byte_at s task_count_at) where
  rows_are : rows_in_range s ≡ (leb n task_limit && below n (row_at s))
  unfolding rows_in_range
  rows_are = rw e

  pub rows-many : task_limit < n → false ≡ rows_in_range s
  rows-many h = sym (rows_are ∙ ap (λ (b : Bool). b && below n (row_at s)) (lt-leb n task_limit h))

  rows_few : n ≤ task_limit → rows_in_range s ≡ below n (row_at s)
  rows_few h = rows_are ∙ ap (λ (b : Bool). b && below n (row_at s)) (le-leb n task_limit h)

  pub rows-fail : (t : ℕ) → n ≤ task_limit → t < n → row_at s t ≡ false → false ≡ rows_in_range s
  rows-fail t h g f = go (below n (row_at s)) refl
    where
      go : (b : Bool) → below n (row_at s) ≡ b → false ≡ rows_in_range s
      go true k = clash (sym (below_at n (row_at s) k t g) ∙ f)
      go false k = sym (rows_few h ∙ k)

  pub rows_all : (t : ℕ) → n ≤ task_limit → t ≤ n → n ≤ t → below t (row_at s) ≡ true → true ≡ rows_in_range s
  rows_all t h g k f =
      let same : t ≡ n = omega arith in
      sym (rows_few h ∙ (ap (λ (m : ℕ). below m (row_at s)) (sym same) ∙ f))

pub read-long : (s : List ℕ) → readable s ≡ true → state_size ≤ length s
read-long s e = leb-true state_size (length s) (and_left (leb state_size (length s)) (rows_in_range s) e)

read-rows : (s : List ℕ) → state_size ≤ length s → readable s ≡ rows_in_range s
read-rows s h = ap (λ (b : Bool). b && rows_in_range s) (le-leb state_size (length s) h)

-- what is written is in range
kind-small : (x : Place) → leb (kind_number (kind_of x)) ended_code ≡ true
kind-small Running = refl
kind-small Ready = refl
kind-small (Delayed d) = refl
kind-small Suspended = refl
kind-small Ended = refl

waits-small : (w : Option Priority) → leb (waits_byte w) 1 ≡ true
waits-small None = refl
waits-small (Some p) = refl

bit-small : (b : Bool) → leb (bit b) 1 ≡ true
bit-small true = refl
bit-small false = refl

row_here : (p r : List ℕ) (n : ℕ) → length p ≡ n → (k : Task) → row_in_range (p ++ (task_bytes k ++ r)) n ≡ true
unfolding row_in_range task_bytes low_bytes task_tail
row_here p r n e k =
    rw (
      byte-behind p (task_bytes k ++ r) n e kind_offset (n + kind_offset) refl,
      byte-behind p (task_bytes k ++ r) n e waits_offset (n + waits_offset) refl,
      byte-behind p (task_bytes k ++ r) n e permit_offset (n + permit_offset) refl,
      kind-small k.place,
      waits-small k.waiting,
      bit-small k.permit,
    )

rows-here : (ks : List Task) (p r : List ℕ) (n t : ℕ) → length p ≡ n → t < length ks →
    row_in_range (p ++ (flat_map task_bytes ks ++ r)) (n + task_size * t) ≡ true
unfolding flat_map
rows-here [] p r n t e h = absurd (not-suc-le-zero h)
rows-here (k ∷ ks) p r n zero e h =
    let start : n + task_size * 0 ≡ n = omega arith in
    let rest = flat_map task_bytes ks in
    rw (start, append_assoc (task_bytes k) rest r) (row_here p (rest ++ r) n e k)
rows-here (k ∷ ks) p r n (suc t) e h =
    let next : n + task_size * suc t ≡ n + task_size + task_size * t = omega arith in
    let rest = flat_map task_bytes ks in
    let size : length (p ++ task_bytes k) ≡ n + task_size = length-append p (task_bytes k) ∙ omega (arith, task-length k) in
    rw (next, append_assoc (task_bytes k) rest r, ← append_assoc p (task_bytes k) (rest ++ r))
    (rows-here ks (p ++ task_bytes k) r (n + task_size) t size (le_of_suc-le-suc h))

-- the bytes of a state, whatever is behind them, are readable
module _ (s : State) (r : List ℕ) (d : Shaped s) (g : Fits s) (few : s.task_count ≤ task_limit) where
  abbrev whole : List ℕ
  whole = bytes_of_state s ++ r

  count-byte : s.task_count ≡ byte_at whole task_count_at
  unfolding state_of_bytes
  count-byte = sym (ap (λ (x : State). x.task_count) (state-back s r d g))

  each_row : (t : ℕ) → t < s.task_count → row_at whole t ≡ true
  each_row t h =
      ap (λ (l : List ℕ). row_at l t) (around-tasks s r d g) ∙
      rows-here s.tasks (head_bytes s) (map level s.ceilings ++ (s.held ++ (s.queues ++ r))) tasks_start t (head-length s)
      (omega (arith, d.tasks))

  pub written-readable : readable whole ≡ true
  written-readable =
      let long : state_size ≤ length whole = omega (arith, length-append (bytes_of_state s) r, state-length s d) in
      read-rows whole long ∙
      sym (rows_all whole s.task_count count-byte s.task_count few (omega arith) (omega arith)
      (below-make s.task_count (row_at whole) each_row))

-- unreadable bytes, or readable
pub unread-answer : (b : List ℕ) (n : ℕ) → readable b ≡ false → unless_unreadable b n ≡ number_of (Err Unsound)
unread-answer b n h = cond-false (readable b) n (number_of (Err Unsound)) h

pub read_answer : (b : List ℕ) (n : ℕ) → readable b ≡ true → unless_unreadable b n ≡ n
read_answer b n h = cond-true (readable b) n (number_of (Err Unsound)) h
