-- A sound Model's state means that Model.
use Rattle.std.proofs.Common.{◌≡◌, refl, ap, ◌∙◌, sym, true, Option, None, Some, List, [], ◌∷◌, ◌++◌, map, ℕ, zero, suc, ◌-◌, ◌<◌, length}
use Rattle.std.proofs.Common.{take, get_or, replicate, arith}
use mathlib.Core.List.{map-map, map-id, map-append}
use Rattle.std.proofs.Math.ListN.{length-map, get_or-map}
use Rattle.std.proofs.lemmas.List.{take_at, get_or_past}
use Rattle.rules.specs.Limits.{task_limit, object_limit, last_priority}
use Rattle.rules.specs.Priorities.{level, priority}
use Rattle.rules.specs.Model.{Model, TaskRecord, blank, task_at, ceiling_of}
use Rattle.rules.specs.Sound.{sound}
use Rattle.rules.specs.declared.Task.{Task}
use Rattle.rules.specs.Clauses.{Numbers}
use Rattle.rules.proofs.Choices.{compare}
use Rattle.rules.proofs.SoundLaws.{sound-is}
use Rattle.rules.proofs.Soundness.{ready-room, held-room-of}
use Rattle.memory.specs.Rows.{held_width, queue_width}
use Rattle.memory.specs.Memory.{waiting_in, waiting_for, record_of, task_for, together, blank_task}
use Rattle.loading.specs.Loading.{padded, holding, held_lists}
use Rattle.loading.proofs.PaddedLaws.{padded-at, held-at, held-count}
use Rattle.loading.proofs.FlatLaws.{Short, lists_of}
use Rattle.dispatch.specs.State.{view, encode}

-- a record and what it holds, taken apart and put together
waiting-there : (w : Option ℕ) → waiting_in (waiting_for w) ≡ w
unfolding waiting_in waiting_for
waiting-there None = refl
waiting-there (Some p) = refl

together-there : (ks : List TaskRecord) → together (map task_for ks) (map holding ks) ≡ ks
unfolding together
together-there [] = refl
together-there (k ∷ ks) =
    let same : record_of (task_for k) (holding k) ≡ k = rw (waiting-there k.waiting) in
    ap (λ (x : TaskRecord). x ∷ together (map task_for ks) (map holding ks)) same ∙ ap (λ (v : List TaskRecord). k ∷ v) (together-there ks)

together-append : (a c : List Task) (b d : List (List ℕ)) → length a ≡ length b →
    together (a ++ c) (b ++ d) ≡ together a b ++ together c d
unfolding together
together-append [] c [] d e = refl
together-append [] c (y ∷ b) d e = absurd (omega arith)
together-append (x ∷ a) c [] d e = absurd (omega arith)
together-append (x ∷ a) c (y ∷ b) d e = ap (λ (v : List TaskRecord). record_of x y ∷ v) (together-append a c b d (omega arith))

pub together-length : (ks : List Task) (ls : List (List ℕ)) → length ks ≡ length ls → length (together ks ls) ≡ length ks
unfolding together
together-length [] ls e = refl
together-length (k ∷ ks) [] e = absurd (omega arith)
together-length (k ∷ ks) (l ∷ ls) e = ap suc (together-length ks ls (omega arith))

pub together-at : (ks : List Task) (ls : List (List ℕ)) (i : ℕ) → i < length ks → i < length ls →
    get_or (together ks ls) i blank ≡ record_of (get_or ks i blank_task) (get_or ls i [])
unfolding together
together-at [] ls i h g = absurd (omega arith)
together-at (k ∷ ks) [] i h g = absurd (omega arith)
together-at (k ∷ ks) (l ∷ ls) zero h g = refl
together-at (k ∷ ks) (l ∷ ls) (suc i) h g = together-at ks ls i (omega arith) (omega arith)

-- the records and the ceilings of a Model's state, and blank ones behind the last
pub tasks-at : (m : Model) (t : ℕ) → get_or (padded task_limit (map task_for m.tasks) blank_task) t blank_task ≡ task_for (task_at m t)
unfolding waiting_for
tasks-at m t = padded-at task_limit (map task_for m.tasks) blank_task t ∙ get_or-map task_for m.tasks t blank

pub ceilings-at : (cs : List ℕ) (o : ℕ) →
    get_or (padded object_limit (map priority cs) (priority 0)) o (priority 0) ≡ priority (ceiling_of cs o)
ceilings-at cs o = padded-at object_limit (map priority cs) (priority 0) o ∙ get_or-map priority cs o 0

-- what stands behind the last is not read
tasks-there : (m : Model) → take (length m.tasks) (together (padded task_limit (map task_for m.tasks) blank_task) (held_lists m)) ≡ m.tasks
unfolding padded
tasks-there m =
    let ks = m.tasks in
    let more = replicate (task_limit - length (map task_for ks)) blank_task in
    let empty = replicate (task_limit - length (map holding ks)) [] in
    let same = length-map ks task_for ∙ sym (length-map ks holding) in
    rw (together-append (map task_for ks) more (map holding ks) empty same, together-there ks)
    (take_at ks (together more empty) (length ks) refl)

ceilings-there : (cs : List ℕ) → take (length cs) (map level (padded object_limit (map priority cs) (priority 0))) ≡ cs
unfolding padded
ceilings-there cs =
    let more = replicate (object_limit - length (map priority cs)) (priority 0) in
    rw (map-append level (map priority cs) more, map-map level priority cs, map-id cs)
    (take_at cs (map level more) (length cs) refl)

-- a sound Model's lists have room
module _ (m : Model) (s : sound m ≡ true) where
  sizes : Numbers m
  sizes = (sound-is m s).numbers

  pub held-short : Short held_width (held_lists m)
  held-short t =
      rw (held-at m t)
      (compare (length m.tasks) t
      (λ g. omega (arith, ap (λ (k : TaskRecord). length k.held) (get_or_past m.tasks t blank g)))
      (λ g. omega (arith, held-room-of m s t g, sizes.objects)))

  pub queue-short : Short queue_width m.ready
  queue-short p = omega (arith, ready-room m s p, sizes.count)

  pub view-encode : view (encode m) ≡ m
  unfolding view encode
  view-encode =
      let held = lists_of held_width task_limit (held_lists m) (held-count m sizes.count) held-short in
      let ready = lists_of queue_width last_priority m.ready sizes.queues queue-short in
      rw (held, ready, tasks-there m, ceilings-there m.ceilings)
