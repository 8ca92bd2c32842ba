-- Laws of a whole state, written part by part.
use mathlib.Core.Path.{◌≡◌, ap, sym, ◌∙◌}
use mathlib.Core.List.{List, ◌++◌, append_assoc, map, flat_map}
use Prim.Native.Nat.{ℕ, ◌*◌, ◌≤◌, ◌<◌}
use native.Mathlib.Omega.{arith}
use borrow.Author.Tests.{lt-ltb, le-ltb}
use lib.Dec.{ltb}
use lib.ListN.{length, drop, length-append, length-map}
use lib.Seq.{sets}
use Rattle.rules.proofs.Choices.{cond-true, cond-false}
use Rattle.rules.specs.Limits.{task_limit, object_limit}
use Rattle.rules.specs.Priorities.{level}
use Rattle.dispatch.proofs.Known.{Shaped}
use Rattle.dispatch.specs.declared.State.{State}
use Rattle.cells.specs.Sizes.{task_size, tasks_start, ceilings_start, held_start, queues_start, state_size}
use Rattle.cells.specs.Encode.{head_in, head_bytes, task_bytes, bytes_of_state, with_state}
use Rattle.words.proofs.CopyLaws.{sets_over}
use Rattle.cells.proofs.PutLaws.{put-behind, head-size, tasks-length}

pub head-length : (s : State) → length (head_bytes s) ≡ tasks_start
head-length s = head-size (head_in s)

-- what stands in front of the ceilings, of the held lists, of the queues
abbrev pub up_to_ceilings : State → List ℕ
up_to_ceilings s = head_bytes s ++ flat_map task_bytes s.tasks

abbrev pub up_to_held : State → List ℕ
up_to_held s = up_to_ceilings s ++ map level s.ceilings

abbrev pub up_to_queues : State → List ℕ
up_to_queues s = up_to_held s ++ s.held

module _ (s : State) (d : Shaped s) where
  tasks-size : length (flat_map task_bytes s.tasks) ≡ task_limit * task_size
  tasks-size = tasks-length s.tasks ∙ omega (arith, d.tasks)

  ceilings-size : length (map level s.ceilings) ≡ object_limit
  ceilings-size = length-map s.ceilings level ∙ d.ceilings

  pub front-one : length (up_to_ceilings s) ≡ ceilings_start
  front-one = length-append (head_bytes s) (flat_map task_bytes s.tasks) ∙ omega (arith, head-length s, tasks-size)

  pub front-two : length (up_to_held s) ≡ held_start
  front-two =
      length-append (up_to_ceilings s) (map level s.ceilings) ∙ omega (arith, front-one, ceilings-size)

  pub front-three : length (up_to_queues s) ≡ queues_start
  front-three =
      length-append (up_to_held s) s.held ∙
      omega (arith, front-two, d.held)

  same_bytes : (up_to_queues s) ++ s.queues ≡ bytes_of_state s
  unfolding bytes_of_state
  same_bytes = simp append_assoc

  pub state-length : length (bytes_of_state s) ≡ state_size
  state-length =
      ap length (sym same_bytes) ∙
      (length-append (up_to_queues s) s.queues ∙
      omega (arith, front-three, d.queues))

  -- the front, the held lists and the queues, one behind the other
  module _ (b b1 b2 b3 : List ℕ) (room : state_size ≤ length b)
      (front : b1 ≡ sets b 0 (head_bytes s ++ (flat_map task_bytes s.tasks ++ map level s.ceilings)))
      (held : b2 ≡ sets b1 held_start s.held) (queues : b3 ≡ sets b2 queues_start s.queues) where
    pub state-put : b3 ≡ with_state s b
    unfolding with_state
    state-put =
        let one =
        front ∙ ap (λ (l : List ℕ). sets b 0 l) (sym (append_assoc (head_bytes s) (flat_map task_bytes s.tasks) (map level s.ceilings))) in
        let two = put-behind b b1 b2 (up_to_held s) s.held 0 held_start one held (omega (arith, front-two)) in
        let three = put-behind b b2 b3 (up_to_queues s) s.queues 0 queues_start two queues (omega (arith, front-three)) in
        three ∙ (ap (λ (l : List ℕ). sets b 0 l) same_bytes ∙ (sets_over b (bytes_of_state s) state_size state-length room ∙
        sym (cond-false (ltb (length b) state_size) b (bytes_of_state s ++ drop state_size b) (le-ltb (length b) state_size room))))

-- too few bytes stay as they are
pub state-kept : (s : State) (b : List ℕ) → length b < state_size → b ≡ with_state s b
unfolding with_state
state-kept s b h = sym (cond-true (ltb (length b) state_size) b (bytes_of_state s ++ drop state_size b) (lt-ltb (length b) state_size h))
