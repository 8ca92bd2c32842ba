-- Laws of bytes that are put one behind the other.
use mathlib.Core.Path.{◌≡◌, refl, ap, sym, ◌∙◌}
use mathlib.Core.List.{List, [], ◌∷◌, ◌++◌, flat_map}
use Prim.Native.Nat.{ℕ, zero, suc, ◌+◌, ◌*◌, ◌/◌, ◌≤◌, ◌<◌}
use native.Mathlib.Omega.{arith}
use lib.ListN.{length, get_or, drop, drop_of_length-le, length-append}
use lib.Seq.{sets, drop-cons}
use Rattle.words.proofs.CopyLaws.{sets-append}
use Rattle.rules.specs.declared.Task.{Task}
use Rattle.cells.specs.declared.head.Head.{Head}
use Rattle.cells.specs.Sizes.{task_size, tasks_start}
use Rattle.cells.specs.Encode.{low_bytes, due_of, task_tail, task_bytes, head_row}

pub put-behind : (l l' l'' xs ys : List ℕ) (i j : ℕ) → l' ≡ sets l i xs → l'' ≡ sets l' j ys → j ≡ i + length xs → l'' ≡ sets l i (xs ++ ys)
put-behind l l' l'' xs ys i j e f g =
    f ∙ (ap (λ (k : List ℕ). sets k j ys) e ∙ (ap (λ (k : ℕ). sets (sets l i xs) k ys) g ∙ sym (sets-append l i xs ys)))

-- the bytes of a number
pub low-length : (k n : ℕ) → length (low_bytes k n) ≡ k
unfolding low_bytes
low-length zero n = refl
low-length (suc k) n = ap suc (low-length k (n / 256))

-- task rows
pub task-length : (k : Task) → length (task_bytes k) ≡ task_size
unfolding task_bytes task_tail
task-length k =
    let due = low_bytes 8 (due_of k.place) in
    length-append due (task_tail k) ∙ omega (arith, low-length 8 (due_of k.place))

pub tasks-length : (ks : List Task) → length (flat_map task_bytes ks) ≡ task_size * length ks
unfolding flat_map
tasks-length [] = omega arith
tasks-length (k ∷ ks) =
    length-append (task_bytes k) (flat_map task_bytes ks) ∙ omega (arith, task-length k, tasks-length ks)

pub tasks-end : (whole : List ℕ) (ks : List Task) (out : List ℕ) (t : ℕ) → length ks ≤ t →
    whole ≡ sets out (tasks_start + task_size * t) (flat_map task_bytes (drop t ks)) → out ≡ whole
unfolding flat_map
tasks-end whole ks out t h g =
    sym (g ∙ ap (λ (l : List Task). sets out (tasks_start + task_size * t) (flat_map task_bytes l)) (drop_of_length-le ks {i = t} h))

module _ (whole : List ℕ) (ks : List Task) (out out' : List ℕ) (t : ℕ) where
  -- the next row is put
  pub task-turn : (k d : Task) → t < length ks → k ≡ get_or ks t d → out' ≡ sets out (tasks_start + task_size * t) (task_bytes k) →
      whole ≡ sets out (tasks_start + task_size * t) (flat_map task_bytes (drop t ks)) →
      whole ≡ sets out' (tasks_start + task_size * (t + 1)) (flat_map task_bytes (drop (t + 1) ks))
  unfolding flat_map
  task-turn k d h e f g =
      let j = tasks_start + task_size * t in
      let next : j + length (task_bytes k) ≡ tasks_start + task_size * (t + 1) = omega (arith, task-length k) in
      let more : suc t ≡ t + 1 = omega arith in
      let split : drop t ks ≡ k ∷ drop (t + 1) ks =
      drop-cons ks t d h ∙ (ap (λ (x : Task). x ∷ drop (suc t) ks) (sym e) ∙ ap (λ (n : ℕ). k ∷ drop n ks) more) in
      let rest = flat_map task_bytes (drop (t + 1) ks) in
      g ∙ (ap (λ (l : List Task). sets out j (flat_map task_bytes l)) split ∙
      (sets-append out j (task_bytes k) rest ∙
      (ap (λ (l : List ℕ). sets l (j + length (task_bytes k)) rest) (sym f) ∙ ap (λ (n : ℕ). sets out' n rest) next)))

-- the head
pub head-size : (h : Head) → length (head_row h) ≡ tasks_start
unfolding head_row low_bytes
head-size h = refl
