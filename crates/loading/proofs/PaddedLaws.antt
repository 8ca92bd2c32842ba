-- Laws of lists that are filled up with blanks behind their last.
use Rattle.std.proofs.Common.{◌≡◌, refl, ◌∙◌, List, [], ◌∷◌, ◌++◌, map, ℕ, zero, suc, ◌-◌, ◌≤◌, length, get_or, replicate}
use Rattle.std.proofs.Common.{arith, length-append}
use Rattle.std.proofs.Math.ListN.{length-replicate, length-map, get_or-map}
use Rattle.rules.specs.Limits.{task_limit}
use Rattle.rules.specs.Model.{Model, blank, task_at}
use Rattle.loading.specs.Loading.{padded, holding, held_lists}

module _ {A : Type 0} where
  pub padded-length : (n : ℕ) (l : List A) (x : A) → length l ≤ n → length (padded n l x) ≡ n
  unfolding padded
  padded-length n l x h = simp (length-append, length-replicate) (omega arith)

  -- what stands behind the last reads as a default
  pub padded-at : (n : ℕ) (l : List A) (x : A) (i : ℕ) → get_or (padded n l x) i x ≡ get_or l i x
  unfolding padded
  padded-at n l x i = behind l (n - length l) i
    where
      blanks : (k i : ℕ) → get_or (replicate k x) i x ≡ x
      blanks zero i = refl
      blanks (suc k) zero = refl
      blanks (suc k) (suc i) = blanks k i

      behind : (l : List A) (k i : ℕ) → get_or (l ++ replicate k x) i x ≡ get_or l i x
      behind [] k i = blanks k i
      behind (y ∷ l) k zero = refl
      behind (y ∷ l) k (suc i) = behind l k i

-- what each task of a Model holds
pub held-at : (m : Model) (t : ℕ) → get_or (held_lists m) t [] ≡ (task_at m t).held
held-at m t = padded-at task_limit (map holding m.tasks) [] t ∙ get_or-map holding m.tasks t blank

pub held-count : (m : Model) → length m.tasks ≤ task_limit → length (held_lists m) ≡ task_limit
held-count m h = padded-length task_limit (map holding m.tasks) [] (omega (arith, length-map m.tasks holding))
