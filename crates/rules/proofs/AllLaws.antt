-- Laws of a test of every element of a list, for a loop that stops at the first that fails.
use mathlib.Core.Path.{◌≡◌, ap, ◌∙◌}
use mathlib.Core.Bool.{Bool, true, false, ◌&&◌}
use mathlib.Core.List.{List}
use Prim.Native.Nat.{ℕ, suc, ◌+◌, ◌≤◌, ◌<◌}
use native.Mathlib.Numerals.{add-one}
use lib.ListN.{length, drop, get_or, drop_of_length-le}
use lib.Seq.{drop-cons}
use Rattle.rules.specs.Lists.{all_of}

module _ (f : ℕ → Bool) (l : List ℕ) (i : ℕ) (e : all_of f l ≡ all_of f (drop i l)) where
  -- a turn that goes on, one that stops, and the end
  pub all_more : i < length l → f (get_or l i 0) ≡ true → all_of f l ≡ all_of f (drop (i + 1) l)
  unfolding all_of
  all_more h g = e ∙ rw (add-one, drop-cons l i 0 h) (ap (λ (b : Bool). b && all_of f (drop (suc i) l)) g)

  pub all-fails : i < length l → f (get_or l i 0) ≡ false → all_of f l ≡ false
  unfolding all_of
  all-fails h g = e ∙ rw (drop-cons l i 0 h) (ap (λ (b : Bool). b && all_of f (drop (suc i) l)) g)

  pub all_end : length l ≤ i → all_of f l ≡ true
  unfolding all_of
  all_end h = e ∙ rw (drop_of_length-le l {i = i} h)
