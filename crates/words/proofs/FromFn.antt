-- What an array is that `from_fn` makes by a closure which changes nothing.
use Rattle.std.proofs.Common.{◌≡◌, ℕ, zero, suc, ◌+◌, ◌<◌, ◌≤◌, List, get_or, subst, ◌∙◌, arith, inl, inr}
use Rattle.std.specs.Fn.{Mut, Called}
use Rattle.std.proofs.Math.Nat.{eq-or-lt_of_le}
use Rattle.std.specs.Array.{IsFromFnResult, IsFromFnResultFrom}

module _ {F B : Type 0} (g : Mut F (ℕ × Unit {0}) B) (f : F) (ys : List B) (d : B) (h : ℕ → B)
    (pure : (x : ℕ) (y : B) (q : F) → Called g f (x, tt) y q → (q ≡ f) × (y ≡ h x)) where
  made_from : (n i : ℕ) → IsFromFnResultFrom g f ys i n → (k : ℕ) → i ≤ k → k < i + n → get_or ys k d ≡ h k
  made_from zero i r k a b = absurd (omega arith)
  made_from (suc n) i (q, y, e, c, r) k a b =
      let t = pure i y q c in
      let rest = subst (λ p. IsFromFnResultFrom g p ys (i + 1) n) t.0 r in
      let here : (i ≡ k) → get_or ys k d ≡ h k = λ z. subst (λ j. get_or ys j d ≡ h j) z (e.1 d ∙ t.1) in
      elim (eq-or-lt_of_le a) [ inl z ↦ here z | inr l ↦ made_from n (i + 1) rest k (omega arith) (omega arith) ]

-- the closure gives h of each index
pub made_as : {F B : Type 0} {g : Mut F (ℕ × Unit {0}) B} {f : F} {ys : List B} {n : ℕ} (d : B) (h : ℕ → B) → IsFromFnResult g f ys n →
    ((x : ℕ) (y : B) (q : F) → Called g f (x, tt) y q → (q ≡ f) × (y ≡ h x)) → (k : ℕ) → k < n → get_or ys k d ≡ h k
made_as {F} {B} {g} {f} {ys} {n} d h r pure k b = made_from g f ys d h pure n 0 r.each k (omega arith) (omega arith)

pub made_at : {F : Type 0} {g : Mut F (ℕ × Unit {0}) ℕ} {f : F} {ys : List ℕ} {n : ℕ} (h : ℕ → ℕ) → IsFromFnResult g f ys n →
    ((x y : ℕ) (q : F) → Called g f (x, tt) y q → (q ≡ f) × (y ≡ h x)) → (k : ℕ) → k < n → get_or ys k 0 ≡ h k
made_at h = made_as 0 h
