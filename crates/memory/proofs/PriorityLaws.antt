-- Laws of the highest of a priority and the ceilings of a list: as a loop finds it, and where the ceilings do not fall.
use mathlib.Core.Path.{◌≡◌, ◌∙◌, sym}
use mathlib.Core.List.{List}
use Prim.Native.Nat.{ℕ, ◌+◌, ◌-◌, ◌≤◌, ◌<◌, max}
use native.Mathlib.Numerals.{add-one}
use native.Mathlib.Omega.{arith}
use lib.ListN.{length, drop, get_or, drop_of_length-le}
use lib.Seq.{drop-cons}
use Rattle.rules.specs.Model.{Model, task_at, ceiling_of, highest_of, active}
use Rattle.rules.proofs.HeldLaws.{highest-innermost}
use Rattle.memory.specs.Memory.{Rises}

pub raise-more : (cs l : List ℕ) (p a a' i : ℕ) → i < length l → a' ≡ max a (ceiling_of cs (get_or l i 0)) →
    highest_of cs p l ≡ highest_of cs a (drop i l) → highest_of cs p l ≡ highest_of cs a' (drop (i + 1) l)
unfolding highest_of
raise-more cs l p a a' i h e f = f ∙ rw (e, add-one, drop-cons l i 0 h)

pub raise-end : (cs l : List ℕ) (p a i : ℕ) → length l ≤ i → highest_of cs p l ≡ highest_of cs a (drop i l) → a ≡ highest_of cs p l
unfolding highest_of
raise-end cs l p a i h f = sym (f ∙ rw (drop_of_length-le l {i = i} h))

-- of a task whose ceilings do not fall, the innermost ceiling is the active priority
pub active-rises : (m : Model) (t : ℕ) → Rises m t → 0 < length (task_at m t).held →
    ceiling_of m.ceilings (get_or (task_at m t).held (length (task_at m t).held - 1) 0) ≡ active m t
active-rises m t r h = highest-innermost m.ceilings (task_at m t).base (task_at m t).held r (omega (arith, h))
