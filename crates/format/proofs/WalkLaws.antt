-- Laws of a script's walk: what a step without a fault says, and that what is held stays distinct and listed.
use Rattle.std.specs.Prelude.{Ok, Err}
use mathlib.Core.Path.{◌≡◌, refl, ap}
use mathlib.Core.Bool.{true, false, not}
use mathlib.Core.List.{List, [], ◌∷◌, ◌++◌}
use Prim.Native.Nat.{ℕ, zero, suc, ◌-◌, ◌≤◌}
use native.Mathlib.Omega.{arith}
use borrow.Author.Tests.{ltb-true, ltb-false, lt-leb}
use lib.Dec.{leb, ltb}
use lib.ListN.{length, take}
use Rattle.rules.specs.Lists.{times_in}
use Rattle.rules.specs.Lists.{all_of}
use Rattle.rules.specs.Sound.{distinct}
use Rattle.rules.proofs.HeldLaws.{distinct_push, distinct-take, all_push, all_take, held-most}
use Rattle.format.specs.Answers.{first}
use Rattle.format.specs.Steps.{step_in}
use Rattle.format.specs.Form.{names_listed}
use Rattle.format.specs.Check.{is_held, held_after, held_before, while_held, low_ceiling}
use Rattle.format.specs.Check.{not_innermost, other_task, fault_of, fault_in}
use Rattle.format.specs.declared.Step.{Step}
use Rattle.format.specs.declared.Step.TheVariants.{Enter, Leave, Delay, Work, Suspend, Release, Set, Again, Finish}
use Rattle.format.specs.declared.Fault.TheVariants.{WhileHeld, LowCeiling, NotInnermost, OtherTask}
use Rattle.format.proofs.TestLaws.{past, first_below}

-- a step without a fault breaks none of the rules
pub record Clean (cs : List ℕ) (top : ℕ) (held : List ℕ) (t : ℕ) (x : Step) : Type 0 where
  pub free : while_held held x ≡ false
  pub high : low_ceiling cs top held x ≡ false
  pub inner : not_innermost held x ≡ false
  pub own : other_task t x ≡ false

module _ (cs : List ℕ) (top : ℕ) (held : List ℕ) (t k : ℕ) (x : Step) where
  pub clean : fault_of cs top held t k x ≡ Ok tt → Clean cs top held t x
  unfolding fault_of
  clean e =
      let a = past (while_held held x) (Err (WhileHeld t k)) _ refl e in
      let b = past (low_ceiling cs top held x) (Err (LowCeiling t k)) _ refl a.1 in
      let d = past (not_innermost held x) (Err (NotInnermost t k)) _ refl b.1 in
      let f = past (other_task t x) (Err (OtherTask t k)) _ refl d.1 in
      record { free = a.0; high = b.0; inner = d.0; own = f.0 }

  pub faultless : Clean cs top held t x → fault_of cs top held t k x ≡ Ok tt
  unfolding fault_of
  faultless r = simp (r.free, r.high, r.inner, r.own)

-- distinct objects of the first m
record Distinct (m : ℕ) (held : List ℕ) : Type 0 where
  once : distinct held ≡ true
  low : all_of (λ o. not (leb m o)) held ≡ true

distinct-enter : (m o : ℕ) (held : List ℕ) → Distinct m held → is_held held o ≡ false → ltb o m ≡ true → Distinct m (held ++ (o ∷ []))
distinct-enter m o held d e f =
    record {
      once = distinct_push held o d.once (omega (arith, ltb-false 0 (times_in o held) e));
      low = all_push (λ i. not (leb m i)) held o d.low (ap not (lt-leb m o (ltb-true o m f)));
    }

distinct-leave : (m n : ℕ) (held : List ℕ) → Distinct m held → Distinct m (take n held)
distinct-leave m n held d = record { once = distinct-take n held d.once; low = all_take (λ i. not (leb m i)) n held d.low }

-- a step keeps them so
distinct-after : (n m : ℕ) (cs : List ℕ) (top : ℕ) (held : List ℕ) (t : ℕ) (x : Step) →
    Distinct m held → Clean cs top held t x → names_listed n m x ≡ true → Distinct m (held_after held x)
unfolding held_after while_held names_listed
distinct-after n m cs top held t (Enter o) d r e = distinct-enter m o held d r.free e
distinct-after n m cs top held t (Leave o) d r e = distinct-leave m (length held - 1) held d
distinct-after n m cs top held t (Delay b) d r e = d
distinct-after n m cs top held t Work d r e = d
distinct-after n m cs top held t Suspend d r e = d
distinct-after n m cs top held t (Release u) d r e = d
distinct-after n m cs top held t (Set u p) d r e = d
distinct-after n m cs top held t Again d r e = d
distinct-after n m cs top held t Finish d r e = d

module _ (n m : ℕ) (cs : List ℕ) (top t : ℕ) (steps : List Step) (listed : (k : ℕ) → names_listed n m (step_in steps k) ≡ true) where
  distinct-before : (k : ℕ) → first k (fault_in cs top t steps) ≡ Ok tt → Distinct m (held_before steps k)
  unfolding held_before fault_in distinct all_of
  distinct-before zero e = record { once = refl; low = refl }
  distinct-before (suc k) e =
      let b = first_below (fault_in cs top t steps) k e in
      let held = held_before steps k in
      distinct-after n m cs top held t (step_in steps k) (distinct-before k b.0) (clean cs top held t k (step_in steps k) b.1)
      (listed k)

  -- so that they have room
  pub held-room : (k : ℕ) → first k (fault_in cs top t steps) ≡ Ok tt → length (held_before steps k) ≤ m
  held-room k e = let d = distinct-before k e in held-most m (held_before steps k) d.low d.once
