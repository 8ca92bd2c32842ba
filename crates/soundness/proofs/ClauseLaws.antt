-- Laws of the clauses of soundness, each as its test says it.
use Rattle.std.proofs.Common.{◌≡◌, refl, ap, ◌∙◌, sym, Bool, true, false, not, ◌&&◌, cond, Option, None, Some, ℕ}
use Rattle.std.proofs.Common.{◌+◌, ◌≤◌, ◌<◌, eqb, length, arith, is_some, ◌⊎◌, inl, inr}
use Rattle.std.specs.Option.{option_eq}
use mathlib.Core.Bool.{beq}
use borrow.Author.Tests.{lt-ltb, le-ltb, eqb-true, leb-true}
use Rattle.rules.specs.Limits.{task_limit, object_limit, last_priority}
use Rattle.rules.specs.Model.{Model, TaskRecord, task_at, active}
use Rattle.rules.specs.Events.{inside}
use Rattle.rules.specs.Sound.{sizes_good, runs, is_running, is_ready, queued, in_one_place, is_none}
use Rattle.rules.specs.Lists.{times_in}
use Rattle.rules.specs.declared.Place.{Place}
use Rattle.rules.specs.declared.Place.TheVariants.{Running, Ready, Delayed, Suspended, Ended}
use Rattle.rules.specs.declared.Priority.{Priority}
use Rattle.rules.proofs.Choices.{and_left, and_right}
use Rattle.rules.proofs.SoundLaws.{stands-is}
use Rattle.memory.specs.Memory.{waiting_in}
use Rattle.soundness.proofs.TestedLaws.{active-few}
use Rattle.soundness.specs.Tested.{holder_here, waits_inside}

-- the sizes of a Model whose head is good
pub record Sizes (m : Model) : Type 0 where
  pub tasks : length m.tasks ≤ task_limit
  pub objects : length m.ceilings ≤ object_limit
  pub levels : length m.ready ≡ last_priority

pub sizes-are : (m : Model) → sizes_good m ≡ true → Sizes m
sizes-are m e =
    let lines = and_left _ _ (and_left _ _ e) in
    let counts = and_left _ _ lines in
    record {
      tasks = leb-true _ _ (and_right _ _ (and_left _ _ counts));
      objects = leb-true _ _ (and_right _ _ counts);
      levels = eqb-true _ _ (and_right _ _ lines);
    }

-- a number that has a priority is a task's, and so it is below the limit
pub queued_few : (m : Model) → sizes_good m ≡ true → (t p : ℕ) → 1 ≤ p → active m t ≡ p → t < task_limit
queued_few m s t p h e = omega (arith, active-few m t p h e, sizes-are m s)

-- a task in one place, as two tests
runs-is : (w : Option ℕ) (t : ℕ) → runs w t ≡ cond (option_eq eqb w (Some t)) 1 0
unfolding runs times_in
runs-is None t = refl
runs-is (Some u) t = refl

running-is : (x : Place) → is_running x ≡ cond (eqb (is_running x) 1) 1 0
unfolding is_running
running-is Running = refl
running-is Ready = refl
running-is (Delayed d) = refl
running-is Suspended = refl
running-is Ended = refl

same_bits : (a b : Bool) → eqb (cond a 1 0) (cond b 1 0) ≡ beq a b
same_bits true true = refl
same_bits true false = refl
same_bits false true = refl
same_bits false false = refl

pub place-one : (m : Model) (t n k : ℕ) (a b : Bool) (x : Place) → x ≡ (task_at m t).place → a ≡ option_eq eqb m.running (Some t) →
    b ≡ eqb (is_running x) 1 → n ≡ queued m.ready t → k ≡ is_ready x → in_one_place m t ≡ (beq a b && eqb n k)
place-one m t n k a b x e f g h i =
    let first : eqb (runs m.running t) (is_running x) ≡ beq a b =
    ap (λ (r : ℕ). eqb r (is_running x)) (runs-is m.running t ∙ ap (λ (c : Bool). cond c 1 0) (sym f)) ∙
    (ap (eqb (cond a 1 0)) (running-is x ∙ ap (λ (c : Bool). cond c 1 0) (sym g)) ∙ same_bits a b) in
    stands-is _ _ _ ∙ rw (← e, first, ← h, ← i)

-- who holds nothing, and who holds something
module _ (k : TaskRecord) where
  pub holder-free : length k.held ≡ 0 → (holder_here k && waits_inside k) ≡ is_none k.waiting
  holder-free e =
      let out : inside k ≡ false = le-ltb 0 (length k.held) (omega (arith, e)) in rw out

  pub holder-inside : (length k.held ≡ 0 → ⊥) → (holder_here k && waits_inside k) ≡ eqb (is_ready k.place + is_running k.place) 1
  holder-inside n =
      let within : inside k ≡ true = lt-ltb 0 (length k.held) (omega (arith, n)) in
      rw within (and-true _)
    where
      and-true : (b : Bool) → (b && true) ≡ b
      and-true true = refl
      and-true false = refl

pub none-is : (w : Option Priority) (b : Bool) → is_some w ≡ not b → b ≡ is_none (waiting_in w)
unfolding is_none waiting_in
none-is None true e = refl
none-is None false e = absurd (cc)
none-is (Some p) true e = absurd (cc)
none-is (Some p) false e = refl

pub here-yes : (x : Place) → (x ≡ Ready) ⊎ (x ≡ Running) → eqb (is_ready x + is_running x) 1 ≡ true
unfolding is_ready is_running
here-yes x (inl e) = rw e refl
here-yes x (inr e) = rw e refl

pub here-no : (x : Place) → (x ≡ Ready → ⊥) → (x ≡ Running → ⊥) → eqb (is_ready x + is_running x) 1 ≡ false
unfolding is_ready is_running
here-no Running a b = absurd (b refl)
here-no Ready a b = absurd (a refl)
here-no (Delayed d) a b = refl
here-no Suspended a b = refl
here-no Ended a b = refl
