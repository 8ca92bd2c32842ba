-- Laws of the loop over a script, with what is held.
use Rattle.std.specs.Prelude.{Ok, Err}
use mathlib.Core.Path.{◌≡◌, refl, ap, sym, ◌∙◌}
use mathlib.Core.Bool.{true}
use mathlib.Core.List.{List, []}
use Prim.Native.Nat.{ℕ, zero, suc, ◌+◌, ◌*◌, ◌-◌, ◌≤◌, ◌<◌}
use native.Mathlib.Omega.{arith}
use native.Mathlib.Numerals.{add-one}
use borrow.Author.Tests.{ltb-true, ltb-false}
use lib.ListN.{length}
use Rattle.rules.specs.Limits.{object_limit}
use Rattle.rules.specs.Model.{ceiling_of, highest_of}
use Rattle.rules.specs.Sound.{rising}
use Rattle.rules.proofs.HeldLaws.{rising-push, rising-take}
use Rattle.format.specs.Answers.{first, Verdict}
use Rattle.words.specs.Words.{byte_at, word_at}
use Rattle.format.specs.Limits.{step_size, work_code}
use Rattle.format.specs.Format.{task_count, object_count, part_at}
use Rattle.format.specs.Steps.{step_of, step_count, steps_of, step_in}
use Rattle.format.specs.Roster.{roster_of}
use Rattle.format.specs.Form.{names_listed, form_of}
use Rattle.format.specs.Check.{held_after, held_before, while_held, low_ceiling, not_innermost, other_task}
use Rattle.format.specs.Check.{fault_of, fault_in, steps_fault}
use Rattle.roster.specs.Listed.{Listed, AllListed}
use Rattle.format.specs.declared.Fault.{Fault}
use Rattle.format.specs.declared.Step.{Step}
use Rattle.format.specs.declared.Step.TheVariants.{Enter, Leave, Delay, Work, Suspend, Release, Set, Again, Finish}
use Rattle.format.proofs.TestLaws.{first-new, first_more, first_below, turn-finds, turn-passes}
use Rattle.format.proofs.FormatLaws.{ceiling-count}
use Rattle.format.proofs.StepLaws.{step-read}
use Rattle.format.proofs.FormedLaws.{objects-few, part-listed}
use Rattle.format.proofs.WalkLaws.{Clean, clean, held-room}

-- a step without a fault keeps the ceilings from falling
rising-after : (cs : List ℕ) (top : ℕ) (held : List ℕ) (t : ℕ) (x : Step) → rising cs top held ≡ true → Clean cs top held t x →
    rising cs top (held_after held x) ≡ true
unfolding held_after low_ceiling
rising-after cs top held t (Enter o) e r = rising-push cs top o held e (ltb-false (ceiling_of cs o) (highest_of cs top held) r.high)
rising-after cs top held t (Leave o) e r = rising-take cs top (length held - 1) held e
rising-after cs top held t (Delay d) e r = e
rising-after cs top held t Work e r = e
rising-after cs top held t Suspend e r = e
rising-after cs top held t (Release u) e r = e
rising-after cs top held t (Set u p) e r = e
rising-after cs top held t Again e r = e
rising-after cs top held t Finish e r = e

-- the loop over a script, for its first fault, with what is held
module _ (cs : List ℕ) (top t : ℕ) (steps : List Step) where
  pub record WalkedTo (k : ℕ) (held : List ℕ) : Type 0 where
    pub passed : first k (fault_in cs top t steps) ≡ Ok tt
    pub same : held ≡ held_before steps k

  pub walk-starts : WalkedTo 0 []
  unfolding first held_before
  walk-starts = record { passed = refl; same = refl }

  rising-before : (k : ℕ) → first k (fault_in cs top t steps) ≡ Ok tt → rising cs top (held_before steps k) ≡ true
  unfolding held_before fault_in rising
  rising-before zero e = refl
  rising-before (suc k) e =
      let b = first_below (fault_in cs top t steps) k e in
      let held = held_before steps k in
      rising-after cs top held t (step_in steps k) (rising-before k b.0) (clean cs top held t k (step_in steps k) b.1)

  pub walk-rises : (k : ℕ) (held : List ℕ) → WalkedTo k held → rising cs top held ≡ true
  walk-rises k held r = ap (rising cs top) r.same ∙ rising-before k r.passed

  -- a turn: its fault, and what is held after it
  module _ (k : ℕ) (held : List ℕ) (x : Step) (r : WalkedTo k held) (read : x ≡ step_in steps k) where
    here : (v : Verdict) → v ≡ fault_of cs top held t k x → v ≡ fault_in cs top t steps k
    unfolding fault_in
    here v e = let f = r.same in cc

    next : held_after held x ≡ held_before steps (suc k)
    unfolding held_before
    next = let f = r.same in cc

    pub walk-stops : (e : Fault) → k ≤ length steps → Err e ≡ fault_of cs top held t k x → Err e ≡ steps_fault cs top t steps
    unfolding steps_fault
    walk-stops e h f = turn-finds (fault_in cs top t steps) (suc (length steps)) k e (omega arith) r.passed (here (Err e) f)

    pub walk-goes : Ok tt ≡ fault_of cs top held t k x → WalkedTo (k + 1) (held_after held x)
    walk-goes e =
        record {
          passed = turn-passes (fault_in cs top t steps) k r.passed (here (Ok tt) e);
          same = next ∙ ap (held_before steps) (sym (add-one k));
        }

    pub walk-room : AllListed (length cs) steps → length cs ≤ object_limit → Ok tt ≡ fault_of cs top held t k x →
        length (held_after held x) ≤ object_limit
    walk-room listed few e =
        let p = first_more (fault_in cs top t steps) k r.passed (sym (here (Ok tt) e)) in
        omega (arith, ap length next, held-room listed.0 (length cs) cs top t steps listed.1 (suc k) p)

    -- the script's end counts as the step after the last
    pub walk-ends : (v : Verdict) (n : ℕ) → k ≡ n → n ≡ length steps → v ≡ fault_of cs top held t n x → v ≡ steps_fault cs top t steps
    unfolding steps_fault
    walk-ends v n g h e =
        let f = fault_in cs top t steps in
        here v (e ∙ ap (λ (j : ℕ). fault_of cs top held t j x) (sym g)) ∙
        (ap f (g ∙ h) ∙ sym (first-new f (length steps) (ap (λ (j : ℕ). first j f) (sym (g ∙ h)) ∙ r.passed)))

-- a Work breaks nothing and leaves held what it found
module _ (part : List ℕ) (k : ℕ) (low : k < step_count part) (code : byte_at part (step_size * k) ≡ work_code) where
  is-work : Work ≡ step_in (steps_of part) k
  unfolding step_of
  is-work =
      sym (step-read part k low ∙
      ap (λ (n : ℕ). step_of n (byte_at part (step_size * k + 1)) (word_at part (step_size * k + 2))) code)

  pub walk-works : (cs : List ℕ) (top t : ℕ) (held : List ℕ) → WalkedTo cs top t (steps_of part) k held →
      WalkedTo cs top t (steps_of part) (k + 1) held
  unfolding fault_of while_held low_ceiling not_innermost other_task held_after
  walk-works cs top t held r = walk-goes cs top t (steps_of part) k held Work r is-work refl

-- what a script names is listed at each step
pub listed_at : (m : ℕ) (steps : List Step) (k : ℕ) (x : Step) → AllListed m steps → x ≡ step_in steps k → Listed m x
listed_at m steps k x listed e = (listed.0, ap (names_listed listed.0 m) e ∙ listed.1 k)

-- an object that is entered is listed
pub enter-listed : (m o : ℕ) (x : Step) → Listed m x → x ≡ Enter o → o < m
unfolding names_listed
enter-listed m o x listed e = ltb-true o m (ap (names_listed listed.0 m) (sym e) ∙ listed.1)

-- what the form gives the walk: as many ceilings as fit, and steps that name what is listed
pub walk-given : (s : List ℕ) → form_of s ≡ Ok tt → (t : ℕ) (part cs : List ℕ) → t < task_count s → part ≡ part_at s t →
    cs ≡ (roster_of s).ceilings → (length cs ≤ object_limit) × (AllListed (length cs) (steps_of part))
walk-given s ok t part cs h e f =
    let count : length cs ≡ object_count s = ap length f ∙ ceiling-count s in (
      omega (arith, objects-few s ok),
      (task_count s, λ k. ap (λ (m : ℕ). names_listed (task_count s) m (step_in (steps_of part) k)) count ∙ part-listed s ok t part h e k),
    )
