-- Laws of the scripts' parts, found once, and of the steps in them.
use Rattle.std.proofs.Common.{◌≡◌, ℕ, suc, ◌+◌, ◌<◌, ◌≤◌, List, Ok, length, get_or, set, take, drop, arith, refl, ap, sym, ◌∙◌, ltb, leb}
use borrow.Author.Tests.{leb-true, ltb-true, ltb-false}
use Rattle.std.proofs.lemmas.List.{length-take, length-drop}
use Rattle.std.proofs.lemmas.List.Edits.{fill_by_more}
use Rattle.rules.specs.Limits.{smallest_roster, largest_roster}
use Rattle.rules.proofs.Choices.{and_right}
use Rattle.format.specs.Format.{task_count, start_at, length_at, part_at}
use Rattle.format.specs.Form.{length_good, form_of}
use Rattle.format.specs.Steps.{step_count, steps_of, step_in}
use Rattle.format.specs.Roster.{roster_of}
use Rattle.format.specs.declared.Step.{Step}
use Rattle.format.specs.declared.Step.TheVariants.{Enter, Leave, Delay, Work, Suspend, Release, Set, Again, Finish}
use Rattle.format.proofs.TestLaws.{by-test}
use Rattle.format.proofs.StepLaws.{steps-past}
use Rattle.format.proofs.FormatLaws.{script-listed}
use Rattle.format.proofs.FormedLaws.{formed}
use Rattle.trace.specs.Config.{next_step, position_after}
use Rattle.turns.specs.declared.scripts.Part.{Part}
use Rattle.turns.specs.ScriptsView.{part_of}

-- one more is found
pub found-more : {A : Type 0} (f : ℕ → A) (d : A) (l : List A) (t : ℕ) (p : A) → t < length l → p ≡ f t →
    ((k : ℕ) → k < t → get_or l k d ≡ f k) → (k : ℕ) → k < t + 1 → get_or (set l t p) k d ≡ f k
found-more f d l t p h e before k below = rw e (fill_by_more f l t d h before k below)

-- where a task's script lies, as it was found: its bytes, and the step at a position of them
module _ (s : List ℕ) (t : ℕ) (p : Part) (found : p ≡ part_of s t) where
  start : p.start ≡ start_at s t
  start = ap (λ (q : Part). q.start) found

  size : p.length ≡ length_at s t
  size = ap (λ (q : Part). q.length) found

  pub part-fits : start_at s t + length_at s t ≤ length s → p.start + p.length ≤ length s
  part-fits h = omega (arith, start, size)

  pub part-read : (part : List ℕ) → part ≡ take p.length (drop p.start s) → part ≡ part_at s t
  unfolding part_at
  part-read part e = e ∙ ap (λ (q : Part). take q.length (drop q.start s)) found

pub step-found : (s : List ℕ) (t k : ℕ) (part : List ℕ) (x : Step) → t < task_count s → part ≡ part_at s t →
    x ≡ step_in (steps_of part) k → x ≡ next_step (roster_of s) t k
step-found s t k part x h e f =
    f ∙ (ap (λ (p : List ℕ). step_in (steps_of p) k) e ∙
    sym (ap (λ (l : List Step). step_in l k) (script-listed s t h)))

-- a step moves a position on by one at most
after-low : (k : ℕ) (x : Step) → position_after k x ≤ suc k
unfolding position_after
after-low k (Enter o) = omega arith
after-low k (Leave o) = omega arith
after-low k (Delay d) = omega arith
after-low k Work = omega arith
after-low k Suspend = omega arith
after-low k (Release t) = omega arith
after-low k (Set t p) = omega arith
after-low k Again = omega arith
after-low k Finish = omega arith

-- a script of good form is short enough for its positions
part-short : (s : List ℕ) (t : ℕ) → form_of s ≡ Ok tt → length (part_at s t) ≤ largest_roster
unfolding part_at length_good
part-short s t e =
    let short = leb-true (length s) largest_roster
    (and_right (leb smallest_roster (length s)) (leb (length s) largest_roster) (formed s e).size) in
    omega (arith, length-take (length_at s t) (drop (start_at s t) s), length-drop (start_at s t) s)

pub position-fits : (s : List ℕ) (t k : ℕ) (part : List ℕ) (x : Step) → form_of s ≡ Ok tt → k < 65536 → part ≡ part_at s t →
    x ≡ step_in (steps_of part) k → position_after k x < 65536
unfolding position_after
position-fits s t k part x ok g p e =
    by-test (ltb k (step_count part))
    (λ f. let low : k < step_count part = ltb-true k _ f in omega (arith, after-low k x, part-short s t ok, ap length p))
    (λ f. omega (arith, ap (position_after k) (e ∙ steps-past part k (ltb-false k _ f))))

-- .. and so is that of the step that comes next
pub next-fits : (s : List ℕ) (t k : ℕ) (x : Step) → form_of s ≡ Ok tt → t < task_count s → k < 65536 → x ≡ next_step (roster_of s) t k →
    position_after k x < 65536
next-fits s t k x ok h g e =
    position-fits s t k (part_at s t) x ok g refl (e ∙ ap (λ (l : List Step). step_in l k) (script-listed s t h))
