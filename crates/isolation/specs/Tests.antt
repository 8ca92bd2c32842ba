-- What the claim asks for, as tests of two rosters' bytes and of the events: which of it a worked pair lacks.
use Rattle.std.specs.Prelude.{Bool, true, false, cond, not, ◌&&◌, ◌||◌, List, [], ◌∷◌, ◌++◌, ℕ, suc, ◌+◌, eqb, leb, ltb, length}
use Rattle.rules.specs.Lists.{below}
use Rattle.rules.specs.Model.{ceiling_of}
use Rattle.format.specs.Answers.{passed}
use Rattle.format.specs.Format.{part_at}
use Rattle.format.specs.Roster.{Roster, roster_of, base_of, script_of}
use Rattle.format.specs.Check.{check_of}
use Rattle.format.specs.declared.Step.{Step}
use Rattle.format.specs.declared.Step.TheVariants.{Enter, Leave, Delay, Work, Suspend, Release, Set, Again, Finish}
use Rattle.trace.specs.Inputs.{inputs_of}
use Rattle.trace.specs.declared.Input.{Input}
use Rattle.trace.specs.declared.Input.TheVariants as input

-- a test of every step of a script
unfoldable pub every_step : (Step → Bool) → List Step → Bool
every_step f [] = true
every_step f (x ∷ steps) = f x && every_step f steps

-- a test of the value that a step of task t sets its own base to, of the task that a step releases, of the object that it enters
unfoldable pub own_value : (ℕ → Bool) → ℕ → Step → Bool
own_value f t (Enter o) = true
own_value f t (Leave o) = true
own_value f t (Delay d) = true
own_value f t Work = true
own_value f t Suspend = true
own_value f t (Release u) = true
own_value f t (Set u q) = cond (eqb u t) (f q.0) true
own_value f t Again = true
own_value f t Finish = true

unfoldable pub released_task : (ℕ → Bool) → Step → Bool
released_task f (Enter o) = true
released_task f (Leave o) = true
released_task f (Delay d) = true
released_task f Work = true
released_task f Suspend = true
released_task f (Release u) = f u
released_task f (Set u q) = true
released_task f Again = true
released_task f Finish = true

unfoldable pub entered_object : (ℕ → Bool) → Step → Bool
entered_object f (Enter o) = f o
entered_object f (Leave o) = true
entered_object f (Delay d) = true
entered_object f Work = true
entered_object f Suspend = true
entered_object f (Release u) = true
entered_object f (Set u q) = true
entered_object f Again = true
entered_object f Finish = true

-- a test of the base and all own Set values of a task
abbrev pub values_are : (ℕ → Bool) → Roster → ℕ → Bool
values_are f r t = f (base_of r t) && every_step (own_value f t) (script_of r t)

-- "Above P means the base and all own Set values are higher"
abbrev pub is_above : ℕ → Roster → ℕ → Bool
is_above p r t = values_are (ltb p) r t

-- a test of every other task
abbrev pub others_keep : ℕ → Roster → (ℕ → Bool) → Bool
others_keep p r f = below (length r.bases) (λ t. is_above p r t || f t)

-- "every other task has them all at P or lower"
abbrev pub values_low : ℕ → Roster → Bool
values_low p r = others_keep p r (values_are (λ v. leb v p) r)

-- "releases no task above P"
abbrev pub releases_low : ℕ → Roster → Bool
releases_low p r = others_keep p r (λ t. every_step (released_task (λ u. not (is_above p r u))) (script_of r t))

-- "and uses no object with a ceiling above P"
abbrev pub uses_low : ℕ → Roster → Bool
uses_low p r = others_keep p r (λ t. every_step (entered_object (λ o. leb (ceiling_of r.ceilings o) p)) (script_of r t))

-- two lists of numbers are the same
unfoldable pub same_list : List ℕ → List ℕ → Bool
same_list [] [] = true
same_list [] (y ∷ ys) = false
same_list (x ∷ xs) [] = false
same_list (x ∷ xs) (y ∷ ys) = eqb x y && same_list xs ys

-- "agree, number for number, on every task above P": in the base and in the bytes of the script
abbrev pub tasks_agree : ℕ → List ℕ → List ℕ → Bool
tasks_agree p a b =
    below (length (roster_of a).bases + length (roster_of b).bases) (λ t.
    not (is_above p (roster_of a) t || is_above p (roster_of b) t) ||
    (eqb (base_of (roster_of a) t) (base_of (roster_of b) t) && same_list (part_at a t) (part_at b t)))

-- "and every object with a ceiling above P"
abbrev pub objects_agree : ℕ → List ℕ → List ℕ → Bool
objects_agree p cs ds =
    below (length cs + length ds) (λ o. (leb (ceiling_of cs o) p && leb (ceiling_of ds o) p) || eqb (ceiling_of cs o) (ceiling_of ds o))

-- "with no Set from outside"
unfoldable pub no_set : List Input → Bool
no_set [] = true
no_set (input.Clock v ∷ es) = no_set es
no_set (input.Release t ∷ es) = no_set es
no_set (input.Step ∷ es) = no_set es
no_set (input.Set t v ∷ es) = false

-- what is asked of two rosters, in the request's order
abbrev pub asked : ℕ → List ℕ → List ℕ → List Bool
asked p a b =
    (passed (check_of a) && passed (check_of b)) ∷ tasks_agree p a b ∷ objects_agree p (roster_of a).ceilings (roster_of b).ceilings ∷
    (values_low p (roster_of a) && values_low p (roster_of b)) ∷ (releases_low p (roster_of a) && releases_low p (roster_of b)) ∷
    (uses_low p (roster_of a) && uses_low p (roster_of b)) ∷ []

-- the numbers of those that are not met, from n on
unfoldable pub lacking_from : ℕ → List Bool → List ℕ
lacking_from n [] = []
lacking_from n (b ∷ bs) = cond b (lacking_from (suc n) bs) (n ∷ lacking_from (suc n) bs)

-- 1 both pass; 2 tasks agree; 3 objects agree; 4 values of the others; 5 what they release; 6 what they use; 7 no Set from outside
abbrev pub lacking : ℕ → List ℕ → List ℕ → List ℕ → List ℕ
lacking p a b events = lacking_from 1 (asked p a b ++ (no_set (inputs_of events) ∷ []))
