-- The tests of the premises (specs/Tests.antt) mean the premises: two rosters that lack nothing agree.
use mathlib.Core.Path.{◌≡◌, refl, ap, ◌∙◌, sym}
use mathlib.Core.Logic.{◌⊎◌, inl, inr}
use mathlib.Core.Bool.{Bool, true, false, not, ◌&&◌, ◌||◌}
use mathlib.Core.List.{List, [], ◌∷◌}
use Prim.Native.Nat.{ℕ, zero, suc, ◌+◌, ◌<◌}
use native.Mathlib.Omega.{arith}
use borrow.Author.Tests.{eqb-true, eq-eqb, leb-true, ltb-true, lt-ltb}
use lib.Dec.{eqb, leb, ltb}
use lib.ListN.{length, get_or, get_or-eq_default}
use Rattle.rules.specs.Model.{ceiling_of}
use Rattle.rules.specs.declared.Priority.{Priority}
use Rattle.rules.proofs.Choices.{compare, clash, both_ways, cond-true, and_left, and_right, and-make, or-first, or-second, or_right}
use Rattle.rules.proofs.SoundLaws.{below_at}
use Rattle.words.specs.Words.{Bytes}
use Rattle.format.specs.Answers.{passed}
use Rattle.format.specs.Format.{part_at}
use Rattle.format.specs.Steps.{step_in, steps_of}
use Rattle.format.specs.Roster.{Roster, roster_of, base_of, script_of}
use Rattle.format.specs.Check.{check_of}
use Rattle.format.specs.declared.Step.{Step}
use Rattle.format.specs.declared.Step.TheVariants.{Enter, Leave, Delay, Work, Suspend, Release, Set, Again, Finish}
use Rattle.format.proofs.FormatLaws.{script-listed, base-count}
use Rattle.isolation.specs.Sharing.{Listed, Above, Under, Divided, Agreeing}
use Rattle.isolation.specs.Tests.{every_step, own_value, released_task, entered_object, values_are, is_above, others_keep, values_low}
use Rattle.isolation.specs.Tests.{releases_low, uses_low, same_list, tasks_agree, objects_agree, asked}
use Rattle.isolation.proofs.Sorting.{listed_above}

-- every step, and the script's end
every-at : (f : Step → Bool) (steps : List Step) → every_step f steps ≡ true → f Finish ≡ true → (k : ℕ) → f (step_in steps k) ≡ true
unfolding every_step
every-at f [] h e zero = e
every-at f [] h e (suc k) = e
every-at f (x ∷ steps) h e zero = and_left (f x) (every_step f steps) h
every-at f (x ∷ steps) h e (suc k) = every-at f steps (and_right (f x) (every_step f steps) h) e k

every-make : (f : Step → Bool) (steps : List Step) → ((k : ℕ) → f (step_in steps k) ≡ true) → every_step f steps ≡ true
unfolding every_step
every-make f [] h = refl
every-make f (x ∷ steps) h = and-make (f x) (every_step f steps) (h 0) (every-make f steps (λ k. h (suc k)))

-- own Set values
own_is : (f : ℕ → Bool) (t : ℕ) (q : Priority) → own_value f t (Set t q) ≡ true → f q.0 ≡ true
unfolding own_value
own_is f t q h = sym (cond-true (eqb t t) (f q.0) true (eq-eqb t t refl)) ∙ h

own-make : (f : ℕ → Bool) (t : ℕ) (x : Step) → ((q : Priority) → x ≡ Set t q → f q.0 ≡ true) → own_value f t x ≡ true
unfolding own_value
own-make f t (Enter o) h = refl
own-make f t (Leave o) h = refl
own-make f t (Delay d) h = refl
own-make f t Work h = refl
own-make f t Suspend h = refl
own-make f t (Release u) h = refl
own-make f t (Set u q) h =
    both_ways (λ (b : Bool). b ≡ true) (eqb u t) (f q.0) true (λ e. h q (ap (λ (v : ℕ). Set v q) (eqb-true u t e))) (λ e. refl)
own-make f t Again h = refl
own-make f t Finish h = refl

module _ (f : ℕ → Bool) (r : Roster) (t : ℕ) where
  base-is : values_are f r t ≡ true → f (base_of r t) ≡ true
  base-is h = and_left (f (base_of r t)) (every_step (own_value f t) (script_of r t)) h

  sets-are : values_are f r t ≡ true → (k : ℕ) (q : Priority) → step_in (script_of r t) k ≡ Set t q → f q.0 ≡ true
  unfolding own_value
  sets-are h k q e =
      own_is f t q (sym (ap (own_value f t) e) ∙
      every-at (own_value f t) (script_of r t) (and_right (f (base_of r t)) (every_step (own_value f t) (script_of r t)) h) refl k)

module _ (p : ℕ) (r : Roster) where
  -- above
  above-by : (t : ℕ) → is_above p r t ≡ true → Above p r t
  above-by t h = record {
    base = ltb-true p (base_of r t) (base-is (ltb p) r t h);
    sets = λ k q e. ltb-true p q.0 (sets-are (ltb p) r t h k q e);
  }

  by-above : (t : ℕ) → Above p r t → is_above p r t ≡ true
  by-above t a =
      and-make (ltb p (base_of r t)) (every_step (own_value (ltb p) t) (script_of r t)) (lt-ltb p (base_of r t) a.base)
      (every-make (own_value (ltb p) t) (script_of r t) (λ k.
      own-make (ltb p) t (step_in (script_of r t) k) (λ q e. lt-ltb p q.0 (a.sets k q e))))

  other-keeps : (f : ℕ → Bool) → others_keep p r f ≡ true → (t : ℕ) → Listed r t → is_above p r t ≡ false → f t ≡ true
  other-keeps f h t l e = or_right (is_above p r t) (f t) e (below_at (length r.bases) (λ u. is_above p r u || f u) h t l)

  -- under
  under-by : values_low p r ≡ true → releases_low p r ≡ true → uses_low p r ≡ true → (t : ℕ) → Listed r t → is_above p r t ≡ false →
      Under p r t
  unfolding released_task entered_object
  under-by v w u t l e = record {
    base = leb-true (base_of r t) p (base-is (λ x. leb x p) r t values);
    sets = λ k q i. leb-true q.0 p (sets-are (λ x. leb x p) r t values k q i);
    releases = λ k y i a.
        let low : not (is_above p r y) ≡ true =
        sym (ap (released_task (λ x. not (is_above p r x))) i) ∙ every-at _ (script_of r t) (other-keeps _ w t l e) refl k in
        clash (sym low ∙ ap not (by-above y a));
    uses = λ k o i. leb-true (ceiling_of r.ceilings o) p
        (sym (ap (entered_object (λ x. leb (ceiling_of r.ceilings x) p)) i) ∙
        every-at _ (script_of r t) (other-keeps _ u t l e) refl k);
  }
    where
      values : values_are (λ x. leb x p) r t ≡ true
      values = other-keeps (values_are (λ x. leb x p) r) v t l e

  divided-by : values_low p r ≡ true → releases_low p r ≡ true → uses_low p r ≡ true → Divided p r
  divided-by v w u t l = go (is_above p r t) refl
    where
      go : (b : Bool) → is_above p r t ≡ b → Above p r t ⊎ Under p r t
      go true e = inl (above-by t e)
      go false e = inr (under-by v w u t l e)

same_by : (l k : List ℕ) → same_list l k ≡ true → l ≡ k
unfolding same_list
same_by [] [] h = refl
same_by [] (y ∷ k) h = clash (sym h)
same_by (x ∷ l) [] h = clash (sym h)
same_by (x ∷ l) (y ∷ k) h =
    ap (λ (v : ℕ). v ∷ l) (eqb-true x y (and_left (eqb x y) (same_list l k) h)) ∙
    ap (λ (v : List ℕ). y ∷ v) (same_by l k (and_right (eqb x y) (same_list l k) h))

-- the tasks above
module _ (p : ℕ) (a b : List ℕ) (h : tasks_agree p a b ≡ true) where
  abbrev r : Roster
  r = roster_of a

  abbrev s : Roster
  s = roster_of b

  module _ (t : ℕ) (f : Above p r t ⊎ Above p s t) where
    in_either : Above p r t ⊎ Above p s t → t < length r.bases + length s.bases
    in_either (inl x) = omega (arith, listed_above p r t x.base)
    in_either (inr x) = omega (arith, listed_above p s t x.base)

    above-either : Above p r t ⊎ Above p s t → (is_above p r t || is_above p s t) ≡ true
    above-either (inl x) = or-first (is_above p r t) (is_above p s t) (by-above p r t x)
    above-either (inr x) = or-second (is_above p r t) (is_above p s t) (by-above p s t x)

    tested : (eqb (base_of r t) (base_of s t) && same_list (part_at a t) (part_at b t)) ≡ true
    tested =
        or_right (not (is_above p r t || is_above p s t)) (eqb (base_of r t) (base_of s t) && same_list (part_at a t) (part_at b t))
        (ap not (above-either f)) (below_at (length r.bases + length s.bases) _ h t (in_either f))

    bases-same : base_of r t ≡ base_of s t
    bases-same =
        eqb-true (base_of r t) (base_of s t) (and_left (eqb (base_of r t) (base_of s t)) (same_list (part_at a t) (part_at b t)) tested)

    high-base : Above p r t ⊎ Above p s t → p < base_of r t
    high-base (inl x) = x.base
    high-base (inr x) = omega (arith, x.base, bases-same)

    scripts-same : script_of r t ≡ script_of s t
    scripts-same =
        let in-a = listed_above p r t (high-base f) in
        let in_b = listed_above p s t (omega (arith, high-base f, bases-same)) in
        script-listed a t (omega (arith, in-a, base-count a)) ∙
        ap steps_of (same_by (part_at a t) (part_at b t)
        (and_right (eqb (base_of r t) (base_of s t)) (same_list (part_at a t) (part_at b t)) tested)) ∙
        sym (script-listed b t (omega (arith, in_b, base-count b)))

-- the objects above
module _ (p : ℕ) (cs ds : List ℕ) (h : objects_agree p cs ds ≡ true) (o : ℕ) where
  listed-object : (l : List ℕ) → p < ceiling_of l o → o < length l
  listed-object l g = compare (length l) o (λ i. absurd (omega (arith, g, get_or-eq_default l 0 {n = o} i))) (λ i. i)

  of_either : (p < ceiling_of cs o) ⊎ (p < ceiling_of ds o) → o < length cs + length ds
  of_either (inl g) = omega (arith, listed-object cs g)
  of_either (inr g) = omega (arith, listed-object ds g)

  not_low : (p < ceiling_of cs o) ⊎ (p < ceiling_of ds o) → (leb (ceiling_of cs o) p && leb (ceiling_of ds o) p) ≡ true → ⊥
  not_low (inl g) e = omega (arith, g, leb-true (ceiling_of cs o) p (and_left (leb (ceiling_of cs o) p) (leb (ceiling_of ds o) p) e))
  not_low (inr g) e = omega (arith, g, leb-true (ceiling_of ds o) p (and_right (leb (ceiling_of cs o) p) (leb (ceiling_of ds o) p) e))

  objects-same : (p < ceiling_of cs o) ⊎ (p < ceiling_of ds o) → ceiling_of cs o ≡ ceiling_of ds o
  objects-same g = go (leb (ceiling_of cs o) p && leb (ceiling_of ds o) p) refl (below_at (length cs + length ds) _ h o (of_either g))
    where
      go : (b : Bool) → (leb (ceiling_of cs o) p && leb (ceiling_of ds o) p) ≡ b → (b || eqb (ceiling_of cs o) (ceiling_of ds o)) ≡ true →
          ceiling_of cs o ≡ ceiling_of ds o
      go true e i = absurd (not_low g e)
      go false e i = eqb-true (ceiling_of cs o) (ceiling_of ds o) i

-- two rosters that meet every test
pub tests_agree : (p : ℕ) (a b : List ℕ) → Bytes a → Bytes b → asked p a b ≡ (true ∷ true ∷ true ∷ true ∷ true ∷ true ∷ []) →
    Agreeing p a b
tests_agree p a b y z e = record {
  bytes = (y, z);
  pass = (and_left (passed (check_of a)) (passed (check_of b)) (met 0), and_right (passed (check_of a)) (passed (check_of b)) (met 0));
  agree = record {
    first = divided-by p r (and_left (values_low p r) (values_low p s) (met 3)) (and_left (releases_low p r) (releases_low p s) (met 4))
        (and_left (uses_low p r) (uses_low p s) (met 5));
    second = divided-by p s (and_right (values_low p r) (values_low p s) (met 3)) (and_right (releases_low p r) (releases_low p s) (met 4))
        (and_right (uses_low p r) (uses_low p s) (met 5));
    tasks = λ t f. (bases-same p a b (met 1) t f, scripts-same p a b (met 1) t f);
    objects = objects-same p r.ceilings s.ceilings (met 2);
  };
}
  where
    r : Roster
    r = roster_of a

    s : Roster
    s = roster_of b

    met : (k : ℕ) → get_or (asked p a b) k true ≡ get_or (true ∷ true ∷ true ∷ true ∷ true ∷ true ∷ []) k true
    met k = ap (λ (l : List Bool). get_or l k true) e
