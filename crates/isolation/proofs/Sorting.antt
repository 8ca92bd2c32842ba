-- From rosters to layers: which tasks are high, and that in every configuration of a run the high ones stay above p and the low ones do not
-- rise above it.
use mathlib.Core.Path.{◌≡◌, refl, ap, ◌∙◌, sym, subst}
use mathlib.Core.Logic.{◌⊎◌, inl, inr}
use mathlib.Core.Bool.{Bool, true, false}
use mathlib.Core.List.{List, [], ◌∷◌, map}
use Prim.Native.Nat.{ℕ, zero, suc, ◌+◌, ◌-◌, ◌≤◌, ◌<◌, max}
use native.Mathlib.Nat.{not-suc-le-zero}
use native.Mathlib.Omega.{arith}
use borrow.Author.Tests.{eqb-true, ltb-true, ltb-false}
use lib.Dec.{eqb, ltb}
use lib.ListN.{length, get_or, get_or-eq_default, get_or-map}
use lib.Seq.{set_out}
use Rattle.std.specs.Prelude.{None, Option, Some, ℕ}
use Rattle.rules.specs.Model.{task_at, ceiling_of, highest_of, active_of, active}
use Rattle.rules.specs.Lists.{times_in, without}
use Rattle.rules.specs.declared.Priority.{Priority}
use Rattle.rules.proofs.Choices.{split, compare, both_ways}
use Rattle.rules.proofs.Counts.{times-same, times-other, times-cons, times-append, times-take}
use Rattle.rules.proofs.TaskLaws.{at_same, at_other}
use Rattle.rules.proofs.Pending.{t-in}
use Rattle.format.specs.Steps.{step_in}
use Rattle.format.specs.Roster.{Roster, base_of, script_of}
use Rattle.format.specs.Check.{held_after, held_before, own_set, top_of, top_at}
use Rattle.format.specs.declared.Step.{Step}
use Rattle.format.specs.declared.Step.TheVariants.{Enter, Leave, Delay, Work, Suspend, Release, Set, Again, Finish}
use Rattle.trace.specs.Config.{Config, is_done, happen}
use Rattle.safety.specs.History.{Event, clock, release, step, input_of}
use Rattle.safety.specs.Reckon.{Away, here, until, resting, gone, Status, Reckoning, unknown, status_at, with_status, inside_of}
use Rattle.safety.specs.Reckon.{based_on, permitted, goes, away_after, read_at, released, released_in, becomes_base, at_leave, after_set}
use Rattle.safety.specs.Reckon.{took_by}
use Rattle.safety.specs.Reckon.{step_due, took, happened, noted}
use Rattle.format.proofs.PassedLaws.{Orderly}
use Rattle.safety.proofs.Discipline.{Fits, set_own}
use Rattle.safety.proofs.Invariant.{Inv}
use Rattle.isolation.specs.Sharing.{Above, Under, Agree}
use Rattle.isolation.proofs.Layers.{Layer}

-- a test of the tasks that tells those above p from the others
pub record Sorts (p : ℕ) (high : ℕ → Bool) (r : Roster) : Type 0 where
  pub above : (t : ℕ) → high t ≡ true → Above p r t
  pub below : (t : ℕ) → high t ≡ false → t < length r.bases → Under p r t

pub listed_above : (p : ℕ) (r : Roster) (t : ℕ) → p < base_of r t → t < length r.bases
listed_above p r t h =
    compare (length r.bases) t (λ g. absurd (omega (arith, h, get_or-eq_default r.bases 0 {n = t} g))) (λ g. g)

-- who is above is high
pub above-high : (p : ℕ) (high : ℕ → Bool) (r : Roster) → Sorts p high r → (t : ℕ) → Above p r t → high t ≡ true
above-high p high r s t a = go (high t) refl
  where
    go : (b : Bool) → high t ≡ b → b ≡ true
    go true e = refl
    go false e = absurd (omega (arith, a.base, (s.below t e (listed_above p r t a.base)).base))

-- the one test for both rosters: where every task is above or under, the base tells
module _ (p : ℕ) (r s : Roster) (a : Agree p r s) where
  abbrev pub high_base : ℕ → Bool
  high_base t = ltb p (base_of r t)

  pub sorts-first : Sorts p high_base r
  sorts-first = record { above = above; below = below }
    where
      above : (t : ℕ) → high_base t ≡ true → Above p r t
      above t h = go (a.first t (listed_above p r t (ltb-true p (base_of r t) h)))
        where
          go : Above p r t ⊎ Under p r t → Above p r t
          go (inl x) = x
          go (inr y) = absurd (omega (arith, y.base, ltb-true p (base_of r t) h))

      below : (t : ℕ) → high_base t ≡ false → t < length r.bases → Under p r t
      below t h l = go (a.first t l)
        where
          go : Above p r t ⊎ Under p r t → Under p r t
          go (inl x) = absurd (omega (arith, x.base, ltb-false p (base_of r t) h))
          go (inr y) = y

  pub sorts-second : Sorts p high_base s
  sorts-second = record { above = above; below = below }
    where
      above : (t : ℕ) → high_base t ≡ true → Above p s t
      above t h =
          let x : Above p r t = sorts-first.above t h in
          let e = a.tasks t (inl x) in
          record {
            base = omega (arith, x.base, e.0);
            sets = λ k q i. x.sets k q (ap (λ (l : List Step). step_in l k) e.1 ∙ i);
          }

      below : (t : ℕ) → high_base t ≡ false → t < length s.bases → Under p s t
      below t h l = go (a.second t l)
        where
          go : Above p s t ⊎ Under p s t → Under p s t
          go (inl x) = absurd (omega (arith, x.base, (a.tasks t (inr x)).0, ltb-false p (base_of r t) h))
          go (inr y) = y

-- what a low script holds has a ceiling at p or lower
held-under : (p : ℕ) (cs : List ℕ) (steps : List Step) → ((k o : ℕ) → step_in steps k ≡ Enter o → ceiling_of cs o ≤ p) →
    (k o : ℕ) → 0 < times_in o (held_before steps k) → ceiling_of cs o ≤ p
unfolding held_before held_after times_in
held-under p cs steps f zero o h = absurd (not-suc-le-zero h)
held-under p cs steps f (suc k) o h = go (step_in steps k) refl (held-under p cs steps f k o) h
  where
    l : List ℕ
    l = held_before steps k

    go : (x : Step) → step_in steps k ≡ x → (0 < times_in o l → ceiling_of cs o ≤ p) → 0 < times_in o (held_after l x) → ceiling_of cs o ≤ p
    go (Enter a) e g i =
        split o a (λ j. omega (arith, f k a e, ap (ceiling_of cs) j))
        (λ n. g (omega (arith, i, times-append o l (a ∷ []), times-other a o n)))
    go (Leave a) e g i = g (omega (arith, i, times-take o (length l - 1) l))
    go (Delay d) e g i = g i
    go Work e g i = g i
    go Suspend e g i = g i
    go (Release u) e g i = g i
    go (Set u q) e g i = g i
    go Again e g i = g i
    go Finish e g i = g i

highest-under : (p : ℕ) (cs : List ℕ) (b : ℕ) (l : List ℕ) → b ≤ p → ((o : ℕ) → 0 < times_in o l → ceiling_of cs o ≤ p) →
    highest_of cs b l ≤ p
unfolding highest_of
highest-under p cs b [] h f = h
highest-under p cs b (o ∷ l) h f =
    highest-under p cs (max b (ceiling_of cs o)) l (omega (arith, h, f o (omega (arith, times-cons o o l, times-same o o refl))))
    (λ x g. f x (omega (arith, g, times-cons x o l)))

own-under : (p t : ℕ) (x : Step) → ((q : Priority) → x ≡ Set t q → q.0 ≤ p) → own_set t x ≤ p
unfolding own_set
own-under p t (Enter o) f = omega arith
own-under p t (Leave o) f = omega arith
own-under p t (Delay d) f = omega arith
own-under p t Work f = omega arith
own-under p t Suspend f = omega arith
own-under p t (Release u) f = omega arith
own-under p t (Set u q) f =
    both_ways (λ (n : ℕ). n ≤ p) (eqb u t) q.0 0 (λ e. f q (ap (λ (y : ℕ). Set y q) (eqb-true u t e))) (λ e. omega arith)
own-under p t Again f = omega arith
own-under p t Finish f = omega arith

top-under : (p t b : ℕ) (steps : List Step) → b ≤ p → ((k : ℕ) → own_set t (step_in steps k) ≤ p) → top_of t b steps ≤ p
unfolding top_of
top-under p t b [] h f = h
top-under p t b (x ∷ steps) h f =
    top-under p t (max b (own_set t x)) steps (omega (arith, h, f 0)) (λ k. f (suc k))

-- the base and the waiting base of a task stay above p
pub record Floor (p : ℕ) (a : Status) : Type 0 where
  pub base : p < a.base
  pub waiting : (q : ℕ) → a.waiting ≡ Some q → p < q

abbrev pub Floors : ℕ → (ℕ → Bool) → Reckoning → Type 0
Floors p high b = (u : ℕ) → high u ≡ true → Floor p (status_at b u)

module _ (p : ℕ) (high : ℕ → Bool) where
  floor-set : (b : Reckoning) → Floors p high b → (t : ℕ) (x : Status) → (high t ≡ true → Floor p x) → Floors p high (with_status b t x)
  floor-set b f t x g u h =
      split u t
      (λ e. compare (length b.tasks) t
      (λ o. subst (λ (l : List Status). Floor p (get_or l u unknown)) (sym (set_out b.tasks t x o)) (f u h))
      (λ o. subst (Floor p) (sym (at_same (λ (v : Status). v) unknown b.tasks t x u e o)) (g (sym (ap high e) ∙ h))))
      (λ n. subst (Floor p) (sym (at_other (λ (v : Status). v) unknown b.tasks t x u n)) (f u h))

  -- another position, place, permit or held list
  floor-of : (a c : Status) → a.base ≡ c.base → a.waiting ≡ c.waiting → Floor p a → Floor p c
  floor-of a c e d f = record { base = omega (arith, e, f.base); waiting = λ q i. f.waiting q (d ∙ i) }

  floor-based : (a : Status) (q : ℕ) → p < q → Floor p (based_on a q None)
  floor-based a q h = record { base = h; waiting = λ v i. absurd (let z : ◌≡◌ {A = ℕ} 0 1 = cc in omega arith) }

  floor-released : (a : Status) (x : Away) → Floor p a → Floor p (released a x)
  unfolding released
  floor-released a here f = floor-of a (permitted a true) refl refl f
  floor-released a (until d) f = floor-of a (permitted a true) refl refl f
  floor-released a resting f = floor-of a (goes a here) refl refl f
  floor-released a gone f = floor-of a (permitted a true) refl refl f

  floor-becomes : (a : Status) (w : Option ℕ) → a.waiting ≡ w → Floor p a → Floor p (becomes_base a w)
  unfolding becomes_base
  floor-becomes a None e f = f
  floor-becomes a (Some q) e f = floor-based a q (f.waiting q e)

  floors-release : (b : Reckoning) → Floors p high b → (t : ℕ) → Floors p high (released_in b t)
  floors-release b f t = floor-set b f t _ (λ h. floor-released (status_at b t) (status_at b t).away (f t h))

  floors-clock : (b : Reckoning) → Floors p high b → (x : ℕ) → Floors p high (record { now = x; tasks = map (read_at x) b.tasks })
  unfolding away_after
  floors-clock b f x u h =
      subst (Floor p) (sym (get_or-map (read_at x) b.tasks u unknown))
      (floor-of (status_at b u) (read_at x (status_at b u)) refl refl (f u h))

  -- a step of task t, whose own Set values are above p if it is high
  floors-step : (b : Reckoning) → Floors p high b → (t : ℕ) (x : Step) →
      ((u : ℕ) (q : Priority) → x ≡ Set u q → high u ≡ true → p < q.0) → Floors p high (took_by b t (status_at b t) x)
  unfolding took_by
  floors-step b f t (Enter o) g = floor-set b f t _ (λ h. floor-of (status_at b t) _ refl refl (f t h))
  floors-step b f t (Leave o) g =
      let y : Status = inside_of (status_at b t) (without o (status_at b t).inside) in
      floor-set b f t (at_leave y) (λ h.
      let k : Floor p y = floor-of (status_at b t) y refl refl (f t h) in
      both_ways (Floor p) (eqb (length y.inside) 0) (becomes_base y y.waiting) y (λ e. floor-becomes y y.waiting refl k) (λ e. k))
  floors-step b f t (Delay d) g =
      floor-set b f t _ (λ h. both_ways (Floor p) (eqb d 0) (status_at b t) (goes (status_at b t) (until (b.now + d))) (λ e. f t h)
      (λ e. floor-of (status_at b t) _ refl refl (f t h)))
  floors-step b f t Work g = f
  floors-step b f t Suspend g =
      floor-set b f t _ (λ h. both_ways (Floor p) (status_at b t).permit (permitted (status_at b t) false) (goes (status_at b t) resting)
      (λ e. floor-of (status_at b t) _ refl refl (f t h)) (λ e. floor-of (status_at b t) _ refl refl (f t h)))
  floors-step b f t (Release u) g = floors-release b f u
  floors-step b f t (Set u q) g =
      let a : Status = status_at b u in
      floor-set b f u (after_set a q.0) (λ h.
      both_ways (Floor p) (eqb (length a.inside) 0) (based_on a q.0 None) (based_on a a.base (Some q.0))
      (λ e. floor-based a q.0 (g u q refl h))
      (λ e. record { base = (f u h).base; waiting = λ v i. let y : q.0 ≡ v = cc in omega (arith, y, g u q refl h) }))
  floors-step b f t Again g = f
  floors-step b f t Finish g = floor-set b f t _ (λ h. floor-of (status_at b t) _ refl refl (f t h))

  module _ (r : Roster) (k : Orderly r) (s : Sorts p high r) (c : Config) (b : Reckoning) (i : Inv r c b) (f : Floors p high b) where
    pub task-in : (t : ℕ) → c.model.running ≡ Some t → t < length r.bases
    task-in t e = omega (arith, t-in c.model t i.good e, i.agree.size, i.size)

    floors-took : (w : Option ℕ) → c.model.running ≡ w → Floors p high (took r b w)
    unfolding took
    floors-took None e = f
    floors-took (Some t) e =
        let a : Status = status_at b t in
        let x : Step = step_due r t a in
        let low = task-in t e in
        let b₁ : Reckoning = took_by b t a x in
        let g : Floors p high b₁ = floors-step b f t x (λ u q n h.
        let own : u ≡ t = set_own r k t low a (i.fits t low) u q n in
        omega (arith, (s.above t (sym (ap high own) ∙ h)).sets a.position q (n ∙ ap (λ (y : ℕ). Set y q) own))) in
        floor-set b₁ g t _ (λ h. floor-of (status_at b₁ t) _ refl refl (g t h))

    pub floors-event : (e : Event) →
        Floors p high (noted r b (record { event = e; answer = (happen r c (input_of e)).answer; ran = c.model.running }))
    unfolding noted happened
    floors-event (clock x) =
        both_ways (Floors p high) (is_done (happen r c (input_of (clock x))).answer) _ b (λ e. floors-clock b f x) (λ e. f)
    floors-event (release t) =
        both_ways (Floors p high) (is_done (happen r c (input_of (release t))).answer) _ b (λ e. floors-release b f t) (λ e. f)
    floors-event step =
        both_ways (Floors p high) (is_done (happen r c (input_of step)).answer) _ b (λ e. floors-took c.model.running refl) (λ e. f)

    -- the layers of a configuration
    pub layer-of : Layer p high c.model
    unfolding top_at
    layer-of = record {
      up = λ t h. omega (arith, (f t h).base, ap (λ (a : Status). a.base) (i.agree.each t));
      down = down;
    }
      where
        down : (t : ℕ) → high t ≡ false → t < length c.model.tasks → active c.model t ≤ p
        down t h l =
            let low : t < length r.bases = omega (arith, l, i.agree.size, i.size) in
            let y : Under p r t = s.below t h low in
            let fit : Fits r t (status_at b t) = i.fits t low in
            let top = top-under p t (base_of r t) (script_of r t) (omega (arith, y.base))
            (λ k. own-under p t (step_in (script_of r t) k) (λ q e. omega (arith, y.sets k q e))) in
            let under : highest_of r.ceilings (status_at b t).base (status_at b t).inside ≤ p =
            highest-under p r.ceilings (status_at b t).base (status_at b t).inside (omega (arith, fit.based, top))
            (λ o g. held-under p r.ceilings (script_of r t) (λ i v e. omega (arith, y.uses i v e)) (status_at b t).position o
            (subst (λ (k : List ℕ). 0 < times_in o k) fit.held g)) in
            omega (
              arith,
              under,
              ap (λ (a : Status). highest_of r.ceilings a.base a.inside) (i.agree.each t),
              ap (λ (cs : List ℕ). active_of cs (task_at c.model t)) i.ceilings,
            )
