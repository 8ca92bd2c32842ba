-- The invariant of a history, and that every event keeps it: the Model is good, agrees with what is reckoned, and each task fits its
-- script.
use mathlib.Core.Path.{◌≡◌, refl, ap, ◌∙◌, sym, subst}
use mathlib.Core.Bool.{Bool, true, false, cond}
use mathlib.Core.List.{List, [], ◌∷◌, map}
use Prim.Native.Nat.{ℕ, suc, ◌+◌, ◌-◌, ◌≤◌, ◌<◌}
use native.Mathlib.Omega.{arith}
use borrow.Author.Tests.{eqb-true, ltb-true, leb-false}
use lib.Dec.{eqb, ltb}
use lib.ListN.{length, get_or, set, take, length-set, length-map, get_or-map}
use Rattle.std.specs.Prelude.{None, Option, Some, ℕ, Err, Ok}
use Rattle.rules.specs.Model.{Model, task_at, ceiling_of, highest_of, active_of}
use Rattle.rules.specs.Moved.{Moved, refused}
use Rattle.rules.specs.Lists.{times_in, without}
use Rattle.rules.specs.Events.{no_task, clock, release, apply, bad_reading}
use Rattle.rules.specs.Answers.{Answer}
use Rattle.rules.specs.declared.Refusal.{Refusal}
use Rattle.rules.specs.declared.Refusal.TheVariants.{NoSuchTask, BadReading}
use Rattle.rules.specs.declared.Event.TheVariants as E
use Rattle.rules.proofs.Choices.{split, both_ways, cond-true, cond-false, and_left, and_right}
use Rattle.rules.proofs.TaskLaws.{at_same, at_other, at-keeps}
use Rattle.rules.proofs.HeldLaws.{distinct-once}
use Rattle.rules.proofs.Pending.{Good, t-in}
use Rattle.rules.proofs.EventLaws.{release-1, clock-4}
use Rattle.rules.proofs.Unchanged.{ceilings-kept}
use Rattle.format.specs.Roster.{Roster, script_of}
use Rattle.format.specs.Check.{is_innermost, held_after, held_before}
use Rattle.format.specs.declared.Step.{Step}
use Rattle.format.specs.declared.Step.TheVariants.{Enter, Leave, Delay, Work, Suspend, Release, Set, Again, Finish}
use Rattle.format.proofs.PassedLaws.{Orderly}
use Rattle.trace.specs.Config.{Config, Asked, event, nothing, event_of, answer_to, perform, position_after, is_done}
use Rattle.trace.specs.Config.{advance, next_step, position_at, step_by, outside, happen}
use Rattle.safety.specs.History.{Event, clock as read, release as free, step, input_of}
use Rattle.safety.specs.Reckon.{Away, here, until, resting, gone, Status, Reckoning, unknown, status_at, with_status, at_position}
use Rattle.safety.specs.Reckon.{inside_of}
use Rattle.safety.specs.Reckon.{permitted, goes, away_after, read_at, released, released_in, becomes_base, took_by, moved_on}
use Rattle.safety.specs.Reckon.{step_due, took, happened, noted}
use Rattle.safety.proofs.Agree.{status_of, Agree, agree-position}
use Rattle.safety.proofs.Discipline.{Fits, fits_next, held_next, free-delay, free-suspend, free-again, free-finish}
use Rattle.safety.proofs.Discipline.{enter-listed}
use Rattle.safety.proofs.Discipline.{enter-free, enter-high, leave-listed, leave-inner, release-listed, set_own, set-under}
use Rattle.safety.proofs.Discipline.{without-last}
use Rattle.safety.proofs.Steps.{Fine, fine-work, fine-enter, fine-delay, fine-suspend, fine-finish, fine-set, fine-leave}
use Rattle.safety.proofs.Steps.{fine-release, fine-clock}

pub record Inv (r : Roster) (c : Config) (b : Reckoning) : Type 0 where
  pub good : Good true c.model
  pub agree : Agree b c.model.now c.model.tasks c.positions
  pub ceilings : c.model.ceilings ≡ r.ceilings
  pub size : length b.tasks ≡ length r.bases
  pub fits : (u : ℕ) → u < length r.bases → Fits r u (status_at b u)

-- permits and absences do not matter to a script
abbrev face : Status → Status
face a = goes (permitted a false) here

fits_in : (r : Roster) (u : ℕ) (a : Status) → Fits r u a → Fits r u (face a)
fits_in r u a f = record { within = f.within; held = f.held; based = f.based; awaits = f.awaits }

fits_out : (r : Roster) (u : ℕ) (a : Status) → Fits r u (face a) → Fits r u a
fits_out r u a f = record { within = f.within; held = f.held; based = f.based; awaits = f.awaits }

fits-face : (r : Roster) (u : ℕ) (a c : Status) → face c ≡ face a → Fits r u a → Fits r u c
fits-face r u a c e f = fits_out r u c (subst (Fits r u) (sym e) (fits_in r u a f))

faced-either : (c : Bool) (a x y : Status) → face x ≡ face a → face y ≡ face a → face (cond c x y) ≡ face a
faced-either c a x y e f = both_ways (λ (v : Status). face v ≡ face a) c x y (λ i. e) (λ i. f)

released-face : (a : Status) (x : Away) → face (released a x) ≡ face a
unfolding released
released-face a here = refl
released-face a (until d) = refl
released-face a resting = refl
released-face a gone = refl

release-faces : (b : Reckoning) (t u : ℕ) → face (status_at (released_in b t) u) ≡ face (status_at b u)
release-faces b t u = at-keeps face unknown b.tasks t _ (released-face (status_at b t) (status_at b t).away) u

read-faces : (x : ℕ) (l : List Status) (u : ℕ) → face (get_or (map (read_at x) l) u unknown) ≡ face (get_or l u unknown)
unfolding away_after
read-faces x l u = ap face (get_or-map (read_at x) l u unknown)

done-is : (a : Answer) → a ≡ Ok tt → is_done a ≡ true
done-is a e = ap is_done e

-- an event from outside that is accepted or refused
module _ (r : Roster) (c : Config) (b : Reckoning) (i : Inv r c b) where
  accepted-way : (b₂ : Reckoning) (v : Moved) → Fine c.positions b₂ v → v.model.ceilings ≡ c.model.ceilings →
      length b₂.tasks ≡ length b.tasks →
      ((u : ℕ) → face (status_at b₂ u) ≡ face (status_at b u)) → Inv r (outside c v).config (cond (is_done (outside c v).answer) b₂ b)
  unfolding outside
  accepted-way b₂ v f s l g =
      subst (Inv r (outside c v).config) (sym (cond-true (is_done v.answer) b₂ b (done-is v.answer f.done)))
      (record {
        good = f.good;
        agree = f.agree;
        ceilings = s ∙ i.ceilings;
        size = l ∙ i.size;
        fits = λ u h. fits-face r u (status_at b u) (status_at b₂ u) (g u) (i.fits u h);
      })

  refused-way : (b₂ : Reckoning) (a : Refusal) (v : Moved) → v ≡ refused c.model a → is_done (Err a) ≡ false →
      Inv r (outside c v).config (cond (is_done (outside c v).answer) b₂ b)
  unfolding outside
  refused-way b₂ a v e n =
      subst (λ (y : Moved). Inv r (outside c y).config (cond (is_done (outside c y).answer) b₂ b)) (sym e)
      (subst (Inv r c) (sym (cond-false (is_done (Err a)) b₂ b n)) i)

  by-clock : (x : ℕ) → Inv r (outside c (clock c.model x)).config
      (cond (is_done (outside c (clock c.model x)).answer) (record { now = x; tasks = map (read_at x) b.tasks }) b)
  unfolding apply
  by-clock x = go (bad_reading c.model.now x) refl
    where
      go : (v : Bool) → bad_reading c.model.now x ≡ v → Inv r (outside c (clock c.model x)).config
          (cond (is_done (outside c (clock c.model x)).answer) (record { now = x; tasks = map (read_at x) b.tasks }) b)
      go false e =
          accepted-way _ (clock c.model x) (fine-clock c.positions b c.model i.good i.agree x e)
          (ceilings-kept c.model (E.Clock x))
          (length-map b.tasks (read_at x)) (read-faces x b.tasks)
      go true e = refused-way _ BadReading (clock c.model x) (clock-4 c.model x e) refl

  by-release : (t : ℕ) → Inv r (outside c (release c.model t)).config
      (cond (is_done (outside c (release c.model t)).answer) (released_in b t) b)
  unfolding apply
  by-release t = go (no_task c.model t) refl
    where
      go : (v : Bool) → no_task c.model t ≡ v → Inv r (outside c (release c.model t)).config
          (cond (is_done (outside c (release c.model t)).answer) (released_in b t) b)
      go false e =
          accepted-way _ (release c.model t)
          (fine-release c.positions b c.model i.good i.agree t (leb-false (length c.model.tasks) t e))
          (ceilings-kept c.model (E.Release t)) (length-set b.tasks t _) (release-faces b t)
      go true e = refused-way _ NoSuchTask (release c.model t) (release-1 c.model t e) refl

answer-fixed : (m : Model) (y : Asked) → (answer_to m y).model.ceilings ≡ m.ceilings
unfolding answer_to
answer-fixed m (event e) = ceilings-kept m e
answer-fixed m nothing = refl

perform-fixed : (m : Model) (x : Step) → (perform m x).model.ceilings ≡ m.ceilings
unfolding perform
perform-fixed m x = answer-fixed m (event_of x)

took-size : (b : Reckoning) (t : ℕ) (a : Status) (x : Step) → length (took_by b t a x).tasks ≡ length b.tasks
unfolding took_by
took-size b t a (Enter o) = length-set b.tasks t _
took-size b t a (Leave o) = length-set b.tasks t _
took-size b t a (Delay d) = length-set b.tasks t _
took-size b t a Work = refl
took-size b t a Suspend = length-set b.tasks t _
took-size b t a (Release u) = length-set b.tasks u _
took-size b t a (Set u p) = length-set b.tasks u _
took-size b t a Again = refl
took-size b t a Finish = length-set b.tasks t _

no-list : (l : List ℕ) → length l ≡ 0 → l ≡ []
no-list [] e = refl
no-list (x ∷ l) e = absurd (omega arith)

none_before : (steps : List Step) → held_before steps 0 ≡ []
unfolding held_before
none_before steps = refl

-- the step of the running task t
module _ (r : Roster) (k : Orderly r) (m : Model) (ps : List ℕ) (b : Reckoning) (h : Good true m) (a : Agree b m.now m.tasks ps)
    (cs : m.ceilings ≡ r.ceilings) (size : length b.tasks ≡ length r.bases)
    (fit : (u : ℕ) → u < length r.bases → Fits r u (status_at b u)) (t : ℕ) (e : m.running ≡ Some t) where
  low : t < length r.bases
  low = omega (arith, t-in m t h e, a.size, size)

  own : Fits r t (status_at b t)
  own = fit t low

  is : status_at b t ≡ status_of (task_at m t) (get_or ps t 0)
  is = a.each t

  held-is : (status_at b t).inside ≡ (task_at m t).held
  held-is = ap (λ (v : Status). v.inside) is

  listed : (o : ℕ) → o < length r.ceilings → o < length m.ceilings
  listed o l = omega (arith, l, ap length cs)

  -- the active priority is the one reckoned, and not above the ceiling
  under : (o : ℕ) → highest_of r.ceilings (status_at b t).base (status_at b t).inside ≤ ceiling_of r.ceilings o →
      active_of m.ceilings (task_at m t) ≤ ceiling_of m.ceilings o
  under o g =
      let same = ap (λ (l : List ℕ). active_of l (task_at m t)) cs ∙ ap (λ (v : Status). highest_of r.ceilings v.base v.inside)
      (sym is) in
      omega (arith, g, same, ap (λ (l : List ℕ). ceiling_of l o) cs)

  -- to leave o is to give up the innermost
  leave-front : (o : ℕ) → step_due r t (status_at b t) ≡ Leave o →
      without o (status_at b t).inside ≡ take (length (status_at b t).inside - 1) (status_at b t).inside
  unfolding low own
  leave-front o n =
      let held = (status_at b t).inside in
      let inner = leave-inner r k t low (status_at b t) own o n in
      let some = ltb-true 0 (length held) (and_left (ltb 0 (length held)) (eqb (get_or held (length held - 1) 0) o) inner) in
      let last =
      eqb-true (get_or held (length held - 1) 0) o (and_right (ltb 0 (length held)) (eqb (get_or held (length held - 1) 0) o) inner) in
      let once = distinct-once (task_at m t).held (h.pending.fair t (t-in m t h e)).once o in
      without-last o held some last (omega (arith, ap (times_in o) held-is, once))

  performed : (x : Step) → step_due r t (status_at b t) ≡ x → Fine ps (took_by b t (status_at b t) x) (perform m x)
  unfolding perform answer_to event_of apply took_by low own
  performed (Enter o) n =
      fine-enter ps b m h a t e o (listed o (enter-listed r k t low (status_at b t) own o n))
      (enter-free r k t low (status_at b t) own o n)
      (under o (enter-high r k t low (status_at b t) own o n))
  performed (Leave o) n =
      let inner : is_innermost (status_at b t).inside o ≡ true = leave-inner r k t low (status_at b t) own o n in
      fine-leave ps b m h a t e o (listed o (leave-listed r k t low (status_at b t) own o n))
      (sym (ap (λ (l : List ℕ). is_innermost l o) held-is) ∙ inner)
      (leave-front o n ∙ ap (λ (l : List ℕ). take (length l - 1) l) held-is)
  performed (Delay d) n =
      fine-delay ps b m h a t e d (k.delays t (status_at b t).position d n) (free-delay r k t low (status_at b t) own d n)
  performed Work n = fine-work ps b m h a t e
  performed Suspend n = fine-suspend ps b m h a t e (free-suspend r k t low (status_at b t) own n)
  performed (Release u) n = fine-release ps b m h a u (omega (arith, release-listed r k t low (status_at b t) own u n, a.size, size))
  performed (Set u p) n =
      subst (λ (y : ℕ). Fine ps (took_by b t (status_at b t) (Set y p)) (perform m (Set y p)))
      (sym (set_own r k t low (status_at b t) own u p n))
      (fine-set ps b m h a t e p.0 (k.sets t (status_at b t).position u p n))
  performed Again n = record { done = refl; good = h; agree = a }
  performed Finish n = fine-finish ps b m h a t e (free-finish r k t low (status_at b t) own n)

  -- what is reckoned afterwards fits the scripts: of the task itself, with the status x at the position n
  one-moved : (x : Status) (n : ℕ) → Fits r t (at_position x n) → (u : ℕ) → u < length r.bases →
      Fits r u (status_at (moved_on (with_status b t x) t n) u)
  unfolding low
  one-moved x n f u l =
      split u t
      (λ i. subst (λ (v : ℕ). Fits r v (status_at (moved_on b₁ t n) u)) (sym i)
      (subst (Fits r t) (sym (at_same (λ (v : Status). v) unknown b₁.tasks t (at_position (status_at b₁ t) n) u i inside-b₁))
      (subst (λ (v : Status). Fits r t (at_position v n)) (sym (at_same (λ (v : Status). v) unknown b.tasks t x t refl inside-b)) f)))
      (λ i. subst (Fits r u)
      (sym (at_other (λ (v : Status). v) unknown b₁.tasks t (at_position (status_at b₁ t) n) u i ∙
      at_other (λ (v : Status). v) unknown b.tasks t x u i))
      (fit u l))
    where
      b₁ : Reckoning
      b₁ = with_status b t x

      inside-b : t < length b.tasks
      inside-b = omega (arith, size, low)

      inside-b₁ : t < length (set b.tasks t x)
      inside-b₁ = omega (arith, size, low, length-set b.tasks t x)

  -- .. of a reckoning in which only permits and absences changed
  moved-faces : (b₂ : Reckoning) (n : ℕ) → length b₂.tasks ≡ length b.tasks →
      ((u : ℕ) → face (status_at b₂ u) ≡ face (status_at b u)) →
      Fits r t (at_position (status_at b t) n) → (u : ℕ) → u < length r.bases → Fits r u (status_at (moved_on b₂ t n) u)
  unfolding low
  moved-faces b₂ n s g f u l =
      split u t
      (λ i. subst (λ (v : ℕ). Fits r v (status_at (moved_on b₂ t n) u)) (sym i)
      (subst (Fits r t)
      (sym (at_same (λ (v : Status). v) unknown b₂.tasks t (at_position (status_at b₂ t) n) u i (omega (arith, s, size, low))))
      (fits-face r t (at_position (status_at b t) n) (at_position (status_at b₂ t) n) (ap (λ (v : Status). at_position v n) (g t)) f)))
      (λ i. subst (Fits r u) (sym (at_other (λ (v : Status). v) unknown b₂.tasks t (at_position (status_at b₂ t) n) u i))
      (fits-face r u (status_at b u) (status_at b₂ u) (g u) (fit u l)))

  kept-faces : (x : Status) → face x ≡ face (status_at b t) → (u : ℕ) → face (status_at (with_status b t x) u) ≡ face (status_at b u)
  kept-faces x f u = at-keeps face unknown b.tasks t x f u

  -- a step behind which the same is held
  on : (x : Step) → step_due r t (status_at b t) ≡ x → (x ≡ Finish → ⊥) → held_after (status_at b t).inside x ≡ (status_at b t).inside →
      Fits r t (at_position (status_at b t) (suc (status_at b t).position))
  unfolding low own
  on x n f g = record {
    within = fits_next r k t low (status_at b t) own x n f;
    held = sym g ∙ held_next r k t low (status_at b t) own x n;
    based = own.based;
    awaits = own.awaits;
  }

  -- behind a Leave, without and with a base that now counts
  left : (o : ℕ) → step_due r t (status_at b t) ≡ Leave o →
      Fits r t (at_position (inside_of (status_at b t) (without o (status_at b t).inside)) (suc (status_at b t).position))
  unfolding low own held_after
  left o n = record {
    within = fits_next r k t low (status_at b t) own (Leave o) n (λ i. let z : ◌≡◌ {A = ℕ} 0 1 = cc in omega arith);
    held = leave-front o n ∙ held_next r k t low (status_at b t) own (Leave o) n;
    based = own.based;
    awaits = own.awaits;
  }

  settled : (o : ℕ) → step_due r t (status_at b t) ≡ Leave o → (w : Option ℕ) → (status_at b t).waiting ≡ w →
      Fits r t (at_position (becomes_base (inside_of (status_at b t) (without o (status_at b t).inside)) w) (suc (status_at b t).position))
  unfolding becomes_base own
  settled o n None i = left o n
  settled o n (Some p) i = let f = left o n in record {
    within = f.within;
    held = f.held;
    based = own.awaits p i;
    awaits = λ q j. absurd (let z : ◌≡◌ {A = ℕ} 0 1 = cc in omega arith);
  }

  abbrev behind : Step → Reckoning
  behind x = moved_on (took_by b t (status_at b t) x) t (position_after (status_at b t).position x)

  disciplined : (x : Step) → step_due r t (status_at b t) ≡ x → (u : ℕ) → u < length r.bases → Fits r u (status_at (behind x) u)
  unfolding took_by position_after low own held_after
  disciplined (Enter o) n = one-moved _ _ (record {
    within = fits_next r k t low (status_at b t) own (Enter o) n (λ i. let z : ◌≡◌ {A = ℕ} 0 1 = cc in omega arith);
    held = held_next r k t low (status_at b t) own (Enter o) n;
    based = own.based;
    awaits = own.awaits;
  })
  disciplined (Leave o) n =
      one-moved _ _
      (both_ways (λ (y : Status). Fits r t (at_position y (suc (status_at b t).position)))
      (eqb (length (without o (status_at b t).inside)) 0) _ _
      (λ z. settled o n (status_at b t).waiting refl) (λ z. left o n))
  disciplined (Delay d) n =
      let x = cond (eqb d 0) (status_at b t) (goes (status_at b t) (until (b.now + d))) in
      moved-faces (with_status b t x) _ (length-set b.tasks t x)
      (kept-faces x (faced-either (eqb d 0) (status_at b t) (status_at b t) (goes (status_at b t) (until (b.now + d))) refl refl))
      (on (Delay d) n (λ i. let z : ◌≡◌ {A = ℕ} 0 1 = cc in omega arith) refl)
  disciplined Work n = moved-faces b _ refl (λ u. refl) (on Work n (λ i. let z : ◌≡◌ {A = ℕ} 0 1 = cc in omega arith) refl)
  disciplined Suspend n =
      let x = cond (status_at b t).permit (permitted (status_at b t) false) (goes (status_at b t) resting) in
      moved-faces (with_status b t x) _ (length-set b.tasks t x)
      (kept-faces x
      (faced-either (status_at b t).permit (status_at b t) (permitted (status_at b t) false)
      (goes (status_at b t) resting) refl refl))
      (on Suspend n (λ i. let z : ◌≡◌ {A = ℕ} 0 1 = cc in omega arith) refl)
  disciplined (Release v) n =
      moved-faces (released_in b v) _ (length-set b.tasks v _) (release-faces b v)
      (on (Release v) n (λ i. let z : ◌≡◌ {A = ℕ} 0 1 = cc in omega arith) refl)
  disciplined (Set u p) n =
      subst (λ (y : ℕ). (v : ℕ) → v < length r.bases →
      Fits r v (status_at (moved_on (took_by b t (status_at b t) (Set y p)) t (suc (status_at b t).position)) v))
      (sym (set_own r k t low (status_at b t) own u p n))
      (one-moved _ _
      (both_ways (λ (y : Status). Fits r t (at_position y (suc (status_at b t).position)))
      (eqb (length (status_at b t).inside) 0) _ _
      (λ z. record {
        within = same.within;
        held = same.held;
        based = set-under r k t low (status_at b t) own u p n;
        awaits = λ q i. absurd (let y : ◌≡◌ {A = ℕ} 0 1 = cc in omega arith);
      })
      (λ z. record {
        within = same.within;
        held = same.held;
        based = own.based;
        awaits = λ q i. let y : p.0 ≡ q = cc in omega (arith, y, set-under r k t low (status_at b t) own u p n);
      })))
    where
      same : Fits r t (at_position (status_at b t) (suc (status_at b t).position))
      same = on (Set u p) n (λ i. let z : ◌≡◌ {A = ℕ} 0 1 = cc in omega arith) refl
  disciplined Again n = moved-faces b 0 refl (λ u. refl) (record {
    within = omega arith;
    held = no-list (status_at b t).inside (free-again r k t low (status_at b t) own n) ∙ sym (none_before (script_of r t));
    based = own.based;
    awaits = own.awaits;
  })
  disciplined Finish n =
      moved-faces (with_status b t (goes (status_at b t) gone)) _ (length-set b.tasks t _)
      (kept-faces (goes (status_at b t) gone) refl)
      (record { within = own.within; held = own.held; based = own.based; awaits = own.awaits })

  -- the step itself, with its position in the script
  stepped : (c : Config) → c.model ≡ m → c.positions ≡ ps → (n : ℕ) → n ≡ (status_at b t).position →
      Inv r (advance c t (position_after n (next_step r t n)) (perform m (next_step r t n))).config
      (cond (is_done (advance c t (position_after n (next_step r t n)) (perform m (next_step r t n))).answer) (took r b (Some t)) b)
  unfolding took advance low
  stepped c cm cp n i =
      subst (λ (v : ℕ). Inv r (advance c t (position_after v (next_step r t v)) (perform m (next_step r t v))).config
      (cond (is_done (advance c t (position_after v (next_step r t v)) (perform m (next_step r t v))).answer) (took r b (Some t)) b))
      (sym i)
      (subst (Inv r _) (sym (cond-true (is_done (perform m x).answer) (behind x) b (done-is _ f.done)))
      (record {
        good = f.good;
        agree = subst (Agree (behind x) (perform m x).model.now (perform m x).model.tasks) positions moved;
        ceilings = perform-fixed m x ∙ cs;
        size = length-set (took_by b t (status_at b t) x).tasks t _ ∙ took-size b t (status_at b t) x ∙ size;
        fits = disciplined x refl;
      }))
    where
      x : Step
      x = step_due r t (status_at b t)

      f : Fine ps (took_by b t (status_at b t) x) (perform m x)
      f = performed x refl

      at : ℕ
      at = position_after (status_at b t).position x

      moved : Agree (behind x) (perform m x).model.now (perform m x).model.tasks (set ps t at)
      moved = agree-position _ _ _ ps f.agree t at (omega (arith, low, f.agree.size, took-size b t (status_at b t) x, size))

      positions : set ps t at ≡ cond (is_done (perform m x).answer) (set c.positions t at) c.positions
      positions =
          ap (λ (l : List ℕ). set l t at) (sym cp) ∙
          sym (cond-true (is_done (perform m x).answer) (set c.positions t at) c.positions (done-is _ f.done))

by-step : (r : Roster) → Orderly r → (c : Config) (b : Reckoning) → Inv r c b → (w : Option ℕ) → c.model.running ≡ w →
    Inv r (step_by r c w).config (cond (is_done (step_by r c w).answer) (took r b w) b)
unfolding step_by
by-step r k c b i None e = i
by-step r k c b i (Some t) e =
    stepped r k c.model c.positions b i.good i.agree i.ceilings i.size i.fits t e c refl refl (position_at c t)
    (ap (λ (v : Status). v.position) (sym (i.agree.each t)))

-- every event
pub by-event : (r : Roster) → Orderly r → (c : Config) (b : Reckoning) → Inv r c b → (e : Event) →
    Inv r (happen r c (input_of e)).config
    (noted r b (record { event = e; answer = (happen r c (input_of e)).answer; ran = c.model.running }))
unfolding happen input_of noted happened
by-event r k c b i (read x) = by-clock r c b i x
by-event r k c b i (free t) = by-release r c b i t
by-event r k c b i step = by-step r k c b i c.model.running refl

-- a step is done where somebody runs
pub step-done : (r : Roster) → Orderly r → (c : Config) (b : Reckoning) → Inv r c b → (t : ℕ) → c.model.running ≡ Some t →
    (step_by r c c.model.running).answer ≡ Ok tt
unfolding step_by advance
step-done r k c b i t e =
    subst (λ (w : Option ℕ). (step_by r c w).answer ≡ Ok tt) (sym e)
    (subst (λ (v : ℕ). (perform c.model (next_step r t v)).answer ≡ Ok tt) (ap (λ (v : Status). v.position) (i.agree.each t))
    (performed r k c.model c.positions b i.good i.agree i.ceilings i.size i.fits t e
    (step_due r t (status_at b t)) refl).done)
