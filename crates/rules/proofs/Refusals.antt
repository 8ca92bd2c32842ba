-- The table of refusals (specs/Refusals.antt) is what events answer by, and a refused event gives back the Model that it got.
use mathlib.Core.Path.{◌≡◌, refl, ap, ◌∙◌, sym}
use mathlib.Core.Bool.{Bool, true, false, cond, not}
use mathlib.Core.List.{List, [], ◌∷◌}
use Prim.Native.Nat.{ℕ, zero, suc, ◌+◌, ◌<◌}
use native.Mathlib.Nat.{not-suc-le-zero}
use native.Mathlib.Omega.{arith}
use mathlib.Core.Logic.{◌↔◌, ◌⊎◌, inl, inr}
use Rattle.std.specs.Prelude.{None, Option, Some, ℕ, Ok, Err}
use Rattle.rules.specs.Priorities.{in_range}
use Rattle.rules.specs.Answers.{Answer, number_of, refusal_number}
use Rattle.rules.specs.Model.{Model, task_at}
use Rattle.rules.specs.Moved.{Moved, is_nobody, refused, accepted, refuse_if_nobody}
use Rattle.rules.specs.Events.{no_task, no_object, is_ended, apply}
use Rattle.rules.specs.Events.{enter, leave, delay, suspend, release, clock, set_base, work, finish, bad_reading}
use Rattle.rules.specs.declared.Event.{Event}
use Rattle.rules.specs.declared.Event.TheVariants.{Enter, Leave, Delay, Suspend, Release, Clock, Set, Work, Finish}
use Rattle.rules.specs.declared.Refusal.{Refusal}
use Rattle.rules.specs.declared.Refusal.TheVariants.{NoSuchTask, NoSuchObject, BadPriority, BadReading, NobodyRuns, EndedTask}
use Rattle.rules.specs.declared.Refusal.TheVariants.{InsideAction, AboveCeiling, NotInnermost, Unsound, BadCounts, BadBases}
use Rattle.rules.specs.Effect.{effect}
use Rattle.rules.specs.Refusals.{no_such_task, no_such_object, bad_priority, bad_clock, nobody_runs, ended_task, inside_action}
use Rattle.rules.specs.Refusals.{above_ceiling}
use Rattle.rules.specs.Refusals.{not_innermost, of_runner, table, lowest, applies_at, First, Row, RefusalsClaim}
use Rattle.rules.proofs.Choices.{both_ways, cond-true, cond-false}
use Rattle.rules.proofs.Ways.{each_way}

-- the answer of a choice
answer-cond : (b : Bool) (x y : Moved) → (cond b x y).answer ≡ cond b x.answer y.answer
answer-cond true x y = refl
answer-cond false x y = refl

-- an event of the running task with the tests f and g: refused, or accepted
one-test : (m : Model) (w : Option ℕ) (a : Refusal) (f : ℕ → Bool) (x : ℕ → Model) →
    (refuse_if_nobody m w (λ t. cond (f t) (refused m a) (accepted m.running (x t)))).answer ≡
    cond (is_nobody w) (Err NobodyRuns) (cond (of_runner w f) (Err a) (Ok tt))
unfolding refuse_if_nobody of_runner is_nobody accepted
one-test m None a f x = refl
one-test m (Some t) a f x = answer-cond (f t) (refused m a) (accepted m.running (x t))

two-tests : (m : Model) (w : Option ℕ) (a b : Refusal) (f g : ℕ → Bool) (x : ℕ → Model) →
    (refuse_if_nobody m w (λ t. cond (f t) (refused m a) (cond (g t) (refused m b) (accepted m.running (x t))))).answer ≡
    cond (is_nobody w) (Err NobodyRuns) (cond (of_runner w f) (Err a) (cond (of_runner w g) (Err b) (Ok tt)))
unfolding refuse_if_nobody of_runner is_nobody accepted
two-tests m None a b f g x = refl
two-tests m (Some t) a b f g x =
    answer-cond (f t) (refused m a) (cond (g t) (refused m b) (accepted m.running (x t))) ∙
    ap (cond (f t) (Err a)) (answer-cond (g t) (refused m b) (accepted m.running (x t)))

no_test : (m : Model) (w : Option ℕ) → (refuse_if_nobody m w (λ t. accepted m.running m)).answer ≡
    cond (is_nobody w) (Err NobodyRuns) (Ok tt)
unfolding refuse_if_nobody is_nobody accepted
no_test m None = refl
no_test m (Some t) = refl

-- every event answers with the lowest row that applies
pub answers : (m : Model) (e : Event) → (apply m e).answer ≡ lowest (table m e)
unfolding apply enter leave delay suspend release clock set_base work finish accepted lowest table
    no_such_task no_such_object bad_priority bad_clock nobody_runs ended_task inside_action above_ceiling not_innermost
answers m (Enter o) =
    answer-cond (no_object m o) (refused m NoSuchObject) _ ∙ ap (cond (no_object m o) (Err NoSuchObject)) (two-tests m m.running _ _ _ _ _)
answers m (Leave o) =
    answer-cond (no_object m o) (refused m NoSuchObject) _ ∙ ap (cond (no_object m o) (Err NoSuchObject)) (one-test m m.running _ _ _)
answers m (Delay d) = one-test m m.running _ _ _
answers m Suspend = one-test m m.running _ _ _
answers m (Release t) = answer-cond (no_task m t) (refused m NoSuchTask) _
answers m (Clock r) = answer-cond (bad_reading m.now r) (refused m BadReading) _
answers m (Set t p) =
    answer-cond (no_task m t) (refused m NoSuchTask) _ ∙
    ap (cond (no_task m t) (Err NoSuchTask))
    (answer-cond (not (in_range p.0)) (refused m BadPriority) _ ∙
    ap (cond (not (in_range p.0)) (Err BadPriority)) (answer-cond (is_ended (task_at m t).place) (refused m EndedTask) _))
answers m Work = no_test m m.running
answers m Finish = one-test m m.running _ _ _

-- rows whose answers are numbered from suc i on
unfoldable Numbered : ℕ → List Row → Type 0
Numbered i [] = Unit
Numbered i (r ∷ rs) = (refusal_number r.refusal ≡ suc i) × Numbered (suc i) rs

-- the lowest answer is 0, or numbered above i
lowest-above : (i : ℕ) (rs : List Row) → Numbered i rs → 0 < number_of (lowest rs) → i < number_of (lowest rs)
unfolding Numbered lowest
lowest-above i [] n h = absurd (not-suc-le-zero h)
lowest-above i (r ∷ rs) n h = go r.applies (lowest-above (suc i) rs n.1) h
  where
    go : (b : Bool) → (0 < number_of (lowest rs) → suc i < number_of (lowest rs)) → 0 < number_of (cond b (Err r.refusal) (lowest rs)) →
        i < number_of (cond b (Err r.refusal) (lowest rs))
    go true f g = omega (arith, n.0)
    go false f g = omega (arith, f g)

lowest-is : (i : ℕ) (rs : List Row) (j : ℕ) → Numbered i rs → First rs j → number_of (lowest rs) ≡ suc (i + j)
unfolding Numbered lowest applies_at
lowest-is i [] j n f = absurd (let z : ◌≡◌ {A = ℕ} 0 1 = cc f.applies in omega arith)
lowest-is i (r ∷ rs) zero n f = ap number_of (cond-true r.applies (Err r.refusal) (lowest rs) f.applies) ∙ n.0 ∙ omega arith
lowest-is i (r ∷ rs) (suc j) n f =
    let rest : First rs j = record { applies = f.applies; none = λ k h. f.none (suc k) (omega arith) } in
    ap number_of (cond-false r.applies (Err r.refusal) (lowest rs) (f.none 0 (omega arith))) ∙ lowest-is (suc i) rs j n.1 rest ∙
    omega arith

-- a first row behind one that does not apply
behind : (r : Row) (rs : List Row) (j : ℕ) → r.applies ≡ false → First rs j → First (r ∷ rs) (suc j)
unfolding applies_at
behind r rs j a f = record { applies = f.applies; none = below }
  where
    below : (k : ℕ) → k < suc j → applies_at (r ∷ rs) k ≡ false
    below zero h = a
    below (suc k) h = f.none k (omega arith)

module _ (i : ℕ) (r : Row) (rs : List Row) (n : Numbered i (r ∷ rs)) where
  first-there : (j : ℕ) → r.applies ≡ true → refusal_number r.refusal ≡ suc (i + j) → First (r ∷ rs) j
  unfolding Numbered applies_at
  first-there zero a e = record { applies = a; none = λ k h. absurd (not-suc-le-zero h) }
  first-there (suc j) a e = absurd (omega (arith, e, n.0))

lowest-from : (i : ℕ) (rs : List Row) (j : ℕ) → Numbered i rs → number_of (lowest rs) ≡ suc (i + j) → First rs j
unfolding Numbered lowest
lowest-from i [] j n e = absurd (omega arith)
lowest-from i (r ∷ rs) zero n e =
    both_ways (λ (a : Answer). number_of a ≡ suc (i + 0) → First (r ∷ rs) 0) r.applies (Err r.refusal) (lowest rs)
    (λ a. first-there i r rs n 0 a)
    (λ a f. absurd (omega (arith, f, lowest-above (suc i) rs n.1 (omega (arith, f))))) e
lowest-from i (r ∷ rs) (suc j) n e =
    both_ways (λ (a : Answer). number_of a ≡ suc (i + suc j) → First (r ∷ rs) (suc j)) r.applies (Err r.refusal) (lowest rs)
    (λ a. first-there i r rs n (suc j) a) (λ a f. behind r rs j a (lowest-from (suc i) rs j n.1 (f ∙ omega arith))) e

numbered : (m : Model) (e : Event) → Numbered 0 (table m e)
unfolding Numbered table
numbered m e = (refl, (refl, (refl, (refl, (refl, (refl, (refl, (refl, (refl, tt)))))))))

-- an event answers n, from 1 on, exactly when row n applies and no lower row does
pub exactly-when : (m : Model) (e : Event) (j : ℕ) → (number_of (apply m e).answer ≡ suc j) ↔ First (table m e) j
exactly-when m e j = (
  λ h. lowest-from 0 (table m e) j (numbered m e) (sym (ap number_of (answers m e)) ∙ h ∙ omega arith),
  λ f. ap number_of (answers m e) ∙ lowest-is 0 (table m e) j (numbered m e) f ∙ omega arith,
)

-- where row j applies there is a first that does
first_of : (rs : List Row) (j : ℕ) → (applies_at rs j ≡ false) ⊎ ((k : ℕ) × First rs k)
unfolding applies_at
first_of [] j = inl refl
first_of (r ∷ rs) j = go r.applies refl (λ i. first_of rs i) j
  where
    go : (b : Bool) → r.applies ≡ b → ((i : ℕ) → (applies_at rs i ≡ false) ⊎ ((k : ℕ) × First rs k)) → (j : ℕ) →
        (applies_at (r ∷ rs) j ≡ false) ⊎ ((k : ℕ) × First (r ∷ rs) k)
    go true a f j = inr (0, record { applies = a; none = λ k h. absurd (not-suc-le-zero h) })
    go false a f zero = inl a
    go false a f (suc j) = next (f j)
      where
        next : (applies_at rs j ≡ false) ⊎ ((k : ℕ) × First rs k) → (applies_at (r ∷ rs) (suc j) ≡ false) ⊎ ((k : ℕ) × First (r ∷ rs) k)
        next (inl e) = inl e
        next (inr e) = inr (suc e.0, behind r rs e.0 a e.1)

-- and 0 exactly when no row applies
none-apply : (rs : List Row) → ((j : ℕ) → applies_at rs j ≡ false) → lowest rs ≡ Ok tt
unfolding lowest applies_at
none-apply [] h = refl
none-apply (r ∷ rs) h = cond-false r.applies (Err r.refusal) (lowest rs) (h 0) ∙ none-apply rs (λ j. h (suc j))

pub done-when : (m : Model) (e : Event) → ((j : ℕ) → applies_at (table m e) j ≡ false) → (apply m e).answer ≡ Ok tt
done-when m e h = answers m e ∙ none-apply (table m e) h

pub done-only-when : (m : Model) (e : Event) → (apply m e).answer ≡ Ok tt → (j : ℕ) → applies_at (table m e) j ≡ false
done-only-when m e d j = go (first_of (table m e) j)
  where
    z : number_of (apply m e).answer ≡ 0
    z = ap number_of d

    go : (applies_at (table m e) j ≡ false) ⊎ ((k : ℕ) × First (table m e) k) → applies_at (table m e) j ≡ false
    go (inl f) = f
    go (inr f) = absurd (omega (arith, z, (exactly-when m e f.0).1 f.1))

-- "Any refusal returns the state unchanged."
abbrev Unchanged : Model → Moved → Type 0
Unchanged m r = (r.answer ≡ Ok tt → ⊥) → r.model ≡ m

same-done : (m : Model) (w : Option ℕ) (n : Model) → Unchanged m (accepted w n)
unfolding accepted
same-done m w n f = absurd (f refl)

pub refused-same : (m : Model) (e : Event) → ((apply m e).answer ≡ Ok tt → ⊥) → (apply m e).model ≡ m
refused-same m e = each_way (Unchanged m) m (λ a f. refl) e (same-done m m.running (effect m e))

pub refusals : RefusalsClaim
refusals m e = record {
  wins = answers m e;
  exactly = exactly-when m e;
  done = (done-only-when m e, done-when m e);
  unchanged = refused-same m e;
}

-- a fact of every refusal, and of the accepted event where no row applies, is one of the event
pub each-done : (P : Moved → Type 0) (m : Model) (e : Event) → ((a : Refusal) → P (refused m a)) →
    (((j : ℕ) → applies_at (table m e) j ≡ false) → P (accepted m.running (effect m e))) → P (apply m e)
unfolding accepted
each-done P m e bad good =
    each_way (λ (r : Moved). r ≡ apply m e → P r) m (λ a q. bad a) e
    (λ q. good (done-only-when m e (ap (λ (r : Moved). r.answer) (sym q)))) refl

-- of a test of the running task: what does not apply to it
pub of-task : (w : Option ℕ) (f : ℕ → Bool) (t : ℕ) → w ≡ Some t → of_runner w f ≡ false → f t ≡ false
unfolding of_runner
of-task w f t e h = sym (ap (λ (v : Option ℕ). of_runner v f) e) ∙ h

-- 0 is the number of done alone
pub number-done : (a : Answer) → number_of a ≡ 0 → a ≡ Ok tt
number-done (Ok done) e = refl
number-done (Err NoSuchTask) e = absurd (omega arith)
number-done (Err NoSuchObject) e = absurd (omega arith)
number-done (Err BadPriority) e = absurd (omega arith)
number-done (Err BadReading) e = absurd (omega arith)
number-done (Err NobodyRuns) e = absurd (omega arith)
number-done (Err EndedTask) e = absurd (omega arith)
number-done (Err InsideAction) e = absurd (omega arith)
number-done (Err AboveCeiling) e = absurd (omega arith)
number-done (Err NotInnermost) e = absurd (omega arith)
number-done (Err Unsound) e = absurd (omega arith)
number-done (Err BadCounts) e = absurd (omega arith)
number-done (Err BadBases) e = absurd (omega arith)

-- done or not
pub by_answer : {C : Type 0} (a : Answer) → (a ≡ Ok tt → C) → ((a ≡ Ok tt → ⊥) → C) → C
by_answer (Ok done) f g = f refl
by_answer (Err e) f g = g (λ d. absurd (cc d))
