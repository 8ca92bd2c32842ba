-- The steps of scripts before their dispatch: those of a low task are not seen, and those of a high one are the same in both Models.
use mathlib.Core.Path.{◌≡◌, refl, ap, ◌∙◌, sym, subst}
use mathlib.Core.Bool.{Bool, true, false}
use mathlib.Core.List.{List, [], ◌∷◌, ◌++◌}
use Prim.Native.Nat.{ℕ, ◌+◌, ◌-◌, ◌≤◌, ◌<◌}
use native.Mathlib.Omega.{arith}
use borrow.Author.Tests.{le-leb}
use lib.Dec.{eqb}
use lib.ListN.{length, take, length-set}
use Rattle.std.specs.Prelude.{None, Option, Some, ℕ, Ok}
use Rattle.rules.specs.Limits.{task_limit, last_delay}
use Rattle.rules.specs.Model.{Model, TaskRecord, blank, with_place, with_base, with_waiting, with_permit, with_held}
use Rattle.rules.specs.Model.{task_at, with_task, active_of, active}
use Rattle.rules.specs.Moves.{become_ready, stopped, dispatch}
use Rattle.rules.specs.Events.{inside, take_hold, give_up, settle, put_off, rest, end, permit_on, release_from, requeue, rebase, apply}
use Rattle.rules.specs.Effect.{for_runner, effect}
use Rattle.rules.specs.Histories.{delay_fits}
use Rattle.rules.specs.Sound.{rising}
use Rattle.rules.specs.declared.Priority.{Priority}
use Rattle.rules.specs.declared.Event.{Event}
use Rattle.rules.specs.declared.Event.TheVariants as event
use Rattle.rules.specs.declared.Place.{Place}
use Rattle.rules.specs.declared.Place.TheVariants.{Running, Ready, Delayed, Suspended, Ended}
use Rattle.rules.proofs.TaskLaws.{at-keeps}
use Rattle.rules.proofs.Core.{act-low}
use Rattle.rules.proofs.DispatchLaws.{runner-place, running-place}
use Rattle.rules.proofs.Pending.{Pending, Good, t-in}
use Rattle.rules.proofs.Kept.{pending_done}
use Rattle.rules.proofs.Effects.{done-model}
use Rattle.rules.proofs.StillLaws.{still}
use Rattle.rules.proofs.EventLaws.{settle-inside, settle-none, settle-due, put-tail, put-until, rest-permit, rest-none}
use Rattle.rules.proofs.EventLaws.{rebase-inside, rebase-outside}
use Rattle.format.specs.declared.Step.{Step}
use Rattle.format.specs.declared.Step.TheVariants.{Enter, Leave, Delay, Work, Suspend, Release, Set, Again, Finish}
use Rattle.trace.specs.Config.{event_of, answer_to, perform}
use Rattle.isolation.proofs.View.{View, view-sym, view-is, task-both, ready-both, stopped-both, task-low, ready-low}
use Rattle.isolation.proofs.View.{stopped-low}
use Rattle.isolation.proofs.Layers.{Firm, same-active, view-active}

-- what the step x of the running task t does, up to the dispatch
unfoldable pub step_effect : Model → ℕ → Step → Model
step_effect m t (Enter o) = take_hold m o t
step_effect m t (Leave o) = settle (give_up m t) t
step_effect m t (Delay d) = put_off (stopped m) t d
step_effect m t Work = m
step_effect m t Suspend = rest m t
step_effect m t (Release u) = release_from m u (task_at m u).place
step_effect m t (Set u q) = rebase m u q.0
step_effect m t Again = m
step_effect m t Finish = end m t

pub record Taken (m n after : Model) : Type 0 where
  pub model : after ≡ dispatch n
  pub pending : Pending true n

-- an event of the rules that is done and has the effect n
by-rule : (m n : Model) (x : Event) → Good true m → effect m x ≡ n → delay_fits x ≡ true → (apply m x).answer ≡ Ok tt →
    Taken m n (apply m x).model
by-rule m n x h i f d = record { model = done-model m x d ∙ ap dispatch i; pending = subst (Pending true) i (pending_done m x f h d) }

-- a step that is done
pub taken : (m : Model) (t : ℕ) (x : Step) → Good true m → m.running ≡ Some t → ((d : ℕ) → x ≡ Delay d → d ≤ last_delay) →
    (perform m x).answer ≡ Ok tt → Taken m (step_effect m t x) (perform m x).model
unfolding perform answer_to event_of step_effect effect for_runner delay_fits
taken m t (Enter o) h e f d = by-rule m _ (event.Enter o) h (ap (λ (w : Option ℕ). for_runner m w (take_hold m o)) e) refl d
taken m t (Leave o) h e f d = by-rule m _ (event.Leave o) h (ap (λ (w : Option ℕ). for_runner m w (λ u. settle (give_up m u) u)) e) refl d
taken m t (Delay b) h e f d =
    by-rule m _ (event.Delay b) h
    (ap (λ (w : Option ℕ). for_runner m w (λ u. put_off (stopped m) u b)) e) (le-leb b last_delay (f b refl)) d
taken m t Work h e f d = by-rule m _ event.Work h refl refl d
taken m t Suspend h e f d = by-rule m _ event.Suspend h (ap (λ (w : Option ℕ). for_runner m w (rest m)) e) refl d
taken m t (Release u) h e f d = by-rule m _ (event.Release u) h refl refl d
taken m t (Set u q) h e f d = by-rule m _ (event.Set u q) h refl refl d
taken m t Again h e f d = record { model = sym (still m t h e); pending = h.pending }
taken m t Finish h e f d = by-rule m _ event.Finish h (ap (λ (w : Option ℕ). for_runner m w (end m)) e) refl d

-- what the check asks of a step of task t
pub record Ruled (ts : List TaskRecord) (t : ℕ) (x : Step) : Type 0 where
  pub own : (u : ℕ) (q : Priority) → x ≡ Set u q → u ≡ t
  pub listed : (u : ℕ) → x ≡ Release u → u < length ts

module _ (p : ℕ) (high : ℕ → Bool) where
  -- a task that becomes ready: what holds of the Model afterwards is enough
  abbrev joined : Model → ℕ → TaskRecord
  joined m t = with_place (task_at m t) Ready

  low-joins : (m n : Model) → View p high m n → (t : ℕ) → high t ≡ false → t < length n.tasks → Firm p high (become_ready n t) →
      View p high m (become_ready n t)
  unfolding become_ready
  low-joins m n v t h l f =
      let same = at-keeps (active_of n.ceilings) blank n.tasks t (joined n t) refl t in
      let i : t < length (become_ready n t).tasks = omega (arith, l, length-set n.tasks t (joined n t)) in
      ready-low p high m n v t h (omega (arith, same, act-low (become_ready n t) task_limit f.pending.core t i))
      (omega (arith, same, f.layer.down t h i))

  both-join : (m n : Model) → View p high m n → (t : ℕ) → high t ≡ true → Firm p high (become_ready m t) →
      View p high (become_ready m t) (become_ready n t)
  unfolding become_ready
  both-join m n v t h f =
      let i : t < length (become_ready m t).tasks = omega (arith, (v.listed t h).0, length-set m.tasks t (joined m t)) in
      let base = at-keeps (λ (k : TaskRecord). k.base) blank m.tasks t (joined m t) refl t in
      let rises = at-keeps (λ (k : TaskRecord). rising m.ceilings k.base k.held) blank m.tasks t (joined m t) refl t in
      ready-both p high m n v t h
      (same-active p m.ceilings n.ceilings v.ceilings (task_at m t) (omega (arith, base, f.layer.up t h))
      (sym rises ∙ (f.pending.fair t i).rises) ∙
      ap (active_of n.ceilings) (v.tasks t h))

  -- Release
  pub release-low : (m n : Model) → View p high m n → (u : ℕ) → high u ≡ false → u < length n.tasks → Firm p high n → (x : Place) →
      View p high m (release_from n u x)
  unfolding release_from
  release-low m n v u h l f Running = task-low p high m n v u h _
  release-low m n v u h l f Ready = task-low p high m n v u h _
  release-low m n v u h l f (Delayed d) = task-low p high m n v u h _
  release-low m n v u h l f Suspended =
      ready-low p high m n v u h (act-low n task_limit f.pending.core u l) (f.layer.down u h l)
  release-low m n v u h l f Ended = task-low p high m n v u h _

  pub release-high : (m n : Model) → View p high m n → (u : ℕ) → high u ≡ true → active m u ≡ active n u → (x : Place) →
      View p high (release_from m u x) (release_from n u x)
  unfolding release_from
  release-high m n v u h e x = go x
    where
      on : View p high (permit_on m u) (permit_on n u)
      on = task-both p high m n v u h _ _ (ap (λ (k : TaskRecord). with_permit k true) (v.tasks u h))

      go : (y : Place) → View p high (release_from m u y) (release_from n u y)
      go Running = on
      go Ready = on
      go (Delayed d) = on
      go Suspended = ready-both p high m n v u h e
      go Ended = on

  -- of any task that both have
  pub release-both : (m n : Model) → View p high m n → (u : ℕ) → u < length m.tasks → u < length n.tasks → Firm p high m →
      Firm p high n → View p high (release_from m u (task_at m u).place) (release_from n u (task_at n u).place)
  release-both m n v u i j f g = by (high u) refl
    where
      x : Model
      x = release_from m u (task_at m u).place

      by : (b : Bool) → high u ≡ b → View p high x (release_from n u (task_at n u).place)
      by true h =
          subst (λ (y : Place). View p high x (release_from n u y)) (ap (λ (k : TaskRecord). k.place) (v.tasks u h))
          (release-high m n v u h (view-active p high m n v f u h) (task_at m u).place)
      by false h =
          let w = view-sym p high m n v in
          let left = release-low n m w u h i f (task_at m u).place in
          release-low x n (view-sym p high n x left) u h j g (task_at n u).place

  -- a low task t of m runs
  module _ (m : Model) (t : ℕ) (good : Good true m) (e : m.running ≡ Some t) (h : high t ≡ false) (self : View p high m m) where
    running-at : (task_at m t).place ≡ Running
    running-at = running-place (task_at m t).place (runner-place m t good.pending.core e)

    low-in : t < length m.tasks
    low-in = t-in m t good e

    off : View p high m (stopped m)
    off = stopped-low p high m m self t h e

    -- it leaves the processor with a new record and goes to a tail
    low_again : (n : Model) → View p high m n → n.running ≡ Some t → length n.tasks ≡ length m.tasks → (k : TaskRecord) →
        Firm p high (become_ready (stopped (with_task n t k)) t) → View p high m (become_ready (stopped (with_task n t k)) t)
    unfolding stopped
    low_again n v w c k f =
        low-joins m (stopped (with_task n t k))
        (stopped-low p high m (with_task n t k) (task-low p high m n v t h k) t h w) t h
        (omega (arith, low-in, c, length-set n.tasks t k)) f

    low-leave : Firm p high (settle (give_up m t) t) → View p high m (settle (give_up m t) t)
    low-leave f = by (inside (task_at n t)) refl
      where
        n : Model
        n = give_up m t

        v : View p high m n
        v = task-low p high m m self t h _

        due : (w : Option ℕ) → (task_at n t).waiting ≡ w → inside (task_at n t) ≡ false → View p high m (settle n t)
        due None w z = subst (View p high m) (sym (settle-none n t z w)) v
        due (Some q) w z =
            let is = settle-due n t q z w in
            subst (View p high m) (sym is)
            (low_again n v e (length-set m.tasks t _) (with_waiting (with_base (task_at n t) q) None) (subst (Firm p high) is f))

        by : (b : Bool) → inside (task_at n t) ≡ b → View p high m (settle n t)
        by true z = subst (View p high m) (sym (settle-inside n t z)) v
        by false z = due (task_at n t).waiting refl z

    low-delay : (d : ℕ) → Firm p high (put_off (stopped m) t d) → View p high m (put_off (stopped m) t d)
    unfolding stopped
    low-delay d f = by (eqb d 0) refl
      where
        by : (b : Bool) → eqb d 0 ≡ b → View p high m (put_off (stopped m) t d)
        by true z =
            let is = put-tail (stopped m) t d z in
            subst (View p high m) (sym is) (low-joins m (stopped m) off t h low-in (subst (Firm p high) is f))
        by false z = subst (View p high m) (sym (put-until (stopped m) t d z)) (task-low p high m (stopped m) off t h _)

    low-rest : View p high m (rest m t)
    low-rest = by (task_at m t).permit refl
      where
        by : (b : Bool) → (task_at m t).permit ≡ b → View p high m (rest m t)
        by true z = subst (View p high m) (sym (rest-permit m t z)) (task-low p high m m self t h _)
        by false z = subst (View p high m) (sym (rest-none m t z)) (task-low p high m (stopped m) off t h _)

    low-set : (q : ℕ) → Firm p high (rebase m t q) → View p high m (rebase m t q)
    unfolding requeue
    low-set q f = by (inside (task_at m t)) refl
      where
        k : TaskRecord
        k = with_base (task_at m t) q

        by : (b : Bool) → inside (task_at m t) ≡ b → View p high m (rebase m t q)
        by true z = subst (View p high m) (sym (rebase-inside m t q z)) (task-low p high m m self t h _)
        by false z =
            let is : rebase m t q ≡ become_ready (stopped (with_task m t k)) t =
            rebase-outside m t q z ∙ ap (requeue (with_task m t k) t (active m t)) running-at in
            subst (View p high m) (sym is) (low_again m self e refl k (subst (Firm p high) is f))

    pub low-effect : (x : Step) → Ruled m.tasks t x → ((u : ℕ) → x ≡ Release u → high u ≡ false) → Firm p high m →
        Firm p high (step_effect m t x) → View p high m (step_effect m t x)
    unfolding step_effect
    low-effect (Enter o) r a g f = task-low p high m m self t h _
    low-effect (Leave o) r a g f = low-leave f
    low-effect (Delay d) r a g f = low-delay d f
    low-effect Work r a g f = self
    low-effect Suspend r a g f = low-rest
    low-effect (Release u) r a g f = release-low m m self u (a u refl) (r.listed u refl) g (task_at m u).place
    low-effect (Set u q) r a g f =
        subst (λ (y : ℕ). Firm p high (rebase m y q.0) → View p high m (rebase m y q.0)) (sym (r.own u q refl)) (low-set q.0) f
    low-effect Again r a g f = self
    low-effect Finish r a g f = task-low p high m (stopped m) off t h _

  -- the same high task t runs in m and n
  module _ (m n : Model) (t : ℕ) (good : Good true m) (fine : Good true n) (e : m.running ≡ Some t) (d : n.running ≡ Some t)
      (h : high t ≡ true) (v : View p high m n) where
    same : task_at m t ≡ task_at n t
    same = v.tasks t h

    runs-left : (task_at m t).place ≡ Running
    runs-left = running-place (task_at m t).place (runner-place m t good.pending.core e)

    runs-right : (task_at n t).place ≡ Running
    runs-right = running-place (task_at n t).place (runner-place n t fine.pending.core d)

    both-off : View p high (stopped m) (stopped n)
    both-off = stopped-both p high m n v

    -- it leaves both processors with a new record and goes to the tails
    both-again : (x y : Model) → View p high x y → (k l : TaskRecord) → k ≡ l → Firm p high (become_ready (stopped (with_task x t k)) t) →
        View p high (become_ready (stopped (with_task x t k)) t) (become_ready (stopped (with_task y t l)) t)
    both-again x y w k l i f =
        both-join (stopped (with_task x t k)) (stopped (with_task y t l))
        (stopped-both p high (with_task x t k) (with_task y t l) (task-both p high x y w t h k l i)) t h f

    both-leave : Firm p high (settle (give_up m t) t) → View p high (settle (give_up m t) t) (settle (give_up n t) t)
    both-leave f = by (inside (task_at x t)) refl
      where
        x : Model
        x = give_up m t

        y : Model
        y = give_up n t

        w : View p high x y
        w = task-both p high m n v t h _ _ (ap (λ (k : TaskRecord). with_held k (take (length k.held - 1) k.held)) same)

        at : task_at x t ≡ task_at y t
        at = w.tasks t h

        due : (a : Option ℕ) → (task_at x t).waiting ≡ a → inside (task_at x t) ≡ false → View p high (settle x t) (settle y t)
        due None i z =
            view-is p high x y (settle x t) (settle y t) (settle-none x t z i)
            (settle-none y t (sym (ap inside at) ∙ z) (sym (ap (λ (k : TaskRecord). k.waiting) at) ∙ i)) w
        due (Some q) i z =
            let is = settle-due x t q z i in
            view-is p high _ _ (settle x t) (settle y t) is
            (settle-due y t q (sym (ap inside at) ∙ z) (sym (ap (λ (k : TaskRecord). k.waiting) at) ∙ i))
            (both-again x y w _ _ (ap (λ (k : TaskRecord). with_waiting (with_base k q) None) at) (subst (Firm p high) is f))

        by : (b : Bool) → inside (task_at x t) ≡ b → View p high (settle x t) (settle y t)
        by true z = view-is p high x y (settle x t) (settle y t) (settle-inside x t z) (settle-inside y t (sym (ap inside at) ∙ z)) w
        by false z = due (task_at x t).waiting refl z

    both-delay : (b : ℕ) → Firm p high (put_off (stopped m) t b) → View p high (put_off (stopped m) t b) (put_off (stopped n) t b)
    unfolding stopped
    both-delay b f = by (eqb b 0) refl
      where
        by : (c : Bool) → eqb b 0 ≡ c → View p high (put_off (stopped m) t b) (put_off (stopped n) t b)
        by true z =
            let is = put-tail (stopped m) t b z in
            view-is p high _ _ (put_off (stopped m) t b) (put_off (stopped n) t b) is (put-tail (stopped n) t b z)
            (both-join (stopped m) (stopped n) both-off t h (subst (Firm p high) is f))
        by false z =
            view-is p high _ _ (put_off (stopped m) t b) (put_off (stopped n) t b) (put-until (stopped m) t b z)
            (put-until (stopped n) t b z)
            (task-both p high (stopped m) (stopped n) both-off t h _ _
            (ap (λ (k : TaskRecord). with_place k (Delayed (m.now + b))) same ∙
            ap (λ (i : ℕ). with_place (task_at n t) (Delayed (i + b))) v.now))

    both_rest : View p high (rest m t) (rest n t)
    both_rest = by (task_at m t).permit refl
      where
        by : (b : Bool) → (task_at m t).permit ≡ b → View p high (rest m t) (rest n t)
        by true z =
            view-is p high _ _ (rest m t) (rest n t) (rest-permit m t z)
            (rest-permit n t (sym (ap (λ (k : TaskRecord). k.permit) same) ∙ z))
            (task-both p high m n v t h _ _ (ap (λ (k : TaskRecord). with_permit k false) same))
        by false z =
            view-is p high _ _ (rest m t) (rest n t) (rest-none m t z)
            (rest-none n t (sym (ap (λ (k : TaskRecord). k.permit) same) ∙ z))
            (task-both p high (stopped m) (stopped n) both-off t h _ _ (ap (λ (k : TaskRecord). with_place k Suspended) same))

    both-set : (q : ℕ) → Firm p high (rebase m t q) → View p high (rebase m t q) (rebase n t q)
    unfolding requeue
    both-set q f = by (inside (task_at m t)) refl
      where
        k : TaskRecord
        k = with_base (task_at m t) q

        l : TaskRecord
        l = with_base (task_at n t) q

        by : (b : Bool) → inside (task_at m t) ≡ b → View p high (rebase m t q) (rebase n t q)
        by true z =
            view-is p high _ _ (rebase m t q) (rebase n t q) (rebase-inside m t q z) (rebase-inside n t q (sym (ap inside same) ∙ z))
            (task-both p high m n v t h _ _ (ap (λ (x : TaskRecord). with_waiting x (Some q)) same))
        by false z =
            let is : rebase m t q ≡ become_ready (stopped (with_task m t k)) t =
            rebase-outside m t q z ∙ ap (requeue (with_task m t k) t (active m t)) runs-left in
            let it : rebase n t q ≡ become_ready (stopped (with_task n t l)) t =
            rebase-outside n t q (sym (ap inside same) ∙ z) ∙ ap (requeue (with_task n t l) t (active n t)) runs-right in
            view-is p high _ _ (rebase m t q) (rebase n t q) is it
            (both-again m n v k l (ap (λ (x : TaskRecord). with_base x q) same) (subst (Firm p high) is f))

    pub both-effect : (x : Step) → Ruled m.tasks t x → Ruled n.tasks t x → Firm p high m → Firm p high n →
        Firm p high (step_effect m t x) → View p high (step_effect m t x) (step_effect n t x)
    unfolding step_effect
    both-effect (Enter o) r q a b f = task-both p high m n v t h _ _ (ap (λ (k : TaskRecord). with_held k (k.held ++ (o ∷ []))) same)
    both-effect (Leave o) r q a b f = both-leave f
    both-effect (Delay c) r q a b f = both-delay c f
    both-effect Work r q a b f = v
    both-effect Suspend r q a b f = both_rest
    both-effect (Release u) r q a b f = release-both m n v u (r.listed u refl) (q.listed u refl) a b
    both-effect (Set u c) r q a b f =
        subst (λ (y : ℕ). Firm p high (rebase m y c.0) → View p high (rebase m y c.0) (rebase n y c.0)) (sym (r.own u c refl))
        (both-set c.0) f
    both-effect Again r q a b f = v
    both-effect Finish r q a b f =
        task-both p high (stopped m) (stopped n) both-off t h _ _ (ap (λ (k : TaskRecord). with_place k Ended) same)
