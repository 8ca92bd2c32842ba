-- What each accepted event does before its one dispatch, read off its answer; and the points at which dispatchers have slipped.
use mathlib.Core.Path.{◌≡◌, refl, ap, ◌∙◌, sym, subst}
use mathlib.Core.Bool.{true, false}
use mathlib.Core.List.{List, [], ◌∷◌, ◌++◌}
use Prim.Native.Nat.{ℕ, ◌+◌, ◌-◌, ◌<◌}
use native.Mathlib.Omega.{arith}
use borrow.Author.Tests.{ltb-false}
use lib.ListN.{length, length-set}
use lib.Seq.{set-set}
use Rattle.std.specs.Prelude.{None, Some, Ok}
use Rattle.rules.specs.Model.{Model, TaskRecord, blank, with_base, with_waiting, task_at, with_task, queue, with_tasks}
use Rattle.rules.specs.Model.{with_queue, active_of, active}
use Rattle.rules.specs.Moves.{stopped, become_ready, dispatch}
use Rattle.rules.specs.Lists.{without}
use Rattle.rules.specs.Events.{inside, give_up, settle, requeue, rebase, apply}
use Rattle.rules.specs.Sound.{is_ready, is_running}
use Rattle.rules.specs.Moved.{Moved, accepted}
use Rattle.rules.specs.Effect.{effect}
use Rattle.rules.specs.declared.Event.{Event}
use Rattle.rules.specs.declared.Place.{Place}
use Rattle.rules.specs.declared.Place.TheVariants.{Running, Ready, Delayed, Suspended, Ended}
use Rattle.rules.proofs.TaskLaws.{depth, at_same}
use Rattle.rules.proofs.Levels.{bare}
use Rattle.rules.proofs.MoveLaws.{Queued, queue-same, ready-tail}
use Rattle.rules.proofs.EventLaws.{settle-inside, settle-none, settle-due, rebase-inside, rebase-outside}
use Rattle.rules.proofs.Ways.{each_way}

-- an accepted event gives the dispatch of what it does
pub done-is : (m : Model) (e : Event) → (apply m e).answer ≡ Ok tt → apply m e ≡ accepted m.running (effect m e)
done-is m e =
    each_way (λ (r : Moved). r.answer ≡ Ok tt → r ≡ accepted m.running (effect m e)) m (λ a d. absurd (cc d)) e (λ d. refl)

pub done-model : (m : Model) (e : Event) → (apply m e).answer ≡ Ok tt → (apply m e).model ≡ dispatch (effect m e)
unfolding accepted
done-model m e d = ap (λ (r : Moved). r.model) (done-is m e d)

-- a task that becomes ready with the active priority p is the last in the queue for p
last_of : (m : Model) (t p : ℕ) → active m t ≡ p → Queued m p → queue (become_ready m t) p ≡ queue m p ++ (t ∷ [])
last_of m t p e q =
    subst (λ (v : ℕ). queue (become_ready m t) v ≡ queue m v ++ (t ∷ [])) e (ready-tail m t (subst (Queued m) (sym e) q))

-- A Leave changes no queue before its dispatch while something is still held, or where no base waits: the task runs on
module _ (m : Model) (t : ℕ) where
  pub leave-holds-on : inside (task_at (give_up m t) t) ≡ true →
      ((settle (give_up m t) t).ready ≡ m.ready) × ((settle (give_up m t) t).running ≡ m.running)
  leave-holds-on e = let s = settle-inside (give_up m t) t e in (ap (λ (n : Model). n.ready) s, ap (λ (n : Model). n.running) s)

  pub leave-runs-on : inside (task_at (give_up m t) t) ≡ false → (task_at (give_up m t) t).waiting ≡ None →
      ((settle (give_up m t) t).ready ≡ m.ready) × ((settle (give_up m t) t).running ≡ m.running)
  leave-runs-on e w = let s = settle-none (give_up m t) t e w in (ap (λ (n : Model). n.ready) s, ap (λ (n : Model). n.running) s)

  -- .. and otherwise the waiting base is its base, and it is the last in the queue for that
  pub leave-last : (p : ℕ) → inside (task_at (give_up m t) t) ≡ false → (task_at (give_up m t) t).waiting ≡ Some p →
      t < length (give_up m t).tasks →
      Queued m p → queue (settle (give_up m t) t) p ≡ queue m p ++ (t ∷ [])
  unfolding stopped
  leave-last p e w h q =
      let k = with_waiting (with_base (task_at (give_up m t) t) p) None in
      let n : Model = stopped (with_task (give_up m t) t k) in
      let is : task_at n t ≡ k = at_same (λ (v : TaskRecord). v) blank (give_up m t).tasks t k t refl h in
      let own : active n t ≡ p =
      ap (active_of m.ceilings) is ∙ bare m.ceilings p k.held (omega (arith, ltb-false 0 (depth (task_at (give_up m t) t)) e)) in
      ap (λ (v : Model). queue v p) (settle-due (give_up m t) t p e w) ∙
      last_of n t p own (record { low = q.low; high = q.high })

  -- A Set inside an action changes neither base nor queues, and a later one replaces it
  pub set-waits : (p : ℕ) → inside (task_at m t) ≡ true → t < length m.tasks →
      (task_at (rebase m t p) t ≡ with_waiting (task_at m t) (Some p)) × ((rebase m t p).ready ≡ m.ready) ×
      ((rebase m t p).running ≡ m.running)
  set-waits p e h =
      let r = rebase-inside m t p e in (
        ap (λ (n : Model). task_at n t) r ∙ at_same (λ (v : TaskRecord). v) blank m.tasks t (with_waiting (task_at m t) (Some p)) t refl h,
        ap (λ (n : Model). n.ready) r,
        ap (λ (n : Model). n.running) r,
      )

  pub set-replaced : (p v : ℕ) → inside (task_at m t) ≡ true → t < length m.tasks → rebase (rebase m t p) t v ≡ rebase m t v
  set-replaced p v e h =
      let k = with_waiting (task_at m t) (Some p) in
      let n : Model = with_task m t k in
      let is : task_at n t ≡ k = at_same (λ (u : TaskRecord). u) blank m.tasks t k t refl h in
      ap (λ (x : Model). rebase x t v) (rebase-inside m t p e) ∙ rebase-inside n t v (ap inside is ∙ e) ∙
      ap (λ (u : TaskRecord). with_task n t (with_waiting u (Some v))) is ∙
      ap (with_tasks m) (set-set m.tasks t k (with_waiting (task_at m t) (Some v))) ∙ sym (rebase-inside m t v e)

-- A Set outside an action moves the task whatever the value, the base that it has included: one that runs is stopped and stands last in
-- the queue for p ..
module _ (m : Model) (t p : ℕ) (e : inside (task_at m t) ≡ false) where
  abbrev based : Model
  based = with_task m t (with_base (task_at m t) p)

  moves : (x : Place) → (task_at m t).place ≡ x → rebase m t p ≡ requeue based t (active m t) x
  moves x i = rebase-outside m t p e ∙ ap (requeue based t (active m t)) i

  own : (b : ℕ) → active_of m.ceilings (with_base (task_at m t) b) ≡ b
  own b = bare m.ceilings b (task_at m t).held (omega (arith, ltb-false 0 (depth (task_at m t)) e))

  new : t < length m.tasks → active based t ≡ p
  new h =
      ap (active_of m.ceilings) (at_same (λ (v : TaskRecord). v) blank m.tasks t (with_base (task_at m t) p) t refl h) ∙ own p

  pub set-running-last : (task_at m t).place ≡ Running → t < length m.tasks → Queued m p →
      (queue (rebase m t p) p ≡ queue m p ++ (t ∷ [])) × ((rebase m t p).running ≡ None)
  unfolding requeue stopped become_ready
  set-running-last i h q = (
    ap (λ (n : Model). queue n p) (moves Running i) ∙ last_of (stopped based) t p (new h) (record { low = q.low; high = q.high }),
    ap (λ (n : Model). n.running) (moves Running i),
  )

  -- .. one that is ready leaves the queue where it stood and stands last in the queue for p ..
  pub set-ready-last : (task_at m t).place ≡ Ready → t < length m.tasks → Queued m p →
      queue (rebase m t p) p ≡ queue (with_queue m (active m t) (without t (queue m (active m t)))) p ++ (t ∷ [])
  unfolding requeue
  set-ready-last i h q =
      let l = without t (queue m (active m t)) in
      ap (λ (n : Model). queue n p) (moves Ready i) ∙
      last_of (with_queue based (active m t) l) t p (new h)
      (record { low = q.low; high = omega (arith, q.high, length-set m.ready (active m t - 1) l) })

  -- .. also where that is the same queue, as note 15 to D.2.3 (002) has it ..
  pub set-same-last : (task_at m t).base ≡ p → (task_at m t).place ≡ Ready → t < length m.tasks → Queued m p →
      queue (rebase m t p) p ≡ without t (queue m p) ++ (t ∷ [])
  set-same-last b i h q =
      let a : active m t ≡ p = own (task_at m t).base ∙ b in
      set-ready-last i h q ∙ ap (λ (v : ℕ). queue (with_queue m v (without t (queue m v))) p ++ (t ∷ [])) a ∙
      ap (λ (l : List ℕ). l ++ (t ∷ [])) (queue-same m p (without t (queue m p)) q)

  -- .. and one that is delayed, suspended or ended has the new base and moves nowhere
  pub set-elsewhere : is_ready (task_at m t).place + is_running (task_at m t).place ≡ 0 →
      rebase m t p ≡ with_task m t (with_base (task_at m t) p)
  unfolding requeue is_ready is_running
  set-elsewhere z = go (task_at m t).place refl z
    where
      go : (x : Place) → (task_at m t).place ≡ x → is_ready x + is_running x ≡ 0 → rebase m t p ≡ based
      go Running i n = absurd (omega (arith, n))
      go Ready i n = absurd (omega (arith, n))
      go (Delayed d) i n = moves (Delayed d) i
      go Suspended i n = moves Suspended i
      go Ended i n = moves Ended i
