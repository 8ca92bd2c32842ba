-- Laws of a fresh start: newcomers, and the tasks that join one after the other.
use Rattle.std.proofs.Common.{◌≡◌, refl, ap, ◌∙◌, sym, List, [], ◌∷◌, ◌++◌, ℕ, zero, suc, ◌+◌, ◌≤◌, ◌<◌, length, get_or, take}
use Rattle.std.proofs.Common.{arith, add-one}
use Rattle.std.proofs.Math.Seq.{take-suc}
use Rattle.rules.specs.Model.{Model, TaskRecord, with_tasks}
use Rattle.rules.specs.Moves.{become_ready}
use Rattle.rules.specs.Sound.{rising}
use Rattle.rules.specs.Fresh.{Setup, new_task, new_tasks, unstarted, join_from, Startable}
use Rattle.rules.proofs.FreshLaws.{Joined, join-core, join_one, joined-none}
use Rattle.fresh.specs.Joins.{JoinAll}
use Rattle.moves.specs.Room.{Dispatches}
use Rattle.moves.proofs.RoomLaws.{core-arrives, core-dispatches}

pub new-count : (bs : List ℕ) → length (new_tasks bs) ≡ length bs
unfolding new_tasks
new-count [] = refl
new-count (b ∷ bs) = ap suc (new-count bs)

new-push : (bs : List ℕ) (p : ℕ) → new_tasks (bs ++ (p ∷ [])) ≡ new_tasks bs ++ (new_task p ∷ [])
unfolding new_tasks
new-push [] p = refl
new-push (b ∷ bs) p = ap (λ (v : List TaskRecord). new_task b ∷ v) (new-push bs p)

-- one newcomer more
pub newcomer-more : (bs cs : List ℕ) (m1 m2 : Model) (i : ℕ) → i < length bs →
    m1 ≡ unstarted (record { bases = take i bs; ceilings = cs }) → m2 ≡ with_tasks m1 (m1.tasks ++ (new_task (get_or bs i 0) ∷ [])) →
    m2 ≡ unstarted (record { bases = take (i + 1) bs; ceilings = cs })
newcomer-more bs cs m1 m2 i h e f = f ∙ rw (e, add-one, take-suc bs i 0 h, new-push (take i bs) (get_or bs i 0))

-- the tasks join one after the other
pub join-next : (t n : ℕ) (m : Model) → join_from t (suc n) m ≡ become_ready (join_from t n m) (t + n)
unfolding join_from
join-next t zero m = let e : t ≡ t + 0 = omega arith in ap (become_ready m) e
join-next t (suc n) m =
    let e : suc t + n ≡ t + suc n = omega arith in
    join-next (suc t) n (become_ready m t) ∙ ap (become_ready (join_from (suc t) n (become_ready m t))) e

pub join-more : (n : ℕ) (m m1 m2 : Model) → m1 ≡ join_from 0 n m → m2 ≡ become_ready m1 n → m2 ≡ join_from 0 (n + 1) m
join-more n m m1 m2 e f =
    let z : 0 + n ≡ n = omega arith in
    f ∙ rw e (sym (rw add-one (join-next 0 n m) ∙ ap (become_ready (join_from 0 n m)) z))

module _ (x : Setup) (s : Startable x) where
  joined_to : (i : ℕ) → i ≤ length x.bases → Joined x s i (join_from 0 i (unstarted x))
  unfolding join_from
  joined_to zero h = joined-none x s
  joined_to (suc i) h =
      let a = joined_to i (omega arith) in
      let e : become_ready (join_from 0 i (unstarted x)) (0 + i) ≡ become_ready (join_from 0 i (unstarted x)) i =
      let z : 0 + i ≡ i = omega arith in ap (become_ready (join_from 0 i (unstarted x))) z in
      rw (join-next 0 i (unstarted x), e) (join_one x s i _ (omega arith) a)

  pub fresh-joins : JoinAll (unstarted x)
  fresh-joins =
      record {
        next = λ t h.
            let a = joined_to t (omega (arith, new-count x.bases)) in
            core-arrives _ t (join-core x s t _ a) (omega (arith, a.size, new-count x.bases));
      }

  pub fresh-dispatches : Dispatches (join_from 0 (length x.bases) (unstarted x))
  unfolding rising
  fresh-dispatches =
      let n = length x.bases in
      let a = joined_to n (omega arith) in
      let cs = (join_from 0 n (unstarted x)).ceilings in
      core-dispatches _ a.core (λ t h. ap (λ (k : TaskRecord). rising cs k.base k.held) (a.done t (omega (arith, h, a.size))))
