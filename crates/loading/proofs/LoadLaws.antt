-- Laws of the loops that load a state: one task, one ceiling, one queue more.
use Rattle.std.proofs.Common.{◌≡◌, refl, ap, ◌∙◌, sym, subst, List, [], ◌∷◌, ◌++◌, ℕ, suc, ◌+◌, ◌-◌, ◌≤◌, ◌<◌}
use Rattle.std.proofs.Common.{length, take, drop, get_or, set, true, ◌&&◌, zero, arith, add-one, sub-one, length-append, Option}
use Rattle.std.proofs.Math.Seq.{get_or_at}
use Rattle.std.proofs.lemmas.List.{get_or_append_left}
use Rattle.rules.specs.Limits.{task_limit, object_limit, last_priority, counts_good}
use Rattle.rules.proofs.Choices.{split, and_left, and_right}
use Rattle.rules.proofs.LimitLaws.{counted-by}
use Rattle.memory.specs.Rows.{held_width, queue_width}
use Rattle.loading.specs.Loading.{lengths_good, parts_fit, Each}
use Rattle.rules.specs.Model.{TaskRecord, Model, with_now, with_running, with_tasks, with_ceilings, with_ready, with_queue}

-- what fits: the counts and the lengths
pub record Fitting (n o : ℕ) (hd qs : List ℕ) : Type 0 where
  pub count : n ≤ task_limit
  pub objects : o ≤ object_limit
  pub held : lengths_good held_width n hd ≡ true
  pub queues : lengths_good queue_width last_priority qs ≡ true

pub told_fits : (n o : ℕ) (held queues : List ℕ) → parts_fit n o held queues ≡ true → Fitting n o held queues
told_fits n o held queues e =
    let both = and_left (counts_good n o && lengths_good held_width n held) _ e in
    let counted = counted-by n o (and_left (counts_good n o) _ both) in
    record {
      count = counted.tasks;
      objects = counted.objects;
      held = and_right (counts_good n o) _ both;
      queues = and_right (counts_good n o && lengths_good held_width n held) _ e;
    }

-- the element at i of a list that agrees with another before i
set-seam : (i : ℕ) (l r : List (List ℕ)) → i < length l → length l ≡ length r →
    set (take i l ++ drop i r) (suc i - 1) (get_or l i []) ≡ take (suc i) l ++ drop (suc i) r
set-seam i [] r h e = absurd (omega arith)
set-seam i (x ∷ l) [] h e = absurd (omega arith)
set-seam zero (x ∷ l) (y ∷ r) h e = refl
set-seam (suc i) (x ∷ l) (y ∷ r) h e =
    rw sub-one (ap (λ (v : List (List ℕ)). x ∷ v) (rw sub-one at (set-seam i l r (omega arith) (omega arith))))

-- one element more
module _ {A : Type 0} (P : ℕ → A → Type 0) (d : A) where
  pub each-none : (l : List A) → l ≡ [] → Each P d 0 l
  each-none l e = record { count = ap length e; each = λ i h. absurd (omega arith) }

  pub each-more : (n : ℕ) (l : List A) (x : A) → Each P d n l → P n x → Each P d (n + 1) (l ++ (x ∷ []))
  each-more n l x e p =
      record {
        count = simp length-append (omega (arith, e.count));
        each = λ i h.
            split i n
            (λ q. subst (λ (y : A). P i y) (sym (get_or_at l x [] d i (omega (arith, e.count, q)))) (subst (λ (j : ℕ). P j x) (sym q) p))
            (λ q.
            let same = get_or_append_left l (x ∷ []) d i (omega (arith, e.count, q)) in
            subst (λ (y : A). P i y) (sym same) (e.each i (omega (arith, q))));
      }

-- .. in a memory of which nothing else changes
module _ (m m1 m2 : Model) where
  pub tasks-rest : (ks : List TaskRecord) → m1 ≡ with_tasks m m1.tasks → m2 ≡ with_tasks m1 ks → m2 ≡ with_tasks m m2.tasks
  tasks-rest ks e f =
      f ∙ (ap (λ (n : Model). with_tasks n ks) e ∙ ap (with_tasks m) (sym (ap (λ (n : Model). n.tasks) f)))

  pub ceilings-rest : (cs : List ℕ) → m1 ≡ with_ceilings m m1.ceilings → m2 ≡ with_ceilings m1 cs → m2 ≡ with_ceilings m m2.ceilings
  ceilings-rest cs e f =
      f ∙ (ap (λ (n : Model). with_ceilings n cs) e ∙ ap (with_ceilings m) (sym (ap (λ (n : Model). n.ceilings) f)))

-- a memory once its numbers, its tasks, its ceilings and its queues have been set, one after the other
module _ (m0 m1 m2 m3 m4 m5 : Model) (now : ℕ) (runner : Option ℕ) (qs : List (List ℕ)) (a : m1 ≡ with_now m0 now)
    (b : m2 ≡ with_running m1 runner) (c : m3 ≡ with_tasks m2 m3.tasks) (d : m4 ≡ with_ceilings m3 m4.ceilings)
    (e : m5 ≡ with_ready m4 qs) where
  pub loaded-tasks : m5.tasks ≡ m3.tasks
  loaded-tasks = ap (λ (m : Model). m.tasks) e ∙ ap (λ (m : Model). m.tasks) d

  pub loaded-ceilings : m5.ceilings ≡ m4.ceilings
  loaded-ceilings = ap (λ (m : Model). m.ceilings) e

  pub loaded-numbers : m5 ≡ record { now = now; running = runner; tasks = m5.tasks; ceilings = m5.ceilings; ready = qs }
  loaded-numbers =
      let clock = λ (m : Model). m.now in
      let who = λ (m : Model). m.running in
      let f : m5.now ≡ now = ap clock e ∙ (ap clock d ∙ (ap clock c ∙ (ap clock b ∙ ap clock a))) in
      let g : m5.running ≡ runner = ap who e ∙ (ap who d ∙ (ap who c ∙ ap who b)) in
      let h : m5.ready ≡ qs = ap (λ (m : Model). m.ready) e in
      ap (λ (x : ℕ). record { now = x; running = m5.running; tasks = m5.tasks; ceilings = m5.ceilings; ready = m5.ready }) f ∙
      (ap (λ (x : Option ℕ). record { now = now; running = x; tasks = m5.tasks; ceilings = m5.ceilings; ready = m5.ready }) g ∙
      ap (λ (x : List (List ℕ)). record { now = now; running = runner; tasks = m5.tasks; ceilings = m5.ceilings; ready = x }) h)

module _ (m m1 m2 : Model) (i : ℕ) where
  -- the queue at i among the first, the others as they were
  pub queues-more : (qs : List (List ℕ)) (q : List ℕ) → i < length qs → length qs ≡ length m.ready →
      m1 ≡ with_ready m (take i qs ++ drop i m.ready) → q ≡ get_or qs i [] →
      m2 ≡ with_queue m1 (i + 1) q → m2 ≡ with_ready m (take (i + 1) qs ++ drop (i + 1) m.ready)
  queues-more qs q h k e f g = g ∙ rw (e, f, add-one) (ap (with_ready m) (set-seam i qs m.ready h k))
