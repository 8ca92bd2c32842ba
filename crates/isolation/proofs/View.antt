-- What is seen of a Model from above a level p: the records of the high tasks, the ready queues above p and a high runner. Two Models with
-- the same view, and what each move makes of it: of a high task in both, of a low one in one of them alone.
use mathlib.Core.Path.{◌≡◌, refl, ap, ◌∙◌, sym, subst}
use mathlib.Core.Logic.{◌⊎◌, inl, inr}
use mathlib.Core.Bool.{Bool, true, false, cond}
use mathlib.Core.List.{List, [], ◌∷◌, ◌++◌}
use Prim.Native.Nat.{ℕ, ◌-◌, ◌≤◌, ◌<◌}
use native.Mathlib.Omega.{arith}
use lib.ListN.{length, get_or, set, drop, length-set}
use lib.Seq.{set_out}
use Rattle.std.specs.Prelude.{None, Option, Some, ℕ}
use Rattle.rules.specs.Model.{Model, TaskRecord, blank, ceiling_of, with_place, task_at, with_task, queue, active}
use Rattle.rules.specs.Moves.{become_ready, stopped, preempt, head_of, start}
use Rattle.rules.specs.declared.Place.TheVariants.{Running, Ready}
use Rattle.rules.proofs.Choices.{split, compare, clash, cond-true, cond-false}
use Rattle.rules.proofs.TaskLaws.{entry, at_same, at_other, row_same, row_other}

-- the runner if it is high
unfoldable pub seen : (ℕ → Bool) → Option ℕ → Option ℕ
seen high None = None
seen high (Some t) = cond (high t) (Some t) None

pub seen_low : (high : ℕ → Bool) (t : ℕ) → high t ≡ false → seen high (Some t) ≡ None
unfolding seen
seen_low high t e = cond-false (high t) (Some t) None e

pub seen-high : (high : ℕ → Bool) (t : ℕ) → high t ≡ true → seen high (Some t) ≡ Some t
unfolding seen
seen-high high t e = cond-true (high t) (Some t) None e

-- who is seen to run does run, and is high
pub seen-is : (high : ℕ → Bool) (w : Option ℕ) (t : ℕ) → seen high w ≡ Some t → (w ≡ Some t) × (high t ≡ true)
unfolding seen
seen-is high None t e = absurd (let z : ◌≡◌ {A = ℕ} 0 1 = cc in omega arith)
seen-is high (Some u) t e = go (high u) refl e
  where
    go : (b : Bool) → high u ≡ b → cond b (Some u) None ≡ Some t → (Some u ≡ Some t) × (high t ≡ true)
    go true f g = let i : u ≡ t = cc in (g, sym (ap high i) ∙ f)
    go false f g = absurd (let z : ◌≡◌ {A = ℕ} 0 1 = cc in omega arith)

-- the parts of a view
abbrev pub Tasks : (ℕ → Bool) → List TaskRecord → List TaskRecord → Type 0
Tasks high ts us = (t : ℕ) → high t ≡ true → entry ts t ≡ entry us t

abbrev pub InBoth : (ℕ → Bool) → List TaskRecord → List TaskRecord → Type 0
InBoth high ts us = (t : ℕ) → high t ≡ true → (t < length ts) × (t < length us)

abbrev pub Rows : ℕ → List (List ℕ) → List (List ℕ) → Type 0
Rows p qs rs = (q : ℕ) → p ≤ q → get_or qs q [] ≡ get_or rs q []

abbrev pub Ceilings : ℕ → List ℕ → List ℕ → Type 0
Ceilings p cs ds = (o : ℕ) → (p < ceiling_of cs o) ⊎ (p < ceiling_of ds o) → ceiling_of cs o ≡ ceiling_of ds o

pub record View (p : ℕ) (high : ℕ → Bool) (m n : Model) : Type 0 where
  pub now : m.now ≡ n.now
  pub runner : seen high m.running ≡ seen high n.running
  pub tasks : Tasks high m.tasks n.tasks
  pub listed : InBoth high m.tasks n.tasks
  pub rows : Rows p m.ready n.ready
  pub size : length m.ready ≡ length n.ready
  pub ceilings : Ceilings p m.ceilings n.ceilings

-- not both high and low
pub apart : (high : ℕ → Bool) (t u : ℕ) → high u ≡ true → high t ≡ false → u ≡ t → ⊥
apart high t u h l e = clash (sym h ∙ ap high e ∙ l)

module _ (p : ℕ) (high : ℕ → Bool) where
  turned : {A B : Type 0} → A ⊎ B → B ⊎ A
  turned (inl a) = inr a
  turned (inr b) = inl b

  pub view-sym : (m n : Model) → View p high m n → View p high n m
  view-sym m n v = record {
    now = sym v.now;
    runner = sym v.runner;
    tasks = λ t h. sym (v.tasks t h);
    listed = λ t h. ((v.listed t h).1, (v.listed t h).0);
    rows = λ q h. sym (v.rows q h);
    size = sym v.size;
    ceilings = λ o h. sym (v.ceilings o (turned h));
  }

  pub view_then : (m n k : Model) → View p high m n → View p high n k → View p high m k
  view_then m n k v w = record {
    now = v.now ∙ w.now;
    runner = v.runner ∙ w.runner;
    tasks = λ t h. v.tasks t h ∙ w.tasks t h;
    listed = λ t h. ((v.listed t h).0, (w.listed t h).1);
    rows = λ q h. v.rows q h ∙ w.rows q h;
    size = v.size ∙ w.size;
    ceilings = joined;
  }
    where
      joined : Ceilings p m.ceilings k.ceilings
      joined o (inl h) =
          let e = v.ceilings o (inl h) in e ∙ w.ceilings o (inl (subst (λ (x : ℕ). p < x) e h))
      joined o (inr h) =
          let e = w.ceilings o (inr h) in v.ceilings o (inr (subst (λ (x : ℕ). p < x) (sym e) h)) ∙ e

  pub view-self : (m : Model) → ((t : ℕ) → high t ≡ true → t < length m.tasks) → View p high m m
  view-self m l = record {
    now = refl;
    runner = refl;
    tasks = λ t h. refl;
    listed = λ t h. (l t h, l t h);
    rows = λ q h. refl;
    size = refl;
    ceilings = λ o h. refl;
  }

  -- the left Model of a view sees itself
  pub view-left : (m n : Model) → View p high m n → View p high m m
  view-left m n v = view-self m (λ t h. (v.listed t h).0)

  -- of Models that are equal
  pub view-is : (m n x y : Model) → x ≡ m → y ≡ n → View p high m n → View p high x y
  view-is m n x y e f v = subst (λ (z : Model). View p high z y) (sym e) (subst (View p high m) (sym f) v)

  -- one record replaced in both, or a low one in one
  tasks-both : (ts us : List TaskRecord) (t : ℕ) (k l : TaskRecord) → Tasks high ts us → t < length ts → t < length us → k ≡ l →
      Tasks high (set ts t k) (set us t l)
  tasks-both ts us t k l f g h e u i =
      split u t
      (λ j. at_same (λ (v : TaskRecord). v) blank ts t k u j g ∙ e ∙ sym (at_same (λ (v : TaskRecord). v) blank us t l u j h))
      (λ n. at_other (λ (v : TaskRecord). v) blank ts t k u n ∙ f u i ∙ sym (at_other (λ (v : TaskRecord). v) blank us t l u n))

  tasks-low : (ts us : List TaskRecord) (t : ℕ) (l : TaskRecord) → Tasks high ts us → high t ≡ false → Tasks high ts (set us t l)
  tasks-low ts us t l f g u i = f u i ∙ sym (at_other (λ (v : TaskRecord). v) blank us t l u (apart high t u i g))

  listed-both : (ts us : List TaskRecord) (t : ℕ) (k l : TaskRecord) → InBoth high ts us → InBoth high (set ts t k) (set us t l)
  listed-both ts us t k l f u i = let h = f u i in
      (omega (arith, h.0, length-set ts t k), omega (arith, h.1, length-set us t l))

  listed-one : (ts us : List TaskRecord) (t : ℕ) (l : TaskRecord) → InBoth high ts us → InBoth high ts (set us t l)
  listed-one ts us t l f u i = let h = f u i in (h.0, omega (arith, h.1, length-set us t l))

  -- one queue replaced in both, or a low one in one
  rows_both : (qs rs : List (List ℕ)) (i j : ℕ) (k l : List ℕ) → Rows p qs rs → length qs ≡ length rs → i ≡ j → (p ≤ i → k ≡ l) →
      Rows p (set qs i k) (set rs j l)
  rows_both qs rs i j k l f z e g q h =
      split q i
      (λ a. compare (length qs) i
      (λ o. ap (λ (x : List (List ℕ)). get_or x q []) (set_out qs i k o) ∙ f q h ∙
      sym (ap (λ (x : List (List ℕ)). get_or x q []) (set_out rs j l (omega (arith, o, z, e)))))
      (λ o. row_same qs i k q a o ∙ g (omega (arith, h, a)) ∙ sym (row_same rs j l q (a ∙ e) (omega (arith, o, z, e)))))
      (λ n. row_other qs i k q n ∙ f q h ∙ sym (row_other rs j l q (λ a. n (a ∙ sym e))))

  rows-low : (qs rs : List (List ℕ)) (j : ℕ) (l : List ℕ) → Rows p qs rs → j < p → Rows p qs (set rs j l)
  rows-low qs rs j l f o q h = f q h ∙ sym (row_other rs j l q (λ e. omega (arith, h, e, o)))

  -- a high task of both Models
  module _ (m n : Model) (v : View p high m n) (t : ℕ) (h : high t ≡ true) where
    -- gets another record
    pub task-both : (k l : TaskRecord) → k ≡ l → View p high (with_task m t k) (with_task n t l)
    task-both k l e = record {
      now = v.now;
      runner = v.runner;
      tasks = tasks-both m.tasks n.tasks t k l v.tasks (v.listed t h).0 (v.listed t h).1 e;
      listed = listed-both m.tasks n.tasks t k l v.listed;
      rows = v.rows;
      size = v.size;
      ceilings = v.ceilings;
    }

    queue-both : (i j : ℕ) → i ≡ j → p ≤ i - 1 → queue m i ≡ queue n j
    queue-both i j e g = v.rows (i - 1) g ∙ ap (queue n) e

    -- becomes ready
    pub ready-both : active m t ≡ active n t → View p high (become_ready m t) (become_ready n t)
    unfolding become_ready
    ready-both e = record {
      now = v.now;
      runner = v.runner;
      tasks = tasks-both m.tasks n.tasks t _ _ v.tasks (v.listed t h).0 (v.listed t h).1
          (ap (λ (k : TaskRecord). with_place k Ready) (v.tasks t h));
      listed = listed-both m.tasks n.tasks t _ _ v.listed;
      rows = rows_both m.ready n.ready (active m t - 1) (active n t - 1) _ _ v.rows v.size (ap (λ (x : ℕ). x - 1) e)
          (λ g. ap (λ (l : List ℕ). l ++ (t ∷ [])) (queue-both (active m t) (active n t) e g));
      size = length-set m.ready _ _ ∙ v.size ∙ sym (length-set n.ready _ _);
      ceilings = v.ceilings;
    }

    -- goes to the head of its queue
    pub preempt-both : active m t ≡ active n t → View p high (preempt m t) (preempt n t)
    unfolding preempt stopped seen
    preempt-both e = record {
      now = v.now;
      runner = refl;
      tasks = tasks-both m.tasks n.tasks t _ _ v.tasks (v.listed t h).0 (v.listed t h).1
          (ap (λ (k : TaskRecord). with_place k Ready) (v.tasks t h));
      listed = listed-both m.tasks n.tasks t _ _ v.listed;
      rows = rows_both m.ready n.ready (active m t - 1) (active n t - 1) _ _ v.rows v.size (ap (λ (x : ℕ). x - 1) e)
          (λ g. ap (λ (l : List ℕ). t ∷ l) (queue-both (active m t) (active n t) e g));
      size = length-set m.ready _ _ ∙ v.size ∙ sym (length-set n.ready _ _);
      ceilings = v.ceilings;
    }

  -- nobody runs
  pub stopped-both : (m n : Model) → View p high m n → View p high (stopped m) (stopped n)
  unfolding stopped seen
  stopped-both m n v = record {
    now = v.now;
    runner = refl;
    tasks = v.tasks;
    listed = v.listed;
    rows = v.rows;
    size = v.size;
    ceilings = v.ceilings;
  }

  -- the head of the queue for i, a high task, runs in both
  pub start-both : (m n : Model) → View p high m n → (i : ℕ) → p < i → high (head_of m i) ≡ true →
      View p high (start m i) (start n i)
  unfolding start
  start-both m n v i g h = record {
    now = v.now;
    runner = ap (λ (x : ℕ). seen high (Some x)) head;
    tasks = subst (λ (x : ℕ). Tasks high (set m.tasks (head_of m i) (with_place (task_at m (head_of m i)) Running))
        (set n.tasks x (with_place (task_at n x) Running))) head
        (tasks-both m.tasks n.tasks (head_of m i) _ _ v.tasks (v.listed (head_of m i) h).0 (v.listed (head_of m i) h).1
        (ap (λ (k : TaskRecord). with_place k Running) (v.tasks (head_of m i) h)));
    listed = λ u a. (
      omega (arith, (v.listed u a).0, length-set m.tasks (head_of m i) (with_place (task_at m (head_of m i)) Running)),
      omega (arith, (v.listed u a).1, length-set n.tasks (head_of n i) (with_place (task_at n (head_of n i)) Running)),
    );
    rows = rows_both m.ready n.ready (i - 1) (i - 1) _ _ v.rows v.size refl (λ a. ap (drop 1) row);
    size = length-set m.ready _ _ ∙ v.size ∙ sym (length-set n.ready _ _);
    ceilings = v.ceilings;
  }
    where
      row : queue m i ≡ queue n i
      row = v.rows (i - 1) (omega arith)

      head : head_of m i ≡ head_of n i
      head = ap (λ (l : List ℕ). get_or l 0 0) row

  -- a low task of the right Model
  module _ (m n : Model) (v : View p high m n) (t : ℕ) (h : high t ≡ false) where
    pub task-low : (k : TaskRecord) → View p high m (with_task n t k)
    task-low k = record {
      now = v.now;
      runner = v.runner;
      tasks = tasks-low m.tasks n.tasks t k v.tasks h;
      listed = listed-one m.tasks n.tasks t k v.listed;
      rows = v.rows;
      size = v.size;
      ceilings = v.ceilings;
    }

    pub ready-low : 1 ≤ active n t → active n t ≤ p → View p high m (become_ready n t)
    unfolding become_ready
    ready-low a b = record {
      now = v.now;
      runner = v.runner;
      tasks = tasks-low m.tasks n.tasks t _ v.tasks h;
      listed = listed-one m.tasks n.tasks t _ v.listed;
      rows = rows-low m.ready n.ready (active n t - 1) _ v.rows (omega arith);
      size = v.size ∙ sym (length-set n.ready _ _);
      ceilings = v.ceilings;
    }

    -- that runs
    pub stopped-low : n.running ≡ Some t → View p high m (stopped n)
    unfolding stopped seen
    stopped-low e = record {
      now = v.now;
      runner = v.runner ∙ ap (seen high) e ∙ seen_low high t h;
      tasks = v.tasks;
      listed = v.listed;
      rows = v.rows;
      size = v.size;
      ceilings = v.ceilings;
    }

    pub preempt-low : n.running ≡ Some t → 1 ≤ active n t → active n t ≤ p → View p high m (preempt n t)
    unfolding preempt stopped seen
    preempt-low e a b = record {
      now = v.now;
      runner = v.runner ∙ ap (seen high) e ∙ seen_low high t h;
      tasks = tasks-low m.tasks n.tasks t _ v.tasks h;
      listed = listed-one m.tasks n.tasks t _ v.listed;
      rows = rows-low m.ready n.ready (active n t - 1) _ v.rows (omega arith);
      size = v.size ∙ sym (length-set n.ready _ _);
      ceilings = v.ceilings;
    }

  -- a low head of a low queue runs in the right Model, where nobody ran
  pub start-low : (m n : Model) → View p high m n → (i : ℕ) → 1 ≤ i → i ≤ p → high (head_of n i) ≡ false → n.running ≡ None →
      View p high m (start n i)
  unfolding start seen
  start-low m n v i a b h e = record {
    now = v.now;
    runner = v.runner ∙ ap (seen high) e ∙ sym (seen_low high (head_of n i) h);
    tasks = tasks-low m.tasks n.tasks (head_of n i) _ v.tasks h;
    listed = listed-one m.tasks n.tasks (head_of n i) _ v.listed;
    rows = rows-low m.ready n.ready (i - 1) _ v.rows (omega arith);
    size = v.size ∙ sym (length-set n.ready _ _);
    ceilings = v.ceilings;
  }
