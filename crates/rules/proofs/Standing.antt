-- Where the tasks stand, and the ceiling order: the invariant on the components of a Model, and what each move keeps of it.
use mathlib.Core.Path.{◌≡◌, refl, ap, ◌∙◌, sym, subst}
use mathlib.Core.Bool.{Bool, true}
use mathlib.Core.List.{List, [], ◌∷◌, ◌++◌}
use Prim.Native.Nat.{ℕ, suc, ◌+◌, ◌≤◌, ◌<◌}
use native.Mathlib.Nat.{not-suc-le-zero}
use native.Mathlib.Omega.{arith}
use lib.ListN.{length, get_or, set, drop}
use Rattle.std.specs.Prelude.{None, Option, Some, ℕ}
use Rattle.rules.specs.Limits.{last_priority}
use Rattle.rules.specs.Model.{TaskRecord, ceiling_of, active_of, with_place}
use Rattle.rules.specs.Sound.{queued, is_ready, is_running, runs}
use Rattle.rules.specs.declared.Place.TheVariants.{Running, Ready}
use Rattle.rules.specs.Lists.{times_in, without}
use Rattle.rules.proofs.Choices.{split, compare}
use Rattle.rules.proofs.Counts.{times-same, times-other, times-cons, times-append, times-behind, times-head, times-tail}
use Rattle.rules.proofs.Counts.{without-less, without-self, without_other, without-behind, queued-set, queued-at, Row, row-of}
use Rattle.rules.proofs.Levels.{base-low, bare, ceiling-low}
use Rattle.rules.proofs.TaskLaws.{entry, ready, running, depth, base_of, one_place, runs-self, runs-apart, runs-one}
use Rattle.rules.proofs.TaskLaws.{put_same, put_other, put_keeps, row_same, row_other, out_of}

-- The tasks ts with the ceilings cs, the ready queues qs and the runner w. The task x is on its way: it stands nowhere and holds
-- nothing, whatever its record says; with x past the last task nobody is on the way. With ord the ceiling order holds too.
pub record Stand (ord : Bool) (cs : List ℕ) (ts : List TaskRecord) (qs : List (List ℕ)) (w : Option ℕ) (x : ℕ) : Type 0 where
  -- places
  pub runner : (u : ℕ) → (u ≡ x → ⊥) → runs w u ≡ running (entry ts u)
  pub queueing : (u : ℕ) → (u ≡ x → ⊥) → queued qs u ≡ ready (entry ts u)
  pub idle : runs w x ≡ 0
  pub unqueued : queued qs x ≡ 0
  pub empty : depth (entry ts x) ≡ 0
  pub level : (p u : ℕ) → 0 < times_in u (get_or qs p []) → active_of cs (entry ts u) ≡ suc p
  pub present : (u : ℕ) → 0 < depth (entry ts u) → ready (entry ts u) + running (entry ts u) ≡ 1
  -- the ceiling order: holders are at heads, below the runner's base, and their spans from base to active priority do not meet
  pub heads : ord ≡ true → (p u : ℕ) → 0 < times_in u (drop 1 (get_or qs p [])) → depth (entry ts u) ≡ 0
  pub above : ord ≡ true → (t u : ℕ) → 0 < runs w t →
      (u ≡ t → ⊥) → 0 < depth (entry ts u) → active_of cs (entry ts u) < base_of (entry ts t)
  pub apart : ord ≡ true → (t u : ℕ) → (t ≡ u → ⊥) → 0 < depth (entry ts t) → 0 < depth (entry ts u) →
      base_of (entry ts u) ≤ active_of cs (entry ts t) → base_of (entry ts t) ≤ active_of cs (entry ts u) → ⊥

-- mutual exclusion: nobody else holds what t holds, where ceilings are not below the bases of the holders
pub exclusive : {cs : List ℕ} {ts : List TaskRecord} {qs : List (List ℕ)} {w : Option ℕ} {x : ℕ} → Stand true cs ts qs w x →
    ((u o : ℕ) → 0 < times_in o (entry ts u).held → base_of (entry ts u) ≤ ceiling_of cs o) →
    (t u o : ℕ) → 0 < times_in o (entry ts t).held → 0 < times_in o (entry ts u).held → (t ≡ u → ⊥) → ⊥
unfolding times_in
exclusive {cs} {ts} s c t u o h g n =
    s.apart refl t u n (holder (entry ts t).held h) (holder (entry ts u).held g)
    (omega (arith, c u o g, ceiling-low cs (base_of (entry ts t)) o (entry ts t).held h))
    (omega (arith, c t o h, ceiling-low cs (base_of (entry ts u)) o (entry ts u).held g))
  where
    holder : (l : List ℕ) → 0 < times_in o l → 0 < length l
    holder [] e = e
    holder (y ∷ l) e = omega arith

module _ {ord : Bool} (cs : List ℕ) (ts : List TaskRecord) (qs : List (List ℕ)) (w : Option ℕ) (x : ℕ)
    (s : Stand ord cs ts qs w x) where
  -- with nobody on the way
  pub all_runs : length ts ≤ x → (u : ℕ) → runs w u ≡ running (entry ts u)
  unfolding is_running
  all_runs o u =
      split u x (λ e. ap (runs w) e ∙ s.idle ∙ sym (out_of running ts x o) ∙ ap (λ (v : ℕ). running (entry ts v)) (sym e))
      (s.runner u)

  pub all-queueing : length ts ≤ x → (u : ℕ) → queued qs u ≡ ready (entry ts u)
  unfolding is_ready
  all-queueing o u =
      split u x (λ e. ap (queued qs) e ∙ s.unqueued ∙ sym (out_of ready ts x o) ∙ ap (λ (v : ℕ). ready (entry ts v)) (sym e))
      (s.queueing u)

  -- a record of task t with what it holds, its base and its active priority keeps the spans of holders apart, and below the runner
  module _ (t : ℕ) (k : TaskRecord) (held : depth k ≡ depth (entry ts t)) (base : base_of k ≡ base_of (entry ts t))
      (act : active_of cs k ≡ active_of cs (entry ts t)) where
    apart-kept : ord ≡ true → (b c : ℕ) → (b ≡ c → ⊥) → 0 < depth (entry (set ts t k) b) → 0 < depth (entry (set ts t k) c) →
        base_of (entry (set ts t k) c) ≤ active_of cs (entry (set ts t k) b) →
        base_of (entry (set ts t k) b) ≤ active_of cs (entry (set ts t k) c) → ⊥
    apart-kept on b c n i j d e =
        s.apart on b c n (omega (arith, i, put_keeps depth ts t k held b)) (omega (arith, j, put_keeps depth ts t k held c))
        (omega (arith, d, put_keeps base_of ts t k base c, put_keeps (active_of cs) ts t k act b))
        (omega (arith, e, put_keeps base_of ts t k base b, put_keeps (active_of cs) ts t k act c))

    above_kept : ord ≡ true → (b c : ℕ) → 0 < runs w b → (c ≡ b → ⊥) → 0 < depth (entry (set ts t k) c) →
        active_of cs (entry (set ts t k) c) < base_of (entry (set ts t k) b)
    above_kept on b c g n i =
        let lower = s.above on b c g n (omega (arith, i, put_keeps depth ts t k held c)) in
        omega (arith, put_keeps (active_of cs) ts t k act c, put_keeps base_of ts t k base b, lower)

  -- a record that is ready or running, with what it holds: every holder is
  present-placed : (t : ℕ) (k : TaskRecord) → t < length ts → depth k ≡ depth (entry ts t) → ready k + running k ≡ 1 → (u : ℕ) →
      0 < depth (entry (set ts t k) u) → ready (entry (set ts t k) u) + running (entry (set ts t k) u) ≡ 1
  present-placed t k low held here u g =
      split u t (λ e. omega (arith, here, put_same ready ts t k u e low, put_same running ts t k u e low))
      (λ n.
      let was = s.present u (omega (arith, g, put_keeps depth ts t k held u)) in
      omega (arith, put_other ready ts t k u n, put_other running ts t k u n, was))

  -- the running task goes on its way
  pub stand-out : (t : ℕ) → length ts ≤ x → 0 < runs w t → depth (entry ts t) ≡ 0 → Stand ord cs ts qs None t
  unfolding runs
  stand-out t o r h = record {
    runner = λ u n. omega (arith, all_runs o u, runs-one w t u r n);
    queueing = λ u n. all-queueing o u;
    idle = refl;
    unqueued = omega (arith, all-queueing o t, all_runs o t, one_place (entry ts t).place);
    empty = h;
    level = s.level;
    present = s.present;
    heads = s.heads;
    above = λ on a b g. absurd (not-suc-le-zero g);
    apart = s.apart;
  }

  -- a task that is away goes on its way
  pub stand-wake : (t : ℕ) → length ts ≤ x → ready (entry ts t) + running (entry ts t) ≡ 0 → Stand ord cs ts qs w t
  stand-wake t o r = record {
    runner = λ u n. all_runs o u;
    queueing = λ u n. all-queueing o u;
    idle = omega (arith, all_runs o t);
    unqueued = omega (arith, all-queueing o t);
    empty = compare 1 (depth (entry ts t)) (λ g. absurd (omega (arith, s.present t g))) (λ g. omega arith);
    level = s.level;
    present = s.present;
    heads = s.heads;
    above = s.above;
    apart = s.apart;
  }

  -- the task on its way gets another record
  pub stand-put : (k : TaskRecord) → x < length ts → depth k ≡ 0 → Stand ord cs (set ts x k) qs w x
  stand-put k h z = record {
    runner = λ u n. s.runner u n ∙ sym (put_other running ts x k u n);
    queueing = λ u n. s.queueing u n ∙ sym (put_other ready ts x k u n);
    idle = s.idle;
    unqueued = s.unqueued;
    empty = put_same depth ts x k x refl h ∙ z;
    level = λ p u g. put_other (active_of cs) ts x k u (λ e. omega (arith, g, queued-at qs p u, ap (queued qs) e, s.unqueued)) ∙
        s.level p u g;
    present = λ u g. split u x (λ e. absurd (omega (arith, g, put_same depth ts x k u e h)))
        (λ n. omega (
          arith,
          put_other ready ts x k u n,
          put_other running ts x k u n,
          s.present u
              (omega (arith, g, put_other depth ts x k u n)),
        ));
    heads = λ on p u g. split u x (λ e. put_same depth ts x k u e h ∙ z) (λ n. put_other depth ts x k u n ∙ s.heads on p u g);
    above = λ on a b g n i. split b x (λ e. absurd (omega (arith, i, put_same depth ts x k b e h)))
        (λ m. omega (
          arith,
          put_other (active_of cs) ts x k b m,
          put_other base_of ts x k a (λ e. omega (arith, g, ap (runs w) e, s.idle)),
          s.above on a b g n (omega (arith, i, put_other depth ts x k b m)),
        ));
    apart = λ on a b n i j. split a x (λ e. absurd (omega (arith, i, put_same depth ts x k a e h)))
        (λ m. split b x (λ e. absurd (omega (arith, j, put_same depth ts x k b e h)))
        (λ o c d. s.apart on a b n (omega (arith, i, put_other depth ts x k a m)) (omega (arith, j, put_other depth ts x k b o))
        (omega (arith, c, put_other base_of ts x k b o, put_other (active_of cs) ts x k a m))
        (omega (arith, d, put_other base_of ts x k a m, put_other (active_of cs) ts x k b o))));
  }

  -- and is away
  pub stand-away : (y : ℕ) → length ts ≤ y → ready (entry ts x) + running (entry ts x) ≡ 0 → Stand ord cs ts qs w y
  unfolding is_ready is_running
  stand-away y o r = record {
    runner = λ u n. at u;
    queueing = λ u n. line u;
    idle = omega (arith, at y, out_of running ts y o);
    unqueued = omega (arith, line y, out_of ready ts y o);
    empty = out_of depth ts y o;
    level = s.level;
    present = s.present;
    heads = s.heads;
    above = s.above;
    apart = s.apart;
  }
    where
      at : (u : ℕ) → runs w u ≡ running (entry ts u)
      at u = split u x (λ e. omega (arith, ap (runs w) e, ap (λ (v : ℕ). running (entry ts v)) e, s.idle)) (s.runner u)

      line : (u : ℕ) → queued qs u ≡ ready (entry ts u)
      line u = split u x (λ e. omega (arith, ap (queued qs) e, ap (λ (v : ℕ). ready (entry ts v)) e, s.unqueued)) (s.queueing u)

  -- the task on its way becomes ready: at the tail of the queue for its active priority
  pub stand-ready : (p y : ℕ) → length qs ≡ last_priority → x < length ts → length ts ≤ y → active_of cs (entry ts x) ≡ suc p →
      p < last_priority →
      Stand ord cs (set ts x (with_place (entry ts x) Ready)) (set qs p (get_or qs p [] ++ (x ∷ []))) w y
  unfolding is_ready is_running
  stand-ready p y len low o a top = record {
    runner = λ u n. split u x (λ e. omega (arith, ap (runs w) e, s.idle, put_same running ts x k u e low))
        (λ m. s.runner u m ∙ sym (put_other running ts x k u m));
    queueing =
        λ u n. split u x
        (λ e. omega (arith, ap (queued qs) e, s.unqueued, sum u, times-same x u (sym e), put_same ready ts x k u e low))
        (λ m. omega (arith, sum u, times-other x u m, s.queueing u m, put_other ready ts x k u m));
    idle = omega (arith, s.runner y far, out_of running ts y o);
    unqueued = omega (arith, s.queueing y far, out_of ready ts y o, sum y, times-other x y far);
    empty = put_keeps depth ts x k refl y ∙ out_of depth ts y o;
    level = λ q u g. put_keeps (active_of cs) ts x k refl u ∙
        split q p (λ e. row q u e g) (λ m. s.level q u (omega (arith, g, ap (times_in u) (row_other qs p l q m))));
    present = present-placed x k low refl refl;
    heads = λ on q u g. put_keeps depth ts x k refl u ∙
        split q p (λ e. head on q u e g)
        (λ m. s.heads on q u (omega (arith, g, ap (λ (v : List ℕ). times_in u (drop 1 v)) (row_other qs p l q m))));
    above = above_kept x k refl refl refl;
    apart = apart-kept x k refl refl refl;
  }
    where
      k : TaskRecord
      k = with_place (entry ts x) Ready

      l : List ℕ
      l = get_or qs p [] ++ (x ∷ [])

      far : y ≡ x → ⊥
      far e = omega arith

      sum : (u : ℕ) → queued (set qs p l) u ≡ queued qs u + times_in u (x ∷ [])
      sum u = omega (arith, queued-set qs p l u (omega arith), times-append u (get_or qs p []) (x ∷ []))

      row : (q u : ℕ) → q ≡ p → 0 < times_in u (get_or (set qs p l) q []) → active_of cs (entry ts u) ≡ suc q
      row q u e g =
          split u x (λ i. ap (λ (v : ℕ). active_of cs (entry ts v)) i ∙ a ∙ ap suc (sym e))
          (λ m. s.level p u
          (omega (
            arith,
            g,
            ap (times_in u) (row_same qs p l q e (omega arith)),
            times-append u (get_or qs p [])
                (x ∷ []),
            times-other x u m,
          )) ∙ ap suc (sym e))

      head : ord ≡ true → (q u : ℕ) → q ≡ p → 0 < times_in u (drop 1 (get_or (set qs p l) q [])) → depth (entry ts u) ≡ 0
      head on q u e g =
          split u x (λ i. ap (λ (v : ℕ). depth (entry ts v)) i ∙ s.empty)
          (λ m. s.heads on p u
          (omega (
            arith,
            g,
            ap (λ (v : List ℕ). times_in u (drop 1 v)) (row_same qs p l q e (omega arith)),
            times-tail u x
                (get_or qs p []),
            times-other x u m,
          )))

  -- the running task t stops, and goes to the head of its queue
  pub stand-preempt : (t p : ℕ) → length qs ≡ last_priority → t < length ts → length ts ≤ x → 0 < runs w t →
      active_of cs (entry ts t) ≡ suc p → p < last_priority →
      Stand ord cs (set ts t (with_place (entry ts t) Ready)) (set qs p (t ∷ get_or qs p [])) None x
  unfolding is_ready is_running runs
  stand-preempt t p len low o r a top = record {
    runner = λ u n. split u t (λ e. omega (arith, put_same running ts t k u e low))
        (λ m. omega (arith, all_runs o u, runs-one w t u r m, put_other running ts t k u m));
    queueing =
        λ u n. split u t (λ e. omega (arith, ap (queued qs) e, none, sum u, times-same t u (sym e), put_same ready ts t k u e low))
        (λ m. omega (arith, sum u, times-other t u m, all-queueing o u, put_other ready ts t k u m));
    idle = refl;
    unqueued = omega (arith, sum x, times-other t x far, s.unqueued);
    empty = put_keeps depth ts t k refl x ∙ s.empty;
    level = λ q u g. put_keeps (active_of cs) ts t k refl u ∙
        split q p (λ e. row q u e g) (λ m. s.level q u (omega (arith, g, ap (times_in u) (row_other qs p l q m))));
    present = present-placed t k low refl refl;
    heads = λ on q u g. put_keeps depth ts t k refl u ∙
        split q p (λ e. head on q u e g)
        (λ m. s.heads on q u (omega (arith, g, ap (λ (v : List ℕ). times_in u (drop 1 v)) (row_other qs p l q m))));
    above = λ on b c g. absurd (not-suc-le-zero g);
    apart = apart-kept t k refl refl refl;
  }
    where
      k : TaskRecord
      k = with_place (entry ts t) Ready

      l : List ℕ
      l = t ∷ get_or qs p []

      far : x ≡ t → ⊥
      far e = omega arith

      none : queued qs t ≡ 0
      none = omega (arith, all-queueing o t, all_runs o t, one_place (entry ts t).place)

      sum : (u : ℕ) → queued (set qs p l) u ≡ queued qs u + times_in u (t ∷ [])
      sum u = omega (arith, queued-set qs p l u (omega arith), times-cons u t (get_or qs p []))

      row : (q u : ℕ) → q ≡ p → 0 < times_in u (get_or (set qs p l) q []) → active_of cs (entry ts u) ≡ suc q
      row q u e g =
          split u t (λ i. ap (λ (v : ℕ). active_of cs (entry ts v)) i ∙ a ∙ ap suc (sym e))
          (λ m. s.level p u
          (omega (
            arith,
            g,
            ap (times_in u) (row_same qs p l q e (omega arith)),
            times-cons u t
                (get_or qs p []),
            times-other t u m,
          )) ∙ ap suc (sym e))

      -- the former head holds nothing: its active priority is the runner's
      head : ord ≡ true → (q u : ℕ) → q ≡ p → 0 < times_in u (drop 1 (get_or (set qs p l) q [])) → depth (entry ts u) ≡ 0
      head on q u e g =
          let i : 0 < times_in u (get_or qs p []) =
          omega (arith, g, ap (λ (v : List ℕ). times_in u (drop 1 v)) (row_same qs p l q e (omega arith))) in
          compare 1 (depth (entry ts u))
          (λ h. absurd
          (omega (
            arith,
            s.above on t u r (λ f. omega (arith, ap (queued qs) f, queued-at qs p u, none)) h,
            s.level p u i,
            base-low cs (base_of (entry ts t)) (entry ts t).held,
          )))
          (λ h. omega arith)

  -- nobody runs; the head of the highest queue, at p, runs
  pub stand-start : (p : ℕ) → length qs ≡ last_priority → p < last_priority → length ts ≤ x →
      ((u : ℕ) → runs w u ≡ 0) → 0 < length (get_or qs p []) → ((q u : ℕ) → p < q → q < last_priority → times_in u (get_or qs q []) ≡ 0) →
      Stand ord cs (set ts (get_or (get_or qs p []) 0 0) (with_place (entry ts (get_or (get_or qs p []) 0 0)) Running))
      (set qs p (drop 1 (get_or qs p []))) (Some (get_or (get_or qs p []) 0 0)) x
  unfolding is_ready is_running
  stand-start p len low o r full top = record {
    runner = λ u n. split u t (λ e. omega (arith, ap (runs (Some t)) e, runs-self t, put_same running ts t k u e there))
        (λ m. omega (arith, all_runs o u, r u, runs-apart t u m, put_other running ts t k u m));
    queueing =
        λ u n. split u t
        (λ e. omega (
          arith,
          sum u,
          times-head u q₀ full,
          times-same t u (sym e),
          all-queueing o u,
          one_place
              (entry ts u).place,
          put_same ready ts t k u e there,
        ))
        (λ m. omega (arith, sum u, times-head u q₀ full, times-other t u m, all-queueing o u, put_other ready ts t k u m));
    idle = runs-apart t x far;
    unqueued = omega (arith, sum x, times-behind x q₀, s.unqueued);
    empty = put_keeps depth ts t k refl x ∙ s.empty;
    level = λ q u g. put_keeps (active_of cs) ts t k refl u ∙
        split q p
        (λ e. s.level q u
        (omega (
          arith,
          g,
          ap (times_in u) (row_same qs p l q e (omega arith)),
          times-behind u q₀,
          ap
              (λ (v : ℕ). times_in u (get_or qs v [])) e,
        )))
        (λ m. s.level q u (omega (arith, g, ap (times_in u) (row_other qs p l q m))));
    present = present-placed t k there refl refl;
    heads = λ on q u g. put_keeps depth ts t k refl u ∙
        split q p
        (λ e. s.heads on p u
        (omega (
          arith,
          g,
          ap (λ (v : List ℕ). times_in u (drop 1 v)) (row_same qs p l q e (omega arith)),
          times-behind u
              (drop 1 q₀),
        )))
        (λ m. s.heads on q u (omega (arith, g, ap (λ (v : List ℕ). times_in u (drop 1 v)) (row_other qs p l q m))));
    above = λ on b c g n i. split b t
        (λ e. omega (
          arith,
          put_keeps (active_of cs) ts t k refl c,
          put_keeps base_of ts t k refl b,
          ap (λ (v : ℕ). base_of (entry ts v)) e,
          first on c (λ f. n (f ∙ sym e)) (omega (arith, i, put_keeps depth ts t k refl c)),
        ))
        (λ m. absurd (omega (arith, g, runs-apart t b m)));
    apart = apart-kept t k refl refl refl;
  }
    where
      q₀ : List ℕ
      q₀ = get_or qs p []

      t : ℕ
      t = get_or q₀ 0 0

      k : TaskRecord
      k = with_place (entry ts t) Running

      l : List ℕ
      l = drop 1 q₀

      has : 0 < times_in t q₀
      has = omega (arith, times-head t q₀ full, times-same t t refl)

      sum : (u : ℕ) → queued (set qs p l) u + times_in u q₀ ≡ queued qs u + times_in u l
      sum u = queued-set qs p l u (omega arith)

      there : t < length ts
      there = compare (length ts) t (λ g. absurd (omega (arith, has, queued-at qs p t, all-queueing o t, out_of ready ts t g)))
          (λ g. g)

      far : x ≡ t → ⊥
      far e = omega (arith, there)

      -- another holder is ready, and not higher; not in the same queue, where it would stand behind the head
      lower : ord ≡ true → (c : ℕ) → (c ≡ t → ⊥) → 0 < depth (entry ts c) → active_of cs (entry ts c) < suc p
      lower on c n h =
          let v : Row qs c = row-of qs c (omega (arith, s.present c h, all_runs o c, all-queueing o c, r c)) in
          compare (suc p) v.at
          (λ g. absurd (omega (arith, v.has, top v.at c g (omega (arith, v.low)))))
          (λ g. split v.at p
          (λ e. absurd
          (omega (
            arith,
            s.heads on p c
                (omega (arith, v.has, ap (λ (z : ℕ). times_in c (get_or qs z [])) e, times-head c q₀ full, times-other t c n)),
          )))
          (λ m. omega (arith, s.level v.at c v.has, m)))

      first : ord ≡ true → (c : ℕ) → (c ≡ t → ⊥) → 0 < depth (entry ts c) → active_of cs (entry ts c) < base_of (entry ts t)
      first on c n h =
          compare 1 (depth (entry ts t))
          (λ g. compare (base_of (entry ts t)) (active_of cs (entry ts c))
          (λ i. absurd
          (s.apart on t c (λ f. n (sym f)) g h
          (omega (arith, base-low cs (base_of (entry ts c)) (entry ts c).held, lower on c n h, s.level p t has)) i))
          (λ i. i))
          (λ g. omega (arith, lower on c n h, s.level p t has, bare cs (base_of (entry ts t)) (entry ts t).held (omega arith)))

  -- the running task t gets another record with its place and base: it enters or leaves an object
  pub stand-held : (t : ℕ) (k : TaskRecord) → length ts ≤ x → t < length ts → 0 < runs w t → ready k ≡ ready (entry ts t) →
      running k ≡ running (entry ts t) → base_of k ≡ base_of (entry ts t) → Stand ord cs (set ts t k) qs w x
  stand-held t k o low r er eg eb = record {
    runner = λ u n. all_runs o u ∙ sym (put_keeps running ts t k eg u);
    queueing = λ u n. all-queueing o u ∙ sym (put_keeps ready ts t k er u);
    idle = s.idle;
    unqueued = s.unqueued;
    empty = put_other depth ts t k x far ∙ s.empty;
    level = λ p u g. put_other (active_of cs) ts t k u (queuer p u g) ∙ s.level p u g;
    present =
        λ u g. split u t
        (λ e. omega (
          arith,
          put_same ready ts t k u e low,
          put_same running ts t k u e low,
          none,
          all_runs o t,
          one_place
              (entry ts t).place,
        ))
        (λ n. omega (
          arith,
          put_other ready ts t k u n,
          put_other running ts t k u n,
          s.present u
              (omega (arith, g, put_other depth ts t k u n)),
        ));
    heads = λ on p u g. put_other depth ts t k u (queuer p u (omega (arith, g, times-behind u (get_or qs p [])))) ∙ s.heads on p u g;
    above = λ on b c g n i. split c t (λ e. absurd (omega (arith, g, runs-one w t b r (λ f. n (e ∙ sym f)))))
        (λ m. omega (
          arith,
          put_other (active_of cs) ts t k c m,
          put_keeps base_of ts t k eb b,
          s.above on b c g n
              (omega (arith, i, put_other depth ts t k c m)),
        ));
    apart = λ on b c n i j. split b t
        (λ e d f. absurd
        (omega (arith, f, below on c (λ z. n (e ∙ sym z)) j, put_keeps base_of ts t k eb b, ap (λ (v : ℕ). base_of (entry ts v)) e)))
        (λ m. split c t
        (λ e d f. absurd (omega (arith, d, below on b m i, put_keeps base_of ts t k eb c, ap (λ (v : ℕ). base_of (entry ts v)) e)))
        (λ m₂ d f. s.apart on b c n (omega (arith, i, put_other depth ts t k b m)) (omega (arith, j, put_other depth ts t k c m₂))
        (omega (arith, d, put_other base_of ts t k c m₂, put_other (active_of cs) ts t k b m))
        (omega (arith, f, put_other base_of ts t k b m, put_other (active_of cs) ts t k c m₂))));
  }
    where
      far : x ≡ t → ⊥
      far e = omega arith

      none : queued qs t ≡ 0
      none = omega (arith, all-queueing o t, all_runs o t, one_place (entry ts t).place)

      queuer : (p u : ℕ) → 0 < times_in u (get_or qs p []) → u ≡ t → ⊥
      queuer p u g e = omega (arith, g, queued-at qs p u, ap (queued qs) e, none)

      below : ord ≡ true → (c : ℕ) → (c ≡ t → ⊥) → 0 < depth (entry (set ts t k) c) → active_of cs (entry (set ts t k) c) < base_of
          (entry ts t)
      below on c n h =
          omega (arith, put_other (active_of cs) ts t k c n, s.above on t c r n (omega (arith, h, put_other depth ts t k c n)))

  -- any task gets another record with its place, base and held objects
  pub stand-same : (t : ℕ) (k : TaskRecord) → length ts ≤ x → ready k ≡ ready (entry ts t) → running k ≡ running (entry ts t) →
      base_of k ≡ base_of (entry ts t) → depth k ≡ depth (entry ts t) → active_of cs k ≡ active_of cs (entry ts t) →
      Stand ord cs (set ts t k) qs w x
  stand-same t k o er eg eb eh ea = record {
    runner = λ u n. all_runs o u ∙ sym (put_keeps running ts t k eg u);
    queueing = λ u n. all-queueing o u ∙ sym (put_keeps ready ts t k er u);
    idle = s.idle;
    unqueued = s.unqueued;
    empty = put_keeps depth ts t k eh x ∙ s.empty;
    level = λ p u g. put_keeps (active_of cs) ts t k ea u ∙ s.level p u g;
    present =
        λ u g. omega (
          arith,
          put_keeps ready ts t k er u,
          put_keeps running ts t k eg u,
          s.present u
              (omega (arith, g, put_keeps depth ts t k eh u)),
        );
    heads = λ on p u g. put_keeps depth ts t k eh u ∙ s.heads on p u g;
    above = above_kept t k eh eb ea;
    apart = apart-kept t k eh eb ea;
  }

  -- a ready task at p leaves its queue
  pub stand-unqueued : (t p : ℕ) → length qs ≡ last_priority → p < last_priority → length ts ≤ x → active_of cs (entry ts t) ≡ suc p →
      ready (entry ts t) ≡ 1 → depth (entry ts t) ≡ 0 → Stand ord cs ts (set qs p (without t (get_or qs p []))) w t
  stand-unqueued t p len low o a rd z = record {
    runner = λ u n. all_runs o u;
    queueing = λ u n. omega (arith, sum u, without_other t u (get_or qs p []) n, all-queueing o u);
    idle = omega (arith, all_runs o t, one_place (entry ts t).place);
    unqueued = omega (arith, sum t, without-self t (get_or qs p []) has, all-queueing o t);
    empty = z;
    level = λ q u g. split q p
        (λ e. s.level q u
        (omega (
          arith,
          g,
          ap (times_in u) (row_same qs p l q e (omega arith)),
          without-less u t (get_or qs p []),
          ap
              (λ (v : ℕ). times_in u (get_or qs v [])) e,
        )))
        (λ m. s.level q u (omega (arith, g, ap (times_in u) (row_other qs p l q m))));
    present = s.present;
    heads = λ on q u g. split q p
        (λ e. s.heads on q u
        (omega (
          arith,
          g,
          ap (λ (v : List ℕ). times_in u (drop 1 v)) (row_same qs p l q e (omega arith)),
          without-behind u t
              (get_or qs p []),
          ap (λ (v : ℕ). times_in u (drop 1 (get_or qs v []))) e,
        )))
        (λ m. s.heads on q u (omega (arith, g, ap (λ (v : List ℕ). times_in u (drop 1 v)) (row_other qs p l q m))));
    above = s.above;
    apart = s.apart;
  }
    where
      l : List ℕ
      l = without t (get_or qs p [])

      sum : (u : ℕ) → queued (set qs p l) u + times_in u (get_or qs p []) ≡ queued qs u + times_in u l
      sum u = queued-set qs p l u (omega arith)

      has : 0 < times_in t (get_or qs p [])
      has =
          let v : Row qs t = row-of qs t (omega (arith, all-queueing o t)) in
          let e : v.at ≡ p = omega (arith, s.level v.at t v.has, a) in
          subst (λ (y : ℕ). 0 < times_in t (get_or qs y [])) e v.has
