-- Laws of the counts of queued tasks: none counted, a queue begun, an entry counted, a queue done, all done.
use Rattle.std.proofs.Common.{◌≡◌, refl, ap, ◌∙◌, sym, List, [], ◌∷◌, ℕ, zero, suc, ◌+◌, ◌-◌, ◌≤◌, ◌<◌}
use Rattle.std.proofs.Common.{length, drop, get_or, set, replicate, arith, add-one, drop-cons}
use Rattle.std.proofs.lemmas.List.{length-set, get_or-replicate, drop_all}
use Rattle.std.proofs.Math.Seq.{get_or-set_same, get_or-set_other}
use Rattle.std.proofs.Math.ListN.{get_or-eq_default}
use Rattle.rules.specs.Limits.{task_limit, first_priority}
use Rattle.rules.specs.Sound.{queued}
use Rattle.rules.specs.Lists.{times_in}
use Rattle.rules.proofs.Choices.{split, compare}
use Rattle.rules.proofs.Counts.{times-cons, times-same, times-other}
use Rattle.soundness.specs.Tested.{Counted}

-- none is counted
pub counted_none : (qs : List (List ℕ)) → Counted (replicate task_limit 0) 0 qs qs
counted_none qs = record { size = refl; few = λ t. omega (arith, none t); sum = λ t h. omega (arith, none t) }
  where
    none : (t : ℕ) → get_or {A = ℕ} (replicate task_limit 0) t 0 ≡ 0
    none t = compare task_limit t (λ h. get_or-eq_default {A = ℕ} (replicate task_limit 0) 0 {n = t} h)
        (λ h. get_or-replicate {A = ℕ} task_limit t 0 0 h)

-- the rest of the queues begins with the queue at i
queued-next : (t : ℕ) (qs : List (List ℕ)) (i : ℕ) → queued (drop i qs) t ≡ queued (get_or qs i [] ∷ drop (suc i) qs) t
unfolding queued times_in
queued-next t [] zero = refl
queued-next t [] (suc i) = refl
queued-next t (q ∷ qs) zero = refl
queued-next t (q ∷ qs) (suc i) = queued-next t qs i

module _ {cs : List ℕ} {all : List (List ℕ)} (n : ℕ) where
  -- the queue for p is begun
  pub counted-begun : (p : ℕ) (q : List ℕ) (qs : List (List ℕ)) → first_priority ≤ p → q ≡ get_or qs (p - 1) [] →
      Counted cs n (drop (p - 1) qs) all → Counted cs (n + 0) (q ∷ drop p qs) all
  counted-begun p q qs low e x =
      let f : suc (p - 1) ≡ p = omega arith in
      let g : (t : ℕ) → queued (drop (p - 1) qs) t ≡ queued (q ∷ drop p qs) t = λ t.
      queued-next t qs (p - 1) ∙ ap (λ (i : ℕ). queued (get_or qs (p - 1) [] ∷ drop i qs) t) f ∙
      ap (λ (l : List ℕ). queued (l ∷ drop p qs) t) (sym e) in
      record { size = x.size; few = λ t. omega (arith, x.few t); sum = λ t h. omega (arith, x.sum t h, g t) }

  module _ (l : List ℕ) (rest : List (List ℕ)) (i : ℕ) (x : Counted cs (n + i) (drop i l ∷ rest) all) where
    -- all its entries are counted
    pub counted-done : (k : ℕ) → length l ≤ i → n + i ≤ k → Counted cs k rest all
    unfolding queued times_in
    counted-done k h b =
        let none : (t : ℕ) → queued (drop i l ∷ rest) t ≡ queued rest t = λ t. rw (drop_all i l h) (omega arith) in
        record { size = x.size; few = λ t. omega (arith, x.few t); sum = λ t g. omega (arith, x.sum t g, none t) }

    -- its entry u is counted
    pub counted-more : (u : ℕ) → i < length l → u ≡ get_or l i 0 → u < task_limit →
        Counted (set cs u (get_or cs u 0 + 1)) (n + (i + 1)) (drop (i + 1) l ∷ rest) all
    unfolding queued
    counted-more u h e g =
        record {
          size = length-set cs u (get_or cs u 0 + 1) ∙ x.size;
          few = λ t. split t u (λ q. omega (arith, x.few u, same t q)) (λ q. omega (arith, x.few t, other t q));
          sum = λ t b. split t u
              (λ q. omega (arith, x.sum t b, parts t, times-same u t (sym q), same t q, ap (λ (v : ℕ). get_or cs v 0) q))
              (λ q. omega (arith, x.sum t b, parts t, times-other u t q, other t q));
        }
      where
        parts : (t : ℕ) → queued (drop i l ∷ rest) t ≡ times_in t (u ∷ []) + times_in t (drop (i + 1) l) + queued rest t
        parts t = rw (add-one, drop-cons l i 0 h, ← e, times-cons t u (drop (suc i) l))

        same : (t : ℕ) → t ≡ u → get_or (set cs u (get_or cs u 0 + 1)) t 0 ≡ get_or cs u 0 + 1
        same t q =
            ap (λ (v : ℕ). get_or (set cs u (get_or cs u 0 + 1)) v 0) q ∙
            get_or-set_same cs u (get_or cs u 0 + 1) 0 (omega (arith, x.size))

        other : (t : ℕ) → (t ≡ u → ⊥) → get_or (set cs u (get_or cs u 0 + 1)) t 0 ≡ get_or cs t 0
        other t q = get_or-set_other cs u t (get_or cs u 0 + 1) 0 q

-- all are counted
pub counted-all : {cs : List ℕ} {n : ℕ} {all : List (List ℕ)} (t : ℕ) → t < task_limit → Counted cs n [] all → get_or cs t 0 ≡ queued all t
unfolding queued
counted-all t h x = omega (arith, x.sum t h)
