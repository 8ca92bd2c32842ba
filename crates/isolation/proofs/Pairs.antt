-- Two runs of rosters that agree above p, wherever they have come to: what is then the same, and which answers agree.
use mathlib.Core.Path.{◌≡◌, refl, ap, ◌∙◌, sym}
use mathlib.Core.Logic.{inl, inr}
use mathlib.Core.Bool.{Bool, true, false}
use mathlib.Core.List.{List, [], ◌∷◌}
use Prim.Native.Nat.{ℕ, ◌-◌, ◌≤◌, ◌<◌}
use native.Mathlib.Omega.{arith}
use borrow.Author.Tests.{leb-true, leb-false}
use lib.Dec.{leb}
use lib.ListN.{length, get_or}
use Rattle.std.specs.Prelude.{None, Option, Some, ℕ}
use Rattle.rules.specs.Limits.{task_limit}
use Rattle.rules.specs.Lists.{times_in}
use Rattle.rules.specs.Model.{Model, task_at, queue, active}
use Rattle.rules.specs.Events.{no_task, apply}
use Rattle.rules.specs.Sound.{is_ready, queued}
use Rattle.rules.specs.declared.Place.TheVariants.{Ready}
use Rattle.rules.specs.Answers.{Answer}
use Rattle.rules.proofs.Choices.{compare, clash}
use Rattle.rules.proofs.Counts.{queued-at, Row, row-of}
use Rattle.rules.proofs.TaskLaws.{ready, out_of}
use Rattle.rules.proofs.Standing.{all-queueing}
use Rattle.format.specs.Roster.{Roster, base_of, script_of}
use Rattle.format.proofs.PassedLaws.{Orderly}
use Rattle.trace.specs.Config.{Config, start_of, outside, happen}
use Rattle.safety.specs.History.{Event, clock, release, step, input_of, after_from}
use Rattle.safety.proofs.Invariant.{step-done}
use Rattle.safety.proofs.Theorem.{all-zero}
use Rattle.isolation.specs.Sharing.{Above, Agree}
use Rattle.isolation.specs.Isolated.{Same, Apart, Excepted, Isolated}
use Rattle.isolation.specs.Unseen.{Unseen, Turn, both, first, second, firsts, seconds, next, Unnoticed}
use Rattle.isolation.proofs.View.{view-sym, view_then}
use Rattle.isolation.proofs.Layers.{Layer, up-active, is-high, view-active}
use Rattle.isolation.proofs.Sorting.{Sorts, above-high, high_base, sorts-first, sorts-second}
use Rattle.isolation.proofs.Starting.{start-course, start-view}
use Rattle.isolation.proofs.Answering.{clock-answers, release-answers}
use Rattle.isolation.proofs.Courses.{Course, course-layer, now-firm, course-on, unseen-event}
use Rattle.isolation.proofs.Events.{Both, both-on, other-runs}

-- the queues above p are those of the tasks above p
module _ (p : ℕ) (high : ℕ → Bool) (r : Roster) (c : Config) (u : Course p high r c) where
  m : Model
  m = c.model

  layer : Layer p high m
  unfolding m
  layer = course-layer p high r c u

  -- how often a task stands in all queues together, and in which it stands
  in-queues : (t : ℕ) → queued m.ready t ≡ ready (task_at m t)
  unfolding m
  in-queues t = let core = u.inv.good.pending.core in all-queueing _ _ _ _ task_limit core.stand core.count t

  level : (t q : ℕ) → 1 ≤ q → 0 < times_in t (queue m q) → active m t ≡ q
  unfolding m
  level t q f g = omega (arith, u.inv.good.pending.core.stand.level (q - 1) t g, f)

  apart-only : (t q : ℕ) → p < q → 0 < times_in t (queue m q) → Above p r t
  unfolding is_ready
  apart-only t q f g =
      let in-m : t < length m.tasks = compare (length m.tasks) t
      (λ o. absurd (omega (arith, g, in-queues t, queued-at m.ready (q - 1) t, out_of ready m.tasks t o))) (λ o. o) in
      u.sorts.above t (is-high p high m layer t in-m (omega (arith, level t q (omega arith) g, f)))

  -- a task above p is active above p
  higher : (t : ℕ) → Above p r t → p < active m t
  higher t a = up-active p high m layer t (above-high p high r u.sorts t a)

  apart_ready : (t : ℕ) → (task_at m t).place ≡ Ready → times_in t (queue m (active m t)) ≡ 1
  unfolding is_ready m
  apart_ready t e =
      let one : queued m.ready t ≡ 1 = in-queues t ∙ ap is_ready e in
      let row : Row m.ready t = row-of m.ready t (omega (arith, one)) in
      let at : active m t - 1 ≡ row.at = omega (arith, u.inv.good.pending.core.stand.level row.at t row.has) in
      let same = ap (λ (q : ℕ). times_in t (get_or m.ready q [])) at in
      omega (arith, one, row.has, queued-at m.ready row.at t, same)

  pub stand-apart : Apart p r c.model
  unfolding m
  stand-apart = record {
    only = λ t q f g. apart-only t q (omega (arith, f)) g;
    ready = λ t a e. (higher t a, apart_ready t e);
    below = λ t q a f g. compare (times_in t (queue m q)) 0 (λ i. omega (arith, i))
        (λ i. absurd (omega (arith, level t q f i, higher t a, g)));
  }

module _ (p : ℕ) (r s : Roster) (k : Orderly r) (l : Orderly s) (g : Agree p r s) where
  abbrev high : ℕ → Bool
  high = high_base p r s g

  a : Sorts p high r
  a = sorts-first p r s g

  b : Sorts p high s
  b = sorts-second p r s g

  alike : (t : ℕ) → high t ≡ true → (base_of r t ≡ base_of s t) × (script_of r t ≡ script_of s t)
  alike t h = g.tasks t (inl (a.above t h))

  -- both runs, wherever they have come to
  pub record Pair (c d : Config) : Type 0 where
    first : Course p high r c
    second : Course p high s d
    both : Both p high c d

  pair-on : (c d : Config) → Pair c d → (e : Event) → Pair (next r c e) (next s d e)
  pair-on c d v e = record {
    first = course-on p high r c v.first e;
    second = course-on p high s d v.second e;
    both = both-on p high r s (λ t h. (alike t h).1) c d v.first v.second v.both e;
  }

  -- .. one of which gets an event that is not seen
  pair-first : (c d : Config) → Pair c d → (e : Event) → Unseen p r c e → Pair (next r c e) d
  pair-first c d v e n =
      let u = unseen-event p high r c v.first e n in
      record {
        first = course-on p high r c v.first e;
        second = v.second;
        both = record {
          view = view_then p high (next r c e).model c.model d.model (view-sym p high c.model (next r c e).model u.0)
              v.both.view;
          places = λ t h. u.1 t h ∙ v.both.places t h;
        };
      }

  pair-second : (c d : Config) → Pair c d → (e : Event) → Unseen p s d e → Pair c (next s d e)
  pair-second c d v e n =
      let u = unseen-event p high s d v.second e n in
      record {
        first = v.first;
        second = course-on p high s d v.second e;
        both = record {
          view = view_then p high c.model d.model (next s d e).model v.both.view u.0;
          places = λ t h. v.both.places t h ∙ sym (u.1 t h);
        };
      }

  -- every list of turns
  pub pairs : (ts : List Turn) (c d : Config) → Pair c d → Unnoticed p r s c d ts →
      Pair (after_from r c (firsts ts)) (after_from s d (seconds ts))
  unfolding after_from firsts seconds Unnoticed
  pairs [] c d v n = v
  pairs (both e ∷ ts) c d v n = pairs ts _ _ (pair-on c d v e) n
  pairs (first e ∷ ts) c d v n = pairs ts _ _ (pair-first c d v e n.0) n.1
  pairs (second e ∷ ts) c d v n = pairs ts _ _ (pair-second c d v e n.0) n.1

  pub pair-start : Pair (start_of r) (start_of s)
  unfolding start_of
  pair-start = record {
    first = start-course r k p high a;
    second = start-course s l p high b;
    both = record {
      view = start-view p high r s k l a b (λ t h. (alike t h).0) g.objects;
      places = λ t h. all-zero (length r.bases) t ∙ sym (all-zero (length s.bases) t);
    };
  }

  module _ (c d : Config) (now : Pair c d) where
    abbrev one : Event → Answer
    one e = (happen r c (input_of e)).answer

    abbrev two : Event → Answer
    two e = (happen s d (input_of e)).answer

    is-above : (t : ℕ) → Above p r t → high t ≡ true
    is-above t h = above-high p high r a t h

    runs-too : (t : ℕ) → Above p r t → c.model.running ≡ Some t → d.model.running ≡ Some t
    runs-too t h e =
        other-runs p high r s (λ t h. (alike t h).1) c d now.first now.second now.both t (is-above t h) e

    runs-back : (t : ℕ) → Above p r t → d.model.running ≡ Some t → c.model.running ≡ Some t
    runs-back t h e =
        other-runs p high s r (λ t h. sym (alike t h).1) d c now.second now.first
        (record { view = view-sym p high _ _ now.both.view; places = λ u i. sym (now.both.places u i) }) t (is-above t h) e

    same : Same p r c d
    same = record {
      now = now.both.view.now;
      position = λ t h. now.both.places t (is-above t h);
      task = λ t h. now.both.view.tasks t (is-above t h);
      priority = λ t h. view-active p high _ _ now.both.view (now-firm p high r c now.first) t
          (is-above t h);
      queues = λ q h. now.both.view.rows (q - 1) (omega arith);
      runs = λ t h. (runs-too t h, runs-back t h);
    }

    -- the answers
    listed-first : length c.model.tasks ≡ length r.bases
    listed-first = sym now.first.inv.agree.size ∙ now.first.inv.size

    listed-second : length d.model.tasks ≡ length s.bases
    listed-second = sym now.second.inv.agree.size ∙ now.second.inv.size

    -- both list a task, or neither
    listed-alike : (t : ℕ) → (Excepted p r s c (release t) → ⊥) → no_task c.model t ≡ no_task d.model t
    unfolding Excepted
    listed-alike t n =
        ap (λ (z : ℕ). leb z t) listed-first ∙ by (leb (length r.bases) t) (leb (length s.bases) t) refl refl ∙
        sym (ap (λ (z : ℕ). leb z t) listed-second)
      where
        out : (z : ℕ) → leb z t ≡ true → t < z → ⊥
        out z e h = omega (arith, h, leb-true z t e)

        by : (x y : Bool) → leb (length r.bases) t ≡ x → leb (length s.bases) t ≡ y →
            leb (length r.bases) t ≡ leb (length s.bases) t
        by true true e f = e ∙ sym f
        by true false e f = absurd (n (inr (leb-false (length s.bases) t f, out (length r.bases) e)))
        by false true e f = absurd (n (inl (leb-false (length r.bases) t e, out (length s.bases) f)))
        by false false e f = e ∙ sym f

    step-answer : (t : ℕ) → Above p r t → c.model.running ≡ Some t → one step ≡ two step
    unfolding happen input_of
    step-answer t h e =
        step-done r k c now.first.reckoning now.first.inv t e ∙
        sym (step-done s l d now.second.reckoning now.second.inv t (runs-too t h e))

    -- a step that is not excepted is one of a task above p
    by-runner : (Excepted p r s c step → ⊥) → (w : Option ℕ) → c.model.running ≡ w → one step ≡ two step
    unfolding Excepted
    by-runner n None e = absurd (n (λ t h f. let x : None ≡ Some t = sym e ∙ f in let z : ◌≡◌ {A = ℕ} 0 1 = cc in omega arith))
    by-runner n (Some t) e = go (high t) refl
      where
        go : (b : Bool) → high t ≡ b → one step ≡ two step
        go true h = step-answer t (a.above t h) e
        go false h = absurd (n (λ u i f.
            let x : Some t ≡ Some u = sym e ∙ f in
            let y : t ≡ u = cc in
            clash (sym (is-above u i) ∙ sym (ap high y) ∙ h)))

    answers : (e : Event) → (Excepted p r s c e → ⊥) → one e ≡ two e
    unfolding happen input_of outside apply
    answers (clock x) n = clock-answers c.model d.model x now.both.view.now
    answers (release t) n = release-answers c.model d.model t (listed-alike t n)
    answers step n = by-runner n c.model.running refl

    pub pair-isolated : Isolated p r s c d one two
    pair-isolated = record {
      same = same;
      apart = (
        stand-apart p high r c now.first,
        stand-apart p high s d now.second,
      );
      answers = answers;
    }
