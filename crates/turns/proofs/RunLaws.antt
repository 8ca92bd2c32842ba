-- Laws of the events of a run: one from outside, and a Step with its task, its script and its position.
use mathlib.Core.Path.{◌≡◌, refl, ap, sym, ◌∙◌}
use mathlib.Core.Bool.{Bool, true, false, cond}
use mathlib.Core.List.{List}
use Prim.Native.Nat.{ℕ, ◌≤◌, ◌<◌}
use native.Mathlib.Omega.{arith}
use borrow.Author.Tests.{eq-eqb, ne_eqb}
use lib.ListN.{length, get_or, set, take}
use lib.Seq.{get_or-take, take-set-lt, set-get_or, set-set}
use Rattle.std.specs.Prelude.{Option, Some, unwrap_or}
use Rattle.rules.specs.Limits.{task_limit}
use Rattle.rules.specs.Answers.{Answer, number_of}
use Rattle.rules.specs.Model.{Model}
use Rattle.rules.specs.Moved.{Moved}
use Rattle.rules.specs.Sound.{sound}
use Rattle.rules.specs.Events.{release, clock, set_base, apply}
use Rattle.rules.specs.Priorities.{in_range, priority, checked_of}
use Rattle.rules.specs.declared.Event.TheVariants as E
use Rattle.rules.specs.declared.Priority.{Priority}
use Rattle.rules.proofs.PriorityLaws.{checked-good, checked-bad}
use Rattle.rules.proofs.SoundLaws.{sound-is}
use Rattle.rules.proofs.Unchanged.{count_kept}
use Rattle.memory.specs.Rulings.{answer_in, report_in}
use Rattle.memory.specs.Memory.{Did}
use Rattle.memory.specs.declared.rulings.Ruling.{Ruling}
use Rattle.format.specs.Format.{task_count}
use Rattle.format.specs.Roster.{Roster, roster_of}
use Rattle.format.proofs.FormatLaws.{script-count}
use Rattle.format.proofs.TestLaws.{by-test}
use Rattle.format.specs.declared.Step.{Step}
use Rattle.trace.specs.declared.Input.{Input}
use Rattle.trace.specs.declared.Input.TheVariants.{Step as Stepped}
use Rattle.trace.specs.Config.{Config, Outcome, Asked, event, nothing, event_of, answer_to, perform, position_after, is_done}
use Rattle.trace.specs.Config.{advance, next_step, position_at, step_by, happen}
use Rattle.turns.specs.Run.{Run, Happened}
use Rattle.turns.specs.MachineView.{Going}

-- by names for the parts of the outcome
happened-by : (old new : Run) (e : Input) (x : Ruling) (o : Outcome) → happen old.roster old.config e ≡ o →
    new ≡ record { roster = old.roster; config = o.config } → answer_in x ≡ o.answer → report_in x ≡ o.report → Happened old e new x
happened-by old new e x o k s a p =
    record {
      same = s ∙ ap (λ (y : Outcome). record { roster = old.roster; config = y.config }) (sym k);
      answer = a ∙ ap (λ (y : Outcome). y.answer) (sym k);
      report = p ∙ ap (λ (y : Outcome). y.report) (sym k);
    }

-- what a step of a script keeps
answer-count : (m : Model) (y : Asked) → length (answer_to m y).model.tasks ≡ length m.tasks
unfolding answer_to
answer-count m (event e) = count_kept m e
answer-count m nothing = refl

pub perform_count : (m : Model) (x : Step) → length (perform m x).model.tasks ≡ length m.tasks
unfolding perform
perform_count m x = answer-count m (event_of x)

-- nor does an event from outside bring or take a task
pub clock_count : (m : Model) (v : ℕ) → length (clock m v).model.tasks ≡ length m.tasks
unfolding apply
clock_count m v = count_kept m (E.Clock v)

pub release_count : (m : Model) (t : ℕ) → length (release m t).model.tasks ≡ length m.tasks
unfolding apply
release_count m t = count_kept m (E.Release t)

pub set_count : (m : Model) (t p : ℕ) → length (set_base m t p).model.tasks ≡ length m.tasks
unfolding apply
set_count m t p = count_kept m (E.Set t (priority p))

-- a sound Model has no more tasks than there may be; who runs is one of them, and of the roster's
pub tasks-few : (m : Model) → sound m ≡ true → length m.tasks ≤ task_limit
tasks-few m s = (sound-is m s).numbers.count

pub runner_listed : (s : List ℕ) (m : Model) (ps : List ℕ) (o : Option ℕ) (t : ℕ) → Going s m ps → o ≡ m.running → o ≡ Some t →
    t < length (roster_of s).scripts
runner_listed s m ps o t g e f = omega (arith, (sound-is m g.sound).numbers.runner t (sym e ∙ f), g.listed)

pub runner_placed : (s : List ℕ) (m : Model) (ps : List ℕ) (o : Option ℕ) (t : ℕ) → Going s m ps → o ≡ m.running → o ≡ Some t →
    t < task_limit
runner_placed s m ps o t g e f = omega (arith, runner_listed s m ps o t g e f, tasks-few m g.sound, g.listed)

pub runner_counted : (s : List ℕ) (m : Model) (ps : List ℕ) (o : Option ℕ) (t : ℕ) → Going s m ps → o ≡ m.running → o ≡ Some t →
    t < task_count s
runner_counted s m ps o t g e f = omega (arith, runner_listed s m ps o t g e f, script-count s)

module _ (r : Roster) (m : Model) (ps : List ℕ) where
  abbrev at : Config
  at = record { model = m; positions = take (length r.scripts) ps }

  abbrev run : Run
  run = record { roster = r; config = at }

-- after a move that keeps the number of tasks the run goes on
pub goes_on : (s : List ℕ) (m m' : Model) (ps ps' : List ℕ) (x : Ruling) (z : Moved) →
    Going s m ps → Did m' x z → length z.model.tasks ≡ length m.tasks →
    sound m' ≡ true → length ps' ≡ length ps → Going s m' ps'
goes_on s m m' ps ps' x z g d e k n =
    record {
      form = g.form;
      sound = k;
      listed = ap (λ (y : Model). length y.tasks) d.same ∙ (e ∙ g.listed);
      places = n ∙ g.places;
    }

-- the task t takes its next step, x, at k
module _ (r : Roster) (m : Model) (ps : List ℕ) (t : ℕ) (runs : m.running ≡ Some t) (low : t < length r.scripts) where
  abbrev k : ℕ
  k = get_or ps t 0

  abbrev x : Step
  x = next_step r t k

  abbrev c : Config
  c = at r m ps

  step_is : happen r c Stepped ≡ advance c t (position_after k x) (perform m x)
  unfolding happen step_by
  step_is =
      let place : position_at c t ≡ k = get_or-take (length r.scripts) ps t 0 low in
      ap (step_by r c) runs ∙
      ap (λ (j : ℕ). advance c t (position_after j (next_step r t j)) (perform m (next_step r t j))) place

  -- the outcome, by names for its parts
  stepped : (m' : Model) (ps' : List ℕ) (y : Ruling) → Did m' y (perform m x) →
      take (length r.scripts) ps' ≡ cond (is_done (answer_in y)) (set c.positions t (position_after k x)) c.positions →
      Happened (run r m ps) Stepped (run r m' ps') y
  unfolding advance
  stepped m' ps' y d e =
      let z : Moved = perform m x in
      let placed : take (length r.scripts) ps' ≡ cond (is_done z.answer) (set c.positions t (position_after k x)) c.positions =
      e ∙ ap (λ (b : Answer). cond (is_done b) (set c.positions t (position_after k x)) c.positions) d.answer
      in
      happened-by (run r m ps) (run r m' ps') Stepped y (advance c t (position_after k x) z) step_is
      (ap (λ (n : Model). run r n ps') d.same ∙
      ap (λ (l : List ℕ). record { roster = r; config = record { model = z.model; positions = l } }) placed)
      d.answer d.report

  -- a refused step sets its position back; an accepted one has moved it
  pub step-refused : (m' : Model) (y : Ruling) (j n : ℕ) → n ≡ number_of (answer_in y) → (n ≡ 0 → ⊥) → Did m' y (perform m x) →
      Happened (run r m ps) Stepped (run r m' (set (set ps t j) t k)) y
  step-refused m' y j n e z d =
      let no : is_done (answer_in y) ≡ false = ne_eqb (number_of (answer_in y)) 0 (λ i. z (e ∙ i)) in
      let back : set (set ps t j) t k ≡ ps = set-set ps t j k ∙ set-get_or ps t 0 in
      stepped m' _ y d
      (ap (take (length r.scripts)) back ∙
      sym (ap (λ (b : Bool). cond b (set c.positions t (position_after k x)) c.positions) no))

  pub step-accepted : (m' : Model) (y : Ruling) (j n : ℕ) → n ≡ number_of (answer_in y) → n ≡ 0 → j ≡ position_after k x →
      Did m' y (perform m x) → Happened (run r m ps) Stepped (run r m' (set ps t j)) y
  step-accepted m' y j n e z f d =
      let yes : is_done (answer_in y) ≡ true = eq-eqb (number_of (answer_in y)) 0 (sym e ∙ z) in
      stepped m' _ y d
      (take-set-lt (length r.scripts) ps t j low ∙
      (ap (set c.positions t) f ∙
      sym (ap (λ (b : Bool). cond b (set c.positions t (position_after k x)) c.positions) yes)))

-- a Set of a value that is no priority: every such value gets the same
pub set_same : (m : Model) (t value : ℕ) → set_base m t (unwrap_or (checked_of value) (priority 0)).0 ≡ set_base m t value
unfolding set_base
set_same m t value =
    by-test (in_range value)
    (λ e. ap (λ (v : Option Priority). set_base m t (unwrap_or v (priority 0)).0) (checked-good value e))
    (λ e. ap (λ (v : Option Priority). set_base m t (unwrap_or v (priority 0)).0) (checked-bad value e) ∙ sym (rw e))

-- for the machine's proofs
pub ruleset runner_laws = (runner_listed, runner_placed, runner_counted)

pub ruleset going_laws = (goes_on, perform_count, clock_count, release_count, set_count)
