-- Laws of the methods: the test of soundness, and the three ways of an event.
use Rattle.std.proofs.Common.{◌≡◌, refl, ap, ◌∙◌, sym, Bool, true, false, ◌&&◌, cond, None, Some, Ok, Err, is_ok, eqb, is_some}
use Rattle.rules.specs.Answers.{Answer, number_of}
use Rattle.rules.specs.declared.Refusal.TheVariants.{NoSuchTask, NoSuchObject, BadPriority, BadReading, NobodyRuns, EndedTask}
use Rattle.rules.specs.declared.Refusal.TheVariants.{InsideAction, AboveCeiling, NotInnermost, Unsound, BadCounts, BadBases}
use Rattle.rules.specs.Model.{Model}
use Rattle.rules.specs.Events.{apply}
use Rattle.rules.specs.Sound.{sound}
use Rattle.rules.specs.declared.Event.{Event}
use Rattle.rules.proofs.Choices.{and_left, and_right}
use Rattle.marks.specs.Marks.{marks_of}
use Rattle.memory.specs.Memory.{Did}
use Rattle.memory.specs.Rulings.{answer_in, report_in}
use Rattle.memory.specs.declared.rulings.Ruling.{Ruling}
use Rattle.dispatch.specs.declared.State.{State}
use Rattle.dispatch.specs.State.{view, encode}
use Rattle.dispatch.specs.Sound.{sizes_fit, marks_good, sound_of}
use Rattle.dispatch.specs.Methods.{answered, unsound, applied_of, loaded_of}

-- 0 is the number of no refusal
pub ok-is : (a : Answer) → eqb (number_of a) 0 ≡ is_ok a
ok-is (Ok done) = refl
ok-is (Err NoSuchTask) = refl
ok-is (Err NoSuchObject) = refl
ok-is (Err BadPriority) = refl
ok-is (Err BadReading) = refl
ok-is (Err NobodyRuns) = refl
ok-is (Err EndedTask) = refl
ok-is (Err InsideAction) = refl
ok-is (Err AboveCeiling) = refl
ok-is (Err NotInnermost) = refl
ok-is (Err Unsound) = refl
ok-is (Err BadCounts) = refl
ok-is (Err BadBases) = refl

module _ (s : State) where
  -- the sizes of a sound state fit, and it means a sound Model
  pub sound-fits : sound_of s ≡ true → sizes_fit s ≡ true
  unfolding sound_of
  sound-fits e = and_left (sizes_fit s) (marks_good s) (and_left (sizes_fit s && marks_good s) (sound (view s)) e)

  pub view-sound : sound_of s ≡ true → sound (view s) ≡ true
  unfolding sound_of
  view-sound e = and_right (sizes_fit s && marks_good s) (sound (view s)) e

  -- sizes that do not fit
  pub unfit : sizes_fit s ≡ false → false ≡ sound_of s
  unfolding sound_of
  unfit e = rw e

  pub unsound-by : (e : Event) → sound_of s ≡ false → unsound s ≡ applied_of s e
  unfolding applied_of
  unsound-by e f = rw f

  -- sizes that fit: the memory m is tested
  pub tested : (m : Model) (r : Bool) → sizes_fit s ≡ true → m ≡ view s → r ≡ (eqb s.marks (marks_of m.ready) && sound m) → r ≡ sound_of s
  unfolding sound_of marks_good
  tested m r fit e f = f ∙ (ap (λ (n : Model). eqb s.marks (marks_of n.ready) && sound n) e ∙ rw fit)

  -- the memory of a sound state, and none
  pub loaded-none : sound_of s ≡ false → None ≡ loaded_of s
  unfolding loaded_of
  loaded-none e = rw e

  pub loaded-some : sound_of s ≡ true → Some (view s) ≡ loaded_of s
  unfolding loaded_of
  loaded-some e = rw e

  pub none-loaded : None ≡ loaded_of s → sound_of s ≡ false
  unfolding loaded_of
  none-loaded e = go (sound_of s) e
    where
      go : (b : Bool) → None ≡ cond b (Some (view s)) None → b ≡ false
      go true f = absurd (cc)
      go false f = refl

  pub some-loaded : (m : Model) → Some m ≡ loaded_of s → (sound_of s ≡ true) × (m ≡ view s)
  unfolding loaded_of
  some-loaded m e = go (sound_of s) e
    where
      go : (b : Bool) → Some m ≡ cond b (Some (view s)) None → (b ≡ true) × (m ≡ view s)
      go true f = (refl, cc)
      go false f = absurd (cc)

  pub loaded-is : is_some (loaded_of s) ≡ sound_of s
  unfolding loaded_of
  loaded-is = go (sound_of s)
    where
      go : (b : Bool) → is_some (cond b (Some (view s)) None) ≡ b
      go true = refl
      go false = refl

  -- an event on the memory of a sound state
  module _ (e : Event) (m n : Model) (x : Ruling) (good : sound_of s ≡ true) (same : m ≡ view s) (d : Did n x (apply m e)) where
    by-rule : applied_of s e ≡ answered s (apply m e)
    unfolding applied_of
    by-rule = rw (good, same)

    pub applied-by : record { answer = answer_in x; report = report_in x; state = cond (is_ok (answer_in x)) (encode n) s } ≡ applied_of s e
    unfolding answered
    applied-by = sym (by-rule ∙ rw (← d.answer, ← d.report, ok-is (answer_in x), ← d.same))

    -- the same said apart
    pub refused-by : is_ok (answer_in x) ≡ false → record { answer = answer_in x; report = report_in x; state = s } ≡ applied_of s e
    unfolding answered
    refused-by z = sym (by-rule ∙ rw (← d.answer, ← d.report, ok-is (answer_in x), z))

    pub accepted-by : is_ok (answer_in x) ≡ true → record { answer = answer_in x; report = report_in x; state = encode n } ≡ applied_of s e
    unfolding answered
    accepted-by z = sym (by-rule ∙ rw (← d.answer, ← d.report, ok-is (answer_in x), z, ← d.same))
