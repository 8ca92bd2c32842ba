-- Laws of the fresh start: its tests in their order, and what stands beside each answer.
use Rattle.std.proofs.Common.{◌≡◌, refl, ap, ◌∙◌, sym, Bool, true, false, Ok, Err}
use Rattle.rules.specs.Priorities.{in_range}
use Rattle.rules.specs.Fresh.{Setup, Begun, fresh, fresh_model, single_task, refused_fresh, setup_counted, setup_in_range, Startable}
use Rattle.rules.specs.declared.Refusal.{Refusal}
use Rattle.rules.specs.declared.Refusal.TheVariants.{BadCounts, BadBases}
use Rattle.rules.specs.Lists.{all_of}
use Rattle.rules.proofs.Choices.{and-make}
use Rattle.rules.proofs.FreshLaws.{startable-by, fresh-13, fresh-15, fresh-0}
use Rattle.dispatch.specs.Methods.{beside, fresh_of}

pub single-startable : Startable single_task
unfolding all_of
single-startable = startable-by single_task refl refl

module _ (s : Setup) where
  -- the tests in their order
  pub counts-13 : setup_counted s ≡ false → Err BadCounts ≡ (fresh s).answer
  counts-13 e = ap (λ (b : Begun). b.answer) (sym (fresh-13 s e))

  pub values-15 : setup_counted s ≡ true → setup_in_range s ≡ false → Err BadBases ≡ (fresh s).answer
  values-15 e f = ap (λ (b : Begun). b.answer) (sym (fresh-15 s e f))

  pub passed-0 : setup_counted s ≡ true → setup_in_range s ≡ true → Ok tt ≡ (fresh s).answer
  passed-0 e f = ap (λ (b : Begun). b.answer) (sym (fresh-0 s e f))

  -- the fresh Model beside 0, and the one of a single task beside a refusal
  pub begun-0 : Ok tt ≡ (fresh s).answer → Startable s × (fresh_model s ≡ (fresh s).model)
  begun-0 e = go (setup_counted s) (setup_in_range s) refl refl
    where
      go : (a b : Bool) → setup_counted s ≡ a → setup_in_range s ≡ b → Startable s × (fresh_model s ≡ (fresh s).model)
      go true true f g = (startable-by s f g, ap (λ (x : Begun). x.model) (sym (fresh-0 s f g)))
      go true false f g = let h = e ∙ sym (values-15 f g) in absurd (cc)
      go false b f g = let h = e ∙ sym (counts-13 f) in absurd (cc)

  pub begun_refused : (r : Refusal) → Err r ≡ (fresh s).answer → refused_fresh ≡ (fresh s).model
  begun_refused r e = go (setup_counted s) (setup_in_range s) refl refl
    where
      go : (a b : Bool) → setup_counted s ≡ a → setup_in_range s ≡ b → refused_fresh ≡ (fresh s).model
      go true true f g = let h = e ∙ sym (passed-0 f g) in absurd (cc)
      go true false f g = ap (λ (x : Begun). x.model) (sym (fresh-15 s f g))
      go false b f g = ap (λ (x : Begun). x.model) (sym (fresh-13 s f))

  module _ (counts : setup_counted s ≡ true) (bases : all_of in_range s.bases ≡ true) (ceilings : all_of in_range s.ceilings ≡ true) where
    pub done-0 : beside (record { answer = Ok tt; model = fresh_model s }) ≡ fresh_of s
    unfolding fresh_of
    done-0 = ap beside (sym (fresh-0 s counts (and-make (all_of in_range s.bases) (all_of in_range s.ceilings) bases ceilings)))
