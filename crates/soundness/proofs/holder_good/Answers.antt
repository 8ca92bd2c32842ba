-- `soundness::holder_good` meets its contract.
use Rattle.std.proofs.Common.{◌≡◌, ◌∙◌, sym, ap, length, arith, subst, ◌⊎◌}
use Rattle.std.proofs.lemmas.Bool.Decides.{nat_tests}
use Rattle.rules.specs.Model.{task_at}
use Rattle.rules.specs.Sound.{is_none}
use Rattle.rules.specs.declared.Place.{Place}
use Rattle.rules.specs.declared.Place.TheVariants.{Running, Ready}
use Rattle.soundness.proofs.ClauseLaws.{holder-free, holder-inside, none-is, here-yes, here-no}
use Rattle.soundness.proofs.holder_good.Goals as goal

pub returns-then-is_empty : goal.returns-then-is_empty
returns-then-is_empty c =
    let k = task_at c.args.memory.now c.args.t in
    let e : length c.held.result.now ≡ 0 = grind (arith, nat_tests) in
    none-is _ _ c.is_none.ensures ∙ (ap is_none c.waiting.ensures ∙ sym (holder-free k (ap length (sym c.held.ensures) ∙ e)))

pub returns-in-Ready : goal.returns-in-Ready
returns-in-Ready c =
    let k = task_at c.args.memory.now c.args.t in
    let n : length c.held.result.now ≡ 0 → ⊥ = λ e. grind (arith, nat_tests) in
    sym (holder-inside k (λ e. n (ap length c.held.ensures ∙ e)) ∙
    here-yes _ (subst (λ (x : Place). (x ≡ Ready) ⊎ (x ≡ Running)) c.place.ensures c.in-Ready.is))

pub returns-in_default : goal.returns-in_default
returns-in_default c =
    let k = task_at c.args.memory.now c.args.t in
    let n : length c.held.result.now ≡ 0 → ⊥ = λ e. grind (arith, nat_tests) in
    sym (holder-inside k (λ e. n (ap length c.held.ensures ∙ e)) ∙
    here-no _ (λ e. c.in_default.not-Ready (c.place.ensures ∙ e)) (λ e. c.in_default.not-Running (c.place.ensures ∙ e)))
