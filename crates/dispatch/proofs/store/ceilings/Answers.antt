-- `dispatch::store::ceilings` meets its contract.
use Rattle.std.proofs.Common.{map, sym, ◌∙◌, rules, arith}
use Rattle.std.proofs.Math.ListN.{length-map}
use Rattle.rules.specs.Limits.{object_limit}
use Rattle.rules.specs.Priorities.{priority}
use Rattle.rules.specs.Model.{ceiling_of}
use Rattle.words.proofs.FromFn.{made_as}
use Rattle.loading.specs.Loading.{padded}
use Rattle.loading.proofs.PaddedLaws.{padded-length}
use Rattle.dispatch.proofs.EncodeLaws.{ceilings-at}
use Rattle.dispatch.proofs.LoadLaws.{same_at}
use Rattle.dispatch.proofs.store.ceilings.Goals as goal

pub returns : goal.returns
returns c =
    let cs = c.args.memory.now.ceilings in
    let made = c.from_fn.ensures.items in
    let size = padded-length object_limit (map priority cs) (priority 0) (omega (arith, length-map cs priority, c.requires)) in
    same_at (priority 0) _ (padded object_limit (map priority cs) (priority 0)) (made.long ∙ sym size) (λ o h.
    made_as (priority 0) (λ o. priority (ceiling_of cs o)) made (λ x y q k. search rules) o (omega (arith, made.long)) ∙
    sym (ceilings-at cs o))
