-- `dispatch::start::tested` meets its contract.
use Rattle.std.proofs.Common.{◌∙◌, sym, arith}
use Rattle.std.proofs.lemmas.Grind.{common_steps}
use Rattle.rules.specs.Fresh.{Setup}
use Rattle.rules.proofs.Choices.{and-make}
use Rattle.dispatch.proofs.FreshLaws.{counts-13, values-15, passed-0}
use Rattle.dispatch.proofs.start.tested.Goals as goal

pub returns-then-not-counts_good : goal.returns-then-not-counts_good
returns-then-not-counts_good c =
    let s : Setup = record { bases = c.args.bases.now; ceilings = c.args.ceilings.now } in
    counts-13 s (sym c.counts_good.ensures ∙ c.if-not-counts_good.true)

pub returns-then-all_in_range-2 : goal.returns-then-all_in_range-2
returns-then-all_in_range-2 c =
    let s : Setup = record { bases = c.args.bases.now; ceilings = c.args.ceilings.now } in
    let bases = sym c.all_in_range.ensures ∙ c.if-all_in_range.true in
    let ceilings = sym c.all_in_range-then-all_in_range.ensures ∙ c.if-all_in_range-2.true in
    passed-0 s (sym c.counts_good.ensures ∙ c.if-not-counts_good.false) (and-make _ _ bases ceilings)

pub returns-else-all_in_range : goal.returns-else-all_in_range
returns-else-all_in_range c =
    let s : Setup = record { bases = c.args.bases.now; ceilings = c.args.ceilings.now } in
    values-15 s (sym c.counts_good.ensures ∙ c.if-not-counts_good.false) (grind (arith, common_steps))
