-- `cells::states::loadable` meets its contract.
use mathlib.Core.Path.{sym, ◌∙◌}
use Rattle.cells.proofs.RangeLaws.{read-long}
use Rattle.cells.proofs.StateLaws.{sizes_lent}
use Rattle.cells.proofs.states.loadable.Goals as goal

pub returns-then-readable : goal.returns-then-readable
returns-then-readable c =
    let r = sym c.readable.ensures ∙ c.if-readable.true in
    let lent = sizes_lent c.args.bytes.now (read-long _ r) _ c.sizes_fit.ensures in
    rw (r, lent)
