-- `layout::byte_events::running` meets its contract.
use mathlib.Core.Path.{◌∙◌, sym}
use Rattle.layout.proofs.EventLaws.{running-unread, running-told}
use Rattle.layout.proofs.byte_events.running.Goals as goal

pub returns-then-not-readable : goal.returns-then-not-readable
returns-then-not-readable c =
    running-unread c.args.bytes.now (sym c.readable.ensures ∙ c.if-not-readable.true)

pub returns : goal.returns
returns c =
    let ok = sym c.readable.ensures ∙ c.if-not-readable.false in
    running-told c.args.bytes.now _ _ ok c.runner_from.ensures c.listed_code.ensures
