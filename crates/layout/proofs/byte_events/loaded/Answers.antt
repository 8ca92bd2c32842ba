-- `layout::byte_events::loaded` meets its contract.
use mathlib.Core.Path.{sym, ◌∙◌}
use Rattle.layout.proofs.EventLaws.{unloadable, loaded_told}
use Rattle.layout.proofs.byte_events.loaded.Goals as goal

pub returns-then-not-loadable : goal.returns-then-not-loadable
returns-then-not-loadable c = unloadable c.args.bytes.now (sym c.loadable.ensures ∙ c.if-not-loadable.true)

pub returns : goal.returns
returns c =
    let ok = sym c.loadable.ensures ∙ c.if-not-loadable.false in
    loaded_told c.args.bytes.now ok _ c.load.ensures _ c.long_at.ensures _ c.sound.ensures
