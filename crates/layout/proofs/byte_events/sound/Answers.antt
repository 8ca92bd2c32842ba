-- `layout::byte_events::sound` meets its contract.
use Rattle.layout.proofs.EventLaws.{flag-some, flag-none, some_loaded, none_loaded, sound-yes, sound-no}
use Rattle.layout.proofs.byte_events.sound.Goals as goal

pub returns-then-loaded : goal.returns-then-loaded
returns-then-loaded c =
    let all = some_loaded c.args.bytes.now _ (flag-some _ c.loaded.new.memory _ c.loaded.ensures c.if-loaded.true) in
    sound-yes c.args.bytes.now all.0 all.1

pub returns-else-loaded : goal.returns-else-loaded
returns-else-loaded c =
    let none = none_loaded c.args.bytes.now (flag-none _ c.loaded.new.memory _ c.loaded.ensures c.if-loaded.false) in
    sound-no c.args.bytes.now _ c.number.ensures none
