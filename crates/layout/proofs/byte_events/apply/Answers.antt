-- `layout::byte_events::apply` meets its contract.
use mathlib.Core.Path.{sym, ◌∙◌}
use native.Mathlib.Omega.{arith}
use Rattle.dispatch.proofs.MethodLaws.{view-sound}
use Rattle.cells.proofs.RangeLaws.{read-long}
use Rattle.layout.proofs.EventLaws.{flag-some, flag-none, none_loaded, some_loaded, event-unsound, moved-refused, moved-done}
use Rattle.layout.proofs.byte_events.apply.Goals as goal

pub returns-then-not-loaded : goal.returns-then-not-loaded
returns-then-not-loaded c =
    let b = c.args.bytes.now in
    let bad = none_loaded b (flag-none _ c.loaded.new.memory _ c.loaded.ensures c.if-not-loaded.true) in
    let whole = event-unsound b c.args.event _ c.number-then-not-loaded.ensures _ c.number.ensures bad in
    record { value = whole.0; bytes_after = whole.1.0; report_after = whole.1.1 }

pub apply-ruling-requires : goal.apply-ruling-requires
apply-ruling-requires c =
    let all = some_loaded c.args.bytes.now _ (flag-some _ c.loaded.new.memory _ c.loaded.ensures c.if-not-loaded.false) in
    rw all.2 (view-sound _ all.1)

pub returns-then-number-ne0 : goal.returns-then-number-ne0
returns-then-number-ne0 c =
    let from = flag-some _ c.loaded.new.memory _ c.loaded.ensures c.if-not-loaded.false in
    let whole = moved-refused c.args.bytes.now c.args.event c.loaded.new.memory _ c.apply-ruling.result from c.apply-ruling.ensures.did
    _ c.number-number.ensures _ c.report_number.ensures (λ z. c.if-number-ne0.true (omega arith)) in
    record { value = whole.0; bytes_after = whole.1.0; report_after = whole.1.1 }

pub store-requires : goal.store-requires
store-requires c =
    let all = some_loaded c.args.bytes.now _ (flag-some _ c.loaded.new.memory _ c.loaded.ensures c.if-not-loaded.false) in
    read-long c.args.bytes.now all.0

pub returns : goal.returns
returns c =
    let from = flag-some _ c.loaded.new.memory _ c.loaded.ensures c.if-not-loaded.false in
    let whole = moved-done c.args.bytes.now c.args.event c.loaded.new.memory _ c.apply-ruling.result from c.apply-ruling.ensures.did
    _ c.number-number.ensures _ c.report_number.ensures (omega (arith, c.if-number-ne0.false)) _ c.store.ensures in
    record { value = whole.0; bytes_after = whole.1.0; report_after = whole.1.1 }
