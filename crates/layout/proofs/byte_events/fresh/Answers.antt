-- `layout::byte_events::fresh` meets its contract.
use native.Mathlib.Omega.{arith}
use Rattle.layout.proofs.EventLaws.{fresh-short, fresh-made}
use Rattle.layout.proofs.byte_events.fresh.Goals as goal

pub returns-then-bytes-lt-STATE_SIZE : goal.returns-then-bytes-lt-STATE_SIZE
returns-then-bytes-lt-STATE_SIZE c =
    let a = c.args in
    let whole = fresh-short (record { bases = a.bases.now; ceilings = a.ceilings.now }) a.bytes.now _ c.number.ensures (omega arith) in
    record { value = whole.0; bytes_after = whole.1 }

pub returns : goal.returns
returns c =
    let a = c.args in
    let made = fresh-made (record { bases = a.bases.now; ceilings = a.ceilings.now }) a.bytes.now _ _ _ in
    let whole = made c.fresh-start.ensures c.write.ensures c.number-2.ensures (omega arith) in
    record { value = whole.0; bytes_after = whole.1 }
