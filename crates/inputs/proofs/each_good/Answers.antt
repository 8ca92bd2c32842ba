-- `inputs::each_good` meets its contract.
use mathlib.Core.Path.{◌≡◌, refl, ap, ◌∙◌}
use mathlib.Core.List.{List, []}
use Prim.Native.Nat.{ℕ, ◌/◌, ◌%◌, ◌<◌}
use lib.ListN.{length, get_or}
use Rattle.std.specs.Int.{w64, from_le_bytes}
use Rattle.std.specs.Simd.{first_chunks}
use mathlib.Core.Bool.{◌&&◌}
use lib.Dec.{eqb}
use native.Mathlib.Omega.{arith}
use Rattle.rules.specs.Lists.{below}
use Rattle.trace.specs.Inputs.{event_count, event_good}
use Rattle.inputs.specs.Masks.{unused_bits, unknown_kinds}
use Rattle.inputs.proofs.MaskLaws.{event-good, join-on, join_last}
use Rattle.inputs.proofs.RecordLaws.{record_is, fields-at}
use Rattle.inputs.proofs.each_good.Goals as goal

pub loop-event-init : goal.loop-event-init
unfolding below
loop-event-init c = refl

pub fault_of-faults-requires : goal.fault_of-faults-requires
unfolding unused_bits unknown_kinds
fault_of-faults-requires c = record { unused_value = refl; unknown_value = refl }

pub loop-event-preserved : goal.loop-event-preserved
loop-event-preserved c =
    let s = c.args.s.now in
    let l = c.loop-event in
    let i = l.event-index in
    let fields = c.from_le_bytes-fields.result in
    let inside : i < event_count s = omega (arith, c.as_chunks.ensures.front_len) in
    let h : fields ≡ from_le_bytes w64 (get_or (first_chunks 8 (length s / 8) s) i []) =
    c.from_le_bytes-fields.ensures ∙ ap (λ (l : List (List ℕ)). from_le_bytes w64 (get_or l i [])) c.as_chunks.ensures.front in
    let good = event-good s i fields (omega arith) (fields-at s i fields c.type_inv.s (record_is s i fields inside h)) in
    let fault = ap (λ (n : ℕ). eqb n 0 && eqb (fields / 8 % 32) 0) c.fault_of-faults.ensures in
    join-on (event_good s) i l.faults l.joined c.fault_of-faults.result fields l.invariant (fault ∙ good)

pub returns : goal.returns
returns c =
    let l = c.loop-event in
    let s = c.args.s.now in
    let end : l.event-index ≡ event_count s = omega (arith, c.as_chunks.ensures.front_len) in
    join_last l.faults l.joined _ (l.invariant ∙ ap (λ (n : ℕ). below n (event_good s)) end)
