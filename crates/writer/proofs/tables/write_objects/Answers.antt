-- `writer::tables::write_objects` meets its contract.
use mathlib.Core.Path.{◌≡◌, refl, ap, ◌∙◌}
use Prim.Native.Nat.{ℕ}
use native.Mathlib.Omega.{arith}
use lib.ListN.{length, length-take, length-drop}
use Rattle.words.specs.Words.{over_front}
use Rattle.encoding.specs.File.{pieces, object_row_bytes}
use Rattle.writer.proofs.TableLaws.{objects-start, objects-go}
use Rattle.writer.proofs.tables.write_objects.Goals as goal

pub loop-o-init : goal.loop-o-init
loop-o-init c = objects-start _ _

pub write_object-requires : goal.write_object-requires
write_object-requires c = simp (length-take, length-drop) (omega (arith, c.loop-o.invariant.room))

pub loop-o-preserved : goal.loop-o-preserved
loop-o-preserved c =
    objects-go c.args.ceilings.now c.args.table.now c.loop-o.o _ _ c.loop-o.table _ c.loop-o.invariant refl refl (omega arith)
    c.write_object.ensures

pub returns : goal.returns
returns c =
    let z : c.loop-o.o ≡ length c.args.ceilings.now = omega arith in
    c.loop-o.invariant.rows ∙ ap (λ (k : ℕ). over_front (pieces k (object_row_bytes c.args.ceilings.now)) c.args.table.now) z
