-- Laws of the tables: each row as it was written, and the loops over them.
use mathlib.Core.Path.{◌≡◌, refl, ap, ◌∙◌}
use mathlib.Core.List.{List, [], ◌∷◌, ◌++◌}
use Prim.Native.Nat.{ℕ, ◌+◌, ◌*◌, ◌≤◌}
use native.Mathlib.Omega.{arith}
use lib.ListN.{length, get_or}
use Rattle.words.specs.Words.{word, over_front}
use Rattle.format.specs.Limits.{task_row_size, object_row_size}
use Rattle.encoding.specs.File.{pieces, bytes_before, script_size, task_row_bytes, object_row_bytes}
use Rattle.encoding.proofs.FileLaws.{before-none, before_more, task-rows, object-rows}
use Rattle.writer.proofs.FrontLaws.{over-length, part_from, lent_from, row-over}

-- a row as it was written is the row
task-row : (bases lengths : List ℕ) (t base start size : ℕ) → base ≡ get_or bases t 0 → start ≡ bytes_before lengths t →
    size ≡ script_size lengths t → base ∷ 0 ∷ (word start ++ word size) ≡ task_row_bytes bases lengths t
unfolding task_row_bytes
task-row bases lengths t base start size e f g =
    ap (λ (x : ℕ). x ∷ 0 ∷ (word start ++ word size)) e ∙
    (ap (λ (x : ℕ). get_or bases t 0 ∷ 0 ∷ (word x ++ word size)) f ∙
    ap (λ (x : ℕ). get_or bases t 0 ∷ 0 ∷ (word (bytes_before lengths t) ++ word x)) g)

object-row : (ceilings : List ℕ) (o ceiling : ℕ) → ceiling ≡ get_or ceilings o 0 → ceiling ∷ 0 ∷ [] ≡ object_row_bytes ceilings o
unfolding object_row_bytes
object-row ceilings o ceiling e = ap (λ (x : ℕ). x ∷ 0 ∷ []) e

-- the loop over the tasks
module _ (bases lengths out : List ℕ) where
  pub record TasksTo (t start : ℕ) (table : List ℕ) : Type 0 where
    pub begins : start ≡ bytes_before lengths t
    pub rows : table ≡ over_front (pieces t (task_row_bytes bases lengths)) out
    pub room : length table ≡ length out

  pub tasks-start : TasksTo 0 0 out
  unfolding pieces
  tasks-start = record { begins = omega (arith, before-none lengths); rows = refl; room = refl }

  pub tasks-go : (t start at size base : ℕ) (table row : List ℕ) → TasksTo t start table → at ≡ task_row_size * t →
      size ≡ script_size lengths t → base ≡ get_or bases t 0 → task_row_size * (t + 1) ≤ length out →
      row ≡ over_front (base ∷ 0 ∷ (word start ++ word size)) (part_from table at) →
      TasksTo (t + 1) (start + size) (lent_from table at row)
  tasks-go t start at size base table row r e f g room h =
      let rows = task-rows bases lengths t in
      let more = row-over (task_row_bytes bases lengths) t _ out table row at (omega (arith, rows)) (omega (arith, rows)) r.rows
      (task-row bases lengths t base start size g r.begins f) h in
      record {
        begins = omega (arith, r.begins, before_more lengths t _ _ refl refl);
        rows = more;
        room =
            ap length more ∙
            over-length (pieces (t + 1) (task_row_bytes bases lengths)) out (omega (arith, task-rows bases lengths (t + 1)));
      }

-- the loop over the objects
module _ (ceilings out : List ℕ) where
  pub record ObjectsTo (o : ℕ) (table : List ℕ) : Type 0 where
    pub rows : table ≡ over_front (pieces o (object_row_bytes ceilings)) out
    pub room : length table ≡ length out

  pub objects-start : ObjectsTo 0 out
  unfolding pieces
  objects-start = record { rows = refl; room = refl }

  pub objects-go : (o at ceiling : ℕ) (table row : List ℕ) → ObjectsTo o table → at ≡ object_row_size * o →
      ceiling ≡ get_or ceilings o 0 → object_row_size * (o + 1) ≤ length out → row ≡ over_front (ceiling ∷ 0 ∷ []) (part_from table at) →
      ObjectsTo (o + 1) (lent_from table at row)
  objects-go o at ceiling table row r e f room h =
      let rows = object-rows ceilings o in
      let more = row-over (object_row_bytes ceilings) o _ out table row at (omega (arith, rows)) (omega (arith, rows)) r.rows
      (object-row ceilings o ceiling f) h in
      record {
        rows = more;
        room = ap length more ∙ over-length (pieces (o + 1) (object_row_bytes ceilings)) out (omega (arith, object-rows ceilings (o + 1)));
      }
