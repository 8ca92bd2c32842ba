-- Laws of the file as it is written, part by part.
use Rattle.std.specs.Prelude.{Ok}
use mathlib.Core.Path.{◌≡◌, refl, ap, sym, ◌∙◌}
use mathlib.Core.List.{List, ◌++◌}
use Prim.Native.Nat.{ℕ, ◌+◌, ◌≤◌}
use native.Mathlib.Omega.{arith}
use lib.ListN.{length}
use Rattle.rules.specs.Limits.{largest_roster}
use Rattle.words.specs.Words.{over_front}
use Rattle.format.specs.Limits.{trailer_size}
use Rattle.encoding.specs.File.{Parts, tasks_of, objects_of, task_rows, object_rows, task_start, object_start, trailer_of, file_of}
use Rattle.encoding.specs.Answers.{write_answer_of}
use Rattle.encoding.proofs.FileLaws.{trailer_start, task-rows, object-rows, trailer-length, front_length, tables-length}
use Rattle.encoding.proofs.FileLaws.{file-whole, file-length, Sizes}
use Rattle.encoding.proofs.AnswerLaws.{sizes, done-file, done-room}
use Rattle.writer.proofs.FrontLaws.{over-length, part_from, lent_from, part-over}

module _ (p : Parts) (out : List ℕ) (ok : write_answer_of p (length out) ≡ Ok tt) where
  pub known : Sizes p
  known = sizes p (done-file p (length out) ok)

  pub small : trailer_start p + trailer_size ≤ largest_roster
  small = omega (arith, file-length p, known.small)

  pub fits : trailer_start p + trailer_size ≤ length out
  fits = omega (arith, file-length p, done-room p (length out) ok)

  -- the scripts, then the task table
  module _ (v ys : List ℕ) (f : v ≡ over_front p.steps out) where
    pub scripts-count : length v ≡ length out
    scripts-count = ap length f ∙ over-length p.steps out (omega (arith, fits))

    pub tasks-written : ys ≡ over_front (task_rows p) (part_from v (task_start p)) →
        lent_from v (task_start p) ys ≡ over_front (p.steps ++ task_rows p) out
    tasks-written g =
        part-over p.steps (task_rows p) out v ys (task_start p) refl
        (omega (arith, fits, task-rows p.setup.bases p.lengths (tasks_of p))) f g

  -- then the object table
  module _ (v ys : List ℕ) (f : v ≡ over_front (p.steps ++ task_rows p) out) where
    pub tasks-count : length v ≡ length out
    tasks-count = ap length f ∙ over-length (p.steps ++ task_rows p) out (omega (arith, fits, front_length p))

    pub objects-written : ys ≡ over_front (object_rows p) (part_from v (object_start p)) →
        lent_from v (object_start p) ys ≡ over_front ((p.steps ++ task_rows p) ++ object_rows p) out
    objects-written g =
        part-over (p.steps ++ task_rows p) (object_rows p) out v ys (object_start p) (sym (front_length p))
        (omega (arith, fits, front_length p, object-rows p.setup.ceilings (objects_of p))) f g

  -- then the trailer, and the file is whole
  module _ (v ys : List ℕ) (f : v ≡ over_front ((p.steps ++ task_rows p) ++ object_rows p) out) where
    pub objects-count : length v ≡ length out
    objects-count = ap length f ∙ over-length ((p.steps ++ task_rows p) ++ object_rows p) out (omega (arith, fits, tables-length p))

    pub file-written : ys ≡ over_front (trailer_of p) (part_from v (trailer_start p)) →
        lent_from v (trailer_start p) ys ≡ over_front (file_of p) out
    file-written g =
        part-over ((p.steps ++ task_rows p) ++ object_rows p) (trailer_of p) out v ys (trailer_start p) (sym (tables-length p))
        (omega (arith, fits, tables-length p, trailer-length p)) f g ∙
        ap (λ (z : List ℕ). over_front z out) (file-whole p)
