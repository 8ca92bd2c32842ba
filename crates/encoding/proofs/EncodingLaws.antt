-- A roster that passes 11 to 16 is the file of its own parts.
use Rattle.std.specs.Prelude.{Ok}
use mathlib.Core.Path.{◌≡◌, refl, ap, sym, ◌∙◌}
use mathlib.Core.Bool.{true, ◌&&◌}
use mathlib.Core.List.{List, [], ◌∷◌, ◌++◌}
use Prim.Native.Nat.{ℕ, zero, suc, ◌+◌, ◌*◌, ◌≤◌, ◌<◌}
use native.Mathlib.Nat.{add-zero}
use native.Mathlib.Omega.{arith}
use borrow.Author.Tests.{eqb-true, leb-true}
use lib.Dec.{eqb, leb}
use lib.ListN.{length, get_or, take, drop, length-take, length-drop, take-append-drop}
use lib.Seq.{take_all, drop-drop}
use Rattle.rules.specs.Limits.{smallest_roster, largest_roster}
use Rattle.rules.specs.Priorities.{in_range}
use Rattle.rules.specs.Lists.{below}
use Rattle.rules.proofs.Choices.{and_left, and_right}
use Rattle.rules.proofs.LimitLaws.{counted-by}
use Rattle.words.specs.Words.{byte_at, word, tabulate, Bytes}
use Rattle.words.proofs.TableLaws.{length-tabulate, tabulate-at, window}
use Rattle.format.specs.Limits.{trailer_size, task_row_size, object_row_size, first_mark, second_mark}
use Rattle.format.specs.Format.{trailer, task_count, object_count, task_table, object_table}
use Rattle.format.specs.Format.{task_row, object_row, base_at, ceiling_at, start_at, length_at, part_at}
use Rattle.format.specs.Steps.{a_at, b_at, step_at, step_count}
use Rattle.format.specs.Roster.{Roster, roster_of, script_of}
use Rattle.format.specs.Form.{length_good, mark_good, counts_kept, scripts_end, task_row_good, object_row_good, values_good}
use Rattle.format.specs.Form.{is_step, unused_zero, names_listed, stands_right, step_good, form_of}
use Rattle.format.proofs.TestLaws.{below_at}
use Rattle.format.proofs.StepLaws.{steps-length}
use Rattle.format.proofs.FormatLaws.{base-listed, ceiling-listed, script-listed, base-count, ceiling-count}
use Rattle.format.proofs.FormLaws.{tables-laid, script-starts, script-whole, scripts-close}
use Rattle.format.proofs.FormedLaws.{formed, part-inside, row_inside, step-good}
use Rattle.format.proofs.ScriptLaws.{part_bytes}
use Rattle.encoding.specs.File.{Parts, pieces, bytes_before, script_size, task_row_bytes, object_row_bytes, object_start, trailer_bytes}
use Rattle.encoding.specs.File.{trailer_of, file_of}
use Rattle.encoding.specs.Encoding.{bytes_of_script, lengths_of, parts_of}
use Rattle.encoding.proofs.PieceLaws.{pieces-suc, pieces-found}
use Rattle.encoding.proofs.FileLaws.{before-none, before-suc, task-rows, object-rows, Sizes}
use Rattle.encoding.proofs.StepLaws.{word_back, script-bytes}

module _ (s : List ℕ) (bytes : Bytes s) (ok : form_of s ≡ Ok tt) where
  abbrev r : Roster
  r = roster_of s

  abbrev p : Parts
  p = parts_of (roster_of s)

  abbrev script : ℕ → List ℕ
  script t = bytes_of_script (script_of (roster_of s) t)

  -- each script
  part_length : (t : ℕ) → t < task_count s → length (part_at s t) ≡ length_at s t
  unfolding part_at
  part_length t h =
      omega (arith, length-take (length_at s t) (drop (start_at s t) s), length-drop (start_at s t) s, part-inside s ok t h)

  part_step : (t : ℕ) → t < task_count s → (k : ℕ) → k < step_count (part_at s t) →
      (is_step (step_at (part_at s t) k) && unused_zero (a_at (part_at s t) k) (b_at (part_at s t) k) (step_at (part_at s t) k)) ≡ true
  unfolding step_good
  part_step t h k g =
      let part = part_at s t in
      let x = step_at part k in
      let a = is_step x && unused_zero (a_at part k) (b_at part k) x in
      let b = names_listed (task_count s) (object_count s) x in
      and_left a b (and_left (a && b) (stands_right (eqb (suc k) (step_count part)) x) (step-good s ok t k h g))

  script-back : (t : ℕ) → t < task_count s → script t ≡ part_at s t
  script-back t h =
      ap bytes_of_script (script-listed s t h) ∙
      script-bytes (part_at s t) (part_bytes s bytes t) (omega (arith, part_length t h, script-whole s (formed s ok).layout t h))
      (λ k g. and_left _ _ (part_step t h k g)) (λ k g. and_right (is_step (step_at (part_at s t) k)) _ (part_step t h k g))

  -- the lengths in steps, and where the scripts end
  length_back : (t : ℕ) → t < task_count s → script_size p.lengths t ≡ length_at s t
  unfolding lengths_of
  length_back t h =
      let a = tabulate-at (length r.bases) (λ u. length (script_of (roster_of s) u)) t 0 (omega (arith, base-count s)) in
      let b = ap length (script-listed s t h) ∙ steps-length (part_at s t) in
      omega (arith, a, b, part_length t h, script-whole s (formed s ok).layout t h)

  before_back : (t : ℕ) → t ≤ task_count s → bytes_before p.lengths t ≡ scripts_end s t
  unfolding scripts_end
  before_back zero h = omega (arith, before-none (lengths_of r))
  before_back (suc t) h = omega (arith, before-suc (lengths_of r) t, before_back t (omega arith), length_back t h)

  scripts-length : (t : ℕ) → t ≤ task_count s → length (pieces t script) ≡ scripts_end s t
  unfolding scripts_end pieces
  scripts-length zero h = refl
  scripts-length (suc t) h =
      omega (arith, pieces-suc script t, scripts-length t (omega arith), ap length (script-back t h), part_length t h)

  scripts-whole : length (pieces (task_count s) script) ≡ task_table s
  scripts-whole = scripts-length (task_count s) (omega arith) ∙ scripts-close s (formed s ok).layout

  scripts-back : take (task_table s) s ≡ pieces (task_count s) script
  unfolding part_at
  scripts-back =
      ap (λ (k : ℕ). take k s) (sym scripts-whole) ∙
      pieces-found script s (task_count s) (λ t h.
      let e = script-back t h in
      ap (λ (k : ℕ). take k (drop (length (pieces t script)) s)) (ap length e ∙ part_length t h) ∙
      (ap (λ (k : ℕ). take (length_at s t) (drop k s)) (scripts-length t (omega arith) ∙ sym (script-starts s (formed s ok).layout t h)) ∙
      sym e))

  -- where the tables end, and that the trailer is there
  tables : (task_row s (task_count s) ≡ object_table s) × (object_row s (object_count s) ≡ trailer s)
  tables = tables-laid s (formed s ok).layout

  long : trailer s + trailer_size ≡ length s
  unfolding trailer length_good
  long =
      omega (
        arith,
        leb-true smallest_roster (length s) (and_left (leb smallest_roster (length s)) (leb (length s) largest_roster) (formed s ok).size),
      )

  -- each task row
  row_back : (t : ℕ) → t < task_count s → take task_row_size (drop (task_row s t) s) ≡ task_row_bytes p.setup.bases p.lengths t
  unfolding tabulate task_row_bytes values_good task_row_good base_at start_at length_at
  row_back t h =
      let at = task_row s t in
      let b0 : get_or s at 0 ≡ get_or r.bases t 0 = sym (base-listed s t h) in
      let good = below_at (task_row_good s) (task_count s) t
      (and_left (below (task_count s) (task_row_good s)) (below (object_count s) (object_row_good s)) (formed s ok).values) h in
      let b1 : get_or s (at + 1) 0 ≡ 0 = eqb-true _ _ (and_right (in_range (base_at s t)) (eqb (byte_at s (at + 1)) 0) good) in
      let w1 : get_or s (at + 2) 0 ∷ get_or s (at + 3) 0 ∷ [] ≡ word (bytes_before p.lengths t) =
      ap (λ (k : ℕ). get_or s (at + 2) 0 ∷ get_or s k 0 ∷ []) (let z : at + 3 ≡ at + 2 + 1 = omega arith in z) ∙
      (sym (word_back s (at + 2) bytes) ∙ ap word (script-starts s (formed s ok).layout t h ∙ sym (before_back t (omega arith)))) in
      let w2 : get_or s (at + 4) 0 ∷ get_or s (at + 5) 0 ∷ [] ≡ word (script_size p.lengths t) =
      ap (λ (k : ℕ). get_or s (at + 4) 0 ∷ get_or s k 0 ∷ []) (let z : at + 5 ≡ at + 4 + 1 = omega arith in z) ∙
      (sym (word_back s (at + 4) bytes) ∙ ap word (sym (length_back t h))) in
      let u1 = get_or s (at + 2) 0 ∷ get_or s (at + 3) 0 ∷ [] in
      let u2 = get_or s (at + 4) 0 ∷ get_or s (at + 5) 0 ∷ [] in
      window s at 6 (row_inside s ok t h) ∙
      (ap (λ (k : ℕ). get_or s k 0 ∷ get_or s (at + 1) 0 ∷ get_or s (at + 2) 0 ∷ get_or s (at + 3) 0 ∷ get_or s (at + 4) 0 ∷ get_or s
      (at + 5) 0 ∷ [])
      (add-zero at) ∙
      (ap (λ (x : ℕ). x ∷ get_or s (at + 1) 0 ∷ (u1 ++ u2)) b0 ∙
      (ap (λ (x : ℕ). get_or r.bases t 0 ∷ x ∷ (u1 ++ u2)) b1 ∙
      (ap (λ (l : List ℕ). get_or r.bases t 0 ∷ 0 ∷ (l ++ u2)) w1 ∙
      ap (λ (l : List ℕ). get_or r.bases t 0 ∷ 0 ∷ (word (bytes_before p.lengths t) ++ l)) w2))))

  tasks-back : take (task_row_size * task_count s) (drop (task_table s) s) ≡ pieces (task_count s) (task_row_bytes p.setup.bases p.lengths)
  unfolding task_row_bytes task_row
  tasks-back =
      let f = task_row_bytes p.setup.bases p.lengths in
      ap (λ (k : ℕ). take k (drop (task_table s) s)) (sym (task-rows p.setup.bases p.lengths (task_count s))) ∙
      pieces-found f (drop (task_table s) s) (task_count s) (λ t h.
      ap (λ (k : ℕ). take 6 (drop k (drop (task_table s) s))) (task-rows p.setup.bases p.lengths t) ∙
      (ap (take 6) (drop-drop (6 * t) (task_table s) s) ∙ row_back t h))

  -- each object row
  object-inside : (o : ℕ) → o < object_count s → object_row s o + object_row_size ≤ length s
  unfolding object_row
  object-inside o h = omega (arith, tables.1, long)

  object-back : (o : ℕ) → o < object_count s → take object_row_size (drop (object_row s o) s) ≡ object_row_bytes p.setup.ceilings o
  unfolding tabulate object_row_bytes values_good object_row_good ceiling_at
  object-back o h =
      let at = object_row s o in
      let b0 : get_or s at 0 ≡ get_or r.ceilings o 0 = sym (ceiling-listed s o h) in
      let good = below_at (object_row_good s) (object_count s) o
      (and_right (below (task_count s) (task_row_good s)) (below (object_count s) (object_row_good s)) (formed s ok).values) h in
      let b1 : get_or s (at + 1) 0 ≡ 0 = eqb-true _ _ (and_right (in_range (ceiling_at s o)) (eqb (byte_at s (at + 1)) 0) good) in
      window s at 2 (object-inside o h) ∙
      (ap (λ (k : ℕ). get_or s k 0 ∷ get_or s (at + 1) 0 ∷ []) (add-zero at) ∙
      (ap (λ (x : ℕ). x ∷ get_or s (at + 1) 0 ∷ []) b0 ∙ ap (λ (x : ℕ). get_or r.ceilings o 0 ∷ x ∷ []) b1))

  objects-back : take (object_row_size * object_count s) (drop (object_table s) s) ≡
      pieces (object_count s) (object_row_bytes p.setup.ceilings)
  unfolding object_row_bytes object_row
  objects-back =
      let f = object_row_bytes p.setup.ceilings in
      ap (λ (k : ℕ). take k (drop (object_table s) s)) (sym (object-rows p.setup.ceilings (object_count s))) ∙
      pieces-found f (drop (object_table s) s) (object_count s) (λ o h.
      ap (λ (k : ℕ). take 2 (drop k (drop (object_table s) s))) (object-rows p.setup.ceilings o) ∙
      (ap (take 2) (drop-drop (2 * o) (object_table s) s) ∙ object-back o h))

  -- the trailer
  table-start : length p.steps ≡ task_table s
  table-start = ap (λ (n : ℕ). length (pieces n script)) (base-count s) ∙ scripts-whole

  object-start : object_start p ≡ object_table s
  unfolding task_row
  object-start = omega (arith, table-start, base-count s, tables.0)

  trailer-back : drop (trailer s) s ≡ trailer_of p
  unfolding tabulate trailer_bytes mark_good task_count object_count object_table task_table
  trailer-back =
      let z = trailer s in
      let a = eqb (byte_at s z) first_mark in
      let b = eqb (byte_at s (z + 1)) second_mark in
      let b0 : get_or s z 0 ≡ first_mark = eqb-true _ _ (and_left a b (formed s ok).mark) in
      let b1 : get_or s (z + 1) 0 ≡ second_mark = eqb-true _ _ (and_right a b (formed s ok).mark) in
      let b2 : get_or s (z + 2) 0 ≡ length r.bases = sym (base-count s) in
      let b3 : get_or s (z + 3) 0 ≡ length r.ceilings = sym (ceiling-count s) in
      let w1 : get_or s (z + 4) 0 ∷ get_or s (z + 5) 0 ∷ [] ≡ word (object_start p) =
      ap (λ (k : ℕ). get_or s (z + 4) 0 ∷ get_or s k 0 ∷ []) (let y : z + 5 ≡ z + 4 + 1 = omega arith in y) ∙
      (sym (word_back s (z + 4) bytes) ∙ ap word (sym object-start)) in
      let w2 : get_or s (z + 6) 0 ∷ get_or s (z + 7) 0 ∷ [] ≡ word (length p.steps) =
      ap (λ (k : ℕ). get_or s (z + 6) 0 ∷ get_or s k 0 ∷ []) (let y : z + 7 ≡ z + 6 + 1 = omega arith in y) ∙
      (sym (word_back s (z + 6) bytes) ∙ ap word (sym table-start)) in
      let made : ℕ → ℕ → ℕ → ℕ → List ℕ → List ℕ → List ℕ = λ x0 x1 x2 x3 l m. x0 ∷ x1 ∷ x2 ∷ x3 ∷ (l ++ m) in
      let u1 = get_or s (z + 4) 0 ∷ get_or s (z + 5) 0 ∷ [] in
      let u2 = get_or s (z + 6) 0 ∷ get_or s (z + 7) 0 ∷ [] in
      sym (take_all 8 (drop z s) (omega (arith, length-drop z s, long))) ∙
      (window s z 8 (omega (arith, long)) ∙
      (ap (λ (k : ℕ). made (get_or s k 0) (get_or s (z + 1) 0) (get_or s (z + 2) 0) (get_or s (z + 3) 0) u1 u2) (add-zero z) ∙
      (ap (λ (x : ℕ). made x (get_or s (z + 1) 0) (get_or s (z + 2) 0) (get_or s (z + 3) 0) u1 u2) b0 ∙
      (ap (λ (x : ℕ). made first_mark x (get_or s (z + 2) 0) (get_or s (z + 3) 0) u1 u2) b1 ∙
      (ap (λ (x : ℕ). made first_mark second_mark x (get_or s (z + 3) 0) u1 u2) b2 ∙
      (ap (λ (x : ℕ). made first_mark second_mark (length r.bases) x u1 u2) b3 ∙
      (ap (λ (l : List ℕ). made first_mark second_mark (length r.bases) (length r.ceilings) l u2) w1 ∙
      ap (λ (l : List ℕ). made first_mark second_mark (length r.bases) (length r.ceilings) (word (object_start p)) l) w2)))))))

  -- one part after the other
  pub encoded : file_of p ≡ s
  unfolding file_of task_row object_row
  encoded =
      let n = task_count s in
      let m = object_count s in
      let tasks = task_row_bytes p.setup.bases p.lengths in
      let objects = object_row_bytes p.setup.ceilings in
      let rest = pieces m objects ++ trailer_of p in
      let last : drop (object_table s) s ≡ rest =
      sym (take-append-drop (2 * m) (drop (object_table s) s)) ∙
      (ap (λ (l : List ℕ). l ++ drop (2 * m) (drop (object_table s) s)) objects-back ∙
      ap (λ (l : List ℕ). pieces m objects ++ l)
      (drop-drop (2 * m) (object_table s) s ∙ (ap (λ (k : ℕ). drop k s) tables.1 ∙ trailer-back))) in
      let middle : drop (task_table s) s ≡ pieces n tasks ++ rest =
      sym (take-append-drop (6 * n) (drop (task_table s) s)) ∙
      (ap (λ (l : List ℕ). l ++ drop (6 * n) (drop (task_table s) s)) tasks-back ∙
      ap (λ (l : List ℕ). pieces n tasks ++ l)
      (drop-drop (6 * n) (task_table s) s ∙ (ap (λ (k : ℕ). drop k s) tables.0 ∙ last))) in
      let whole : s ≡ pieces n script ++ (pieces n tasks ++ rest) =
      sym (take-append-drop (task_table s) s) ∙
      (ap (λ (l : List ℕ). l ++ drop (task_table s) s) scripts-back ∙ ap (λ (l : List ℕ). pieces n script ++ l) middle) in
      let file : ℕ → ℕ → List ℕ = λ x y. pieces x script ++ (pieces x tasks ++ (pieces y objects ++ trailer_of p)) in
      ap (λ (x : ℕ). file x (length r.ceilings)) (base-count s) ∙ (ap (file n) (ceiling-count s) ∙ sym whole)

  -- and its sizes are good
  pub read-sizes : Sizes p
  unfolding length_good counts_kept lengths_of
  read-sizes =
      let n = task_count s in
      record {
        counts =
            rw (base-count s, ceiling-count s) (counted-by n (object_count s) (formed s ok).counts);
        each = length-tabulate (length r.bases) (λ t. length (script_of (roster_of s) t));
        whole =
            omega (
              arith,
              ap (bytes_before p.lengths) (base-count s),
              before_back n (omega arith),
              scripts-close s (formed s ok).layout,
              table-start,
            );
        small =
            omega (
              arith,
              ap length encoded,
              leb-true (length s) largest_roster
                  (and_right (leb smallest_roster (length s)) (leb (length s) largest_roster) (formed s ok).size),
            );
      }
