-- What a reader finds in the file: what was given, and the same faults.
use mathlib.Core.Path.{◌≡◌, refl, ap, sym, ◌∙◌}
use mathlib.Core.Bool.{Bool, true, false, ◌&&◌}
use mathlib.Core.List.{List, [], ◌++◌, append_assoc}
use Prim.Native.Nat.{ℕ, zero, suc, ◌+◌, ◌*◌, ◌/◌, ◌%◌, ◌≤◌, ◌<◌}
use native.Mathlib.Nat.{add-zero}
use native.Mathlib.Omega.{arith}
use borrow.Author.Tests.{eq-eqb, le-leb}
use lib.ListN.{length, get_or, take, drop, length-drop, get_or-append}
use lib.Seq.{get_or-append-add, take-append-le, drop-append-le}
use Rattle.rules.specs.Limits.{smallest_roster, largest_roster, counts_good}
use Rattle.rules.specs.Priorities.{in_range}
use Rattle.rules.specs.Lists.{all_of, below}
use Rattle.rules.specs.Fresh.{setup_counted, setup_in_range}
use Rattle.rules.proofs.Choices.{and-make}
use Rattle.rules.proofs.LimitLaws.{counts-in}
use Rattle.words.specs.Words.{byte_at, word_at, tabulate}
use Rattle.words.proofs.TableLaws.{length-tabulate, tabulate-at, tabulate-of}
use Rattle.format.specs.Limits.{step_size, task_row_size, object_row_size, first_mark, second_mark}
use Rattle.format.specs.Answers.{first}
use Rattle.format.specs.Format as R
use Rattle.format.specs.Format.{task_count, object_count, task_row, object_row, base_at, ceiling_at, start_at, length_at, part_at}
use Rattle.format.specs.Steps.{steps_of}
use Rattle.format.specs.Roster.{Roster, roster_of}
use Rattle.format.specs.Form as F
use Rattle.format.specs.Form.{length_good, mark_good, counts_kept, tables_good, scripts_end, laid_from, script_laid, scripts_laid}
use Rattle.format.specs.Form.{layout_good}
use Rattle.format.specs.Form.{task_row_good, object_row_good, values_good, steps_form, form_of}
use Rattle.format.specs.declared.Step.{Step}
use Rattle.format.proofs.TestLaws.{below_all, below-same, below-list, first-same}
use Rattle.encoding.specs.File.{Parts, tasks_of, objects_of, pieces, steps_before, bytes_before, script_size, script_at, task_row_bytes}
use Rattle.encoding.specs.File.{object_row_bytes, trailer_bytes, task_rows, object_rows, task_start, object_start, trailer_of, file_of}
use Rattle.encoding.specs.File.{given}
use Rattle.encoding.specs.Answers.{lengths_add_up, lent_script_form, lent_scripts_form, parts_form}
use Rattle.encoding.proofs.PieceLaws.{pieces-at}
use Rattle.encoding.proofs.FileLaws.{before-none, before-suc, trailer_start, task-rows, object-rows}
use Rattle.encoding.proofs.FileLaws.{front_length, tables-length, file-whole, file-length, Sizes, script-inside}

-- a word of two bytes
word-is : (s : List ℕ) (i x : ℕ) → byte_at s i ≡ x % 256 → byte_at s (i + 1) ≡ x / 256 → word_at s i ≡ x
unfolding word_at
word-is s i x e f = omega arith

and-true : (a b : Bool) → b ≡ true → (a && b) ≡ a
and-true true b e = e
and-true false b e = refl

module _ (p : Parts) where
  abbrev file : List ℕ
  file = file_of p

  -- the bytes of the trailer
  trailer-at : R.trailer file ≡ trailer_start p
  unfolding R.trailer
  trailer-at = omega (arith, file-length p)

  trailer-byte : (i j : ℕ) → i ≡ R.trailer file + j → byte_at file i ≡ get_or (trailer_of p) j 0
  trailer-byte i j e =
      let h = (p.steps ++ task_rows p) ++ object_rows p in
      let k : i ≡ length h + j = omega (arith, trailer-at, tables-length p) in
      ap (λ (x : ℕ). get_or file x 0) k ∙
      (ap (λ (l : List ℕ). get_or l (length h + j) 0) (sym (file-whole p)) ∙ get_or-append-add h (trailer_of p) j 0)

  -- the bytes of a task row
  task-byte : (i t j : ℕ) → i ≡ task_start p + task_row_size * t + j → t < tasks_of p → j < task_row_size →
      byte_at file i ≡ get_or (task_row_bytes p.setup.bases p.lengths t) j 0
  unfolding file_of task_row_bytes
  task-byte i t j e h g =
      let f = task_row_bytes p.setup.bases p.lengths in
      let rest = object_rows p ++ trailer_of p in
      let size = task-rows p.setup.bases p.lengths in
      let k : i ≡ length p.steps + (length (pieces t f) + j) = omega (arith, size t) in
      ap (λ (x : ℕ). get_or file x 0) k ∙
      (get_or-append-add p.steps (pieces (tasks_of p) f ++ rest) (length (pieces t f) + j) 0 ∙
      (get_or-append (pieces (tasks_of p) f) rest 0 (length (pieces t f) + j) (omega (arith, size t, size (tasks_of p))) ∙
      pieces-at f (tasks_of p) t j h g))

  -- the bytes of an object row
  object-byte : (i o j : ℕ) → i ≡ object_start p + object_row_size * o + j → o < objects_of p → j < object_row_size →
      byte_at file i ≡ get_or (object_row_bytes p.setup.ceilings o) j 0
  unfolding object_row_bytes
  object-byte i o j e h g =
      let f = object_row_bytes p.setup.ceilings in
      let head = p.steps ++ task_rows p in
      let z = trailer_of p in
      let size = object-rows p.setup.ceilings in
      let k : i ≡ length head + (length (pieces o f) + j) = omega (arith, size o, front_length p) in
      ap (λ (x : ℕ). get_or file x 0) k ∙
      (ap (λ (l : List ℕ). get_or l (length head + (length (pieces o f) + j)) 0)
      (sym (file-whole p) ∙ append_assoc head (pieces (objects_of p) f) z) ∙
      (get_or-append-add head (pieces (objects_of p) f ++ z) (length (pieces o f) + j) 0 ∙
      (get_or-append (pieces (objects_of p) f) z 0 (length (pieces o f) + j) (omega (arith, size o, size (objects_of p))) ∙
      pieces-at f (objects_of p) o j h g)))

  -- the counts and the starts
  tasks-read : task_count file ≡ tasks_of p
  unfolding task_count trailer_bytes
  tasks-read = trailer-byte (R.trailer file + 2) 2 refl

  objects-read : object_count file ≡ objects_of p
  unfolding object_count trailer_bytes
  objects-read = trailer-byte (R.trailer file + 3) 3 refl

  object-table-read : R.object_table file ≡ object_start p
  unfolding R.object_table trailer_bytes
  object-table-read =
      let at = R.trailer file + 4 in
      word-is file at (object_start p) (trailer-byte at 4 refl) (trailer-byte (at + 1) 5 (omega arith))

  task-table-read : R.task_table file ≡ task_start p
  unfolding R.task_table trailer_bytes
  task-table-read =
      let at = R.trailer file + 6 in
      word-is file at (task_start p) (trailer-byte at 6 refl) (trailer-byte (at + 1) 7 (omega arith))

  -- a task row
  task-row-read : (t : ℕ) → task_row file t ≡ task_start p + task_row_size * t
  unfolding task_row
  task-row-read t = omega (arith, task-table-read)

  module _ (t : ℕ) (h : t < tasks_of p) where
    base_read : base_at file t ≡ get_or p.setup.bases t 0
    unfolding base_at task_row_bytes
    base_read = task-byte (task_row file t) t 0 (omega (arith, task-row-read t)) h (omega arith)

    zero-read : byte_at file (task_row file t + 1) ≡ 0
    unfolding task_row_bytes
    zero-read = task-byte (task_row file t + 1) t 1 (omega (arith, task-row-read t)) h (omega arith)

    start-read : start_at file t ≡ bytes_before p.lengths t
    unfolding start_at task_row_bytes
    start-read =
        let at = task_row file t + 2 in
        word-is file at (bytes_before p.lengths t) (task-byte at t 2 (omega (arith, task-row-read t)) h (omega arith))
        (task-byte (at + 1) t 3 (omega (arith, task-row-read t)) h (omega arith))

    length-read : length_at file t ≡ script_size p.lengths t
    unfolding length_at task_row_bytes
    length-read =
        let at = task_row file t + 4 in
        word-is file at (script_size p.lengths t) (task-byte at t 4 (omega (arith, task-row-read t)) h (omega arith))
        (task-byte (at + 1) t 5 (omega (arith, task-row-read t)) h (omega arith))

  -- an object row
  object-row-read : (o : ℕ) → object_row file o ≡ object_start p + object_row_size * o
  unfolding object_row
  object-row-read o = omega (arith, object-table-read)

  module _ (o : ℕ) (h : o < objects_of p) where
    ceiling-read : ceiling_at file o ≡ get_or p.setup.ceilings o 0
    unfolding ceiling_at object_row_bytes
    ceiling-read = object-byte (object_row file o) o 0 (omega (arith, object-row-read o)) h (omega arith)

    object-zero-read : byte_at file (object_row file o + 1) ≡ 0
    unfolding object_row_bytes
    object-zero-read = object-byte (object_row file o + 1) o 1 (omega (arith, object-row-read o)) h (omega arith)

  -- of what keeps 13, 14 and 11: a script
  module _ (known : Sizes p) where
    part-read : (t : ℕ) → t < tasks_of p → part_at file t ≡ script_at p t
    unfolding part_at script_at file_of
    part-read t h =
        let a = bytes_before p.lengths t in
        let k = script_size p.lengths t in
        let rest = task_rows p ++ (object_rows p ++ trailer_of p) in
        let inside = script-inside p known.whole t h in
        ap (λ (x : ℕ). take x (drop (start_at file t) file)) (length-read t h) ∙
        (ap (λ (x : ℕ). take k (drop x file)) (start-read t h) ∙
        (ap (take k) (drop-append-le a p.steps rest (omega arith)) ∙
        take-append-le k (drop a p.steps) rest (omega (arith, length-drop a p.steps))))

    -- 11
    size-good : length_good file ≡ true
    unfolding length_good
    size-good =
        and-make _ _ (le-leb smallest_roster (length file) (omega (arith, file-length p, known.counts.some)))
        (le-leb (length file) largest_roster known.small)

    -- 12
    mark-good : mark_good file ≡ true
    unfolding mark_good trailer_bytes
    mark-good =
        let at = R.trailer file in
        and-make _ _ (eq-eqb (byte_at file at) first_mark (trailer-byte at 0 (sym (add-zero at))))
        (eq-eqb (byte_at file (at + 1)) second_mark (trailer-byte (at + 1) 1 refl))

    -- 13
    given-counts : setup_counted p.setup ≡ true
    given-counts = counts-in (tasks_of p) (objects_of p) known.counts

    counts-good : counts_kept file ≡ true
    unfolding counts_kept
    counts-good =
        ap (λ (n : ℕ). counts_good n (object_count file)) tasks-read ∙ (ap (counts_good (tasks_of p)) objects-read ∙ given-counts)

    -- 14
    given-lengths : lengths_add_up p ≡ true
    unfolding lengths_add_up
    given-lengths =
        and-make _ _ (eq-eqb (length p.lengths) (tasks_of p) known.each)
        (eq-eqb (step_size * steps_before p.lengths (tasks_of p)) (length p.steps) known.whole)

    ends_read : (t : ℕ) → t ≤ tasks_of p → scripts_end file t ≡ bytes_before p.lengths t
    unfolding scripts_end
    ends_read zero h = omega (arith, before-none p.lengths)
    ends_read (suc t) h = omega (arith, ends_read t (omega arith), length-read t h, before-suc p.lengths t)

    laid-good : (t : ℕ) → t < tasks_of p → script_laid file t ≡ true
    unfolding script_laid laid_from
    laid-good t h =
        and-make _ _ (eq-eqb (start_at file t) (scripts_end file t) (start-read t h ∙ sym (ends_read t (omega arith))))
        (eq-eqb (length_at file t % step_size) 0 (omega (arith, length-read t h)))

    layout-good : layout_good file ≡ true
    unfolding layout_good tables_good scripts_laid
    layout-good =
        and-make _ _
        (and-make _ _
        (eq-eqb (task_row file (task_count file)) (R.object_table file)
        (omega (arith, task-row-read (task_count file), tasks-read, object-table-read)))
        (eq-eqb (object_row file (object_count file)) (R.trailer file)
        (omega (arith, object-row-read (object_count file), objects-read, trailer-at))))
        (and-make _ _
        (below_all (script_laid file) (task_count file) (λ t g. laid-good t (omega (arith, tasks-read))))
        (eq-eqb (scripts_end file (task_count file)) (R.task_table file)
        (ap (scripts_end file) tasks-read ∙ (ends_read (tasks_of p) (omega arith) ∙ (known.whole ∙ sym task-table-read)))))

    -- 15 is found in the file where it is found in what was given
    tasks-same : below (task_count file) (task_row_good file) ≡ all_of in_range p.setup.bases
    unfolding task_row_good
    tasks-same =
        ap (λ (n : ℕ). below n (task_row_good file)) tasks-read ∙
        (below-same (task_row_good file) (λ i. in_range (get_or p.setup.bases i 0)) (tasks_of p) (λ t h.
        and-true (in_range (base_at file t)) _ (eq-eqb (byte_at file (task_row file t + 1)) 0 (zero-read t h)) ∙
        ap in_range (base_read t h)) ∙
        below-list in_range p.setup.bases)

    objects-same : below (object_count file) (object_row_good file) ≡ all_of in_range p.setup.ceilings
    unfolding object_row_good
    objects-same =
        ap (λ (n : ℕ). below n (object_row_good file)) objects-read ∙
        (below-same (object_row_good file) (λ i. in_range (get_or p.setup.ceilings i 0)) (objects_of p) (λ o h.
        and-true (in_range (ceiling_at file o)) _ (eq-eqb (byte_at file (object_row file o + 1)) 0 (object-zero-read o h)) ∙
        ap in_range (ceiling-read o h)) ∙
        below-list in_range p.setup.ceilings)

    values_same : values_good file ≡ setup_in_range p.setup
    unfolding values_good
    values_same =
        ap (λ (b : Bool). b && below (object_count file) (object_row_good file)) tasks-same ∙
        ap (λ (b : Bool). all_of in_range p.setup.bases && b) objects-same

    -- so is 16, with its task and step
    steps-same : F.scripts_form file ≡ lent_scripts_form p
    unfolding F.scripts_form F.script_form lent_scripts_form lent_script_form
    steps-same =
        let n = tasks_of p in
        let m = objects_of p in
        ap (λ (k : ℕ). first k (F.script_form file)) tasks-read ∙
        first-same (F.script_form file) (lent_script_form p) n (λ t h.
        ap (λ (x : ℕ). steps_form x (object_count file) t (part_at file t)) tasks-read ∙
        (ap (λ (x : ℕ). steps_form n x t (part_at file t)) objects-read ∙ ap (steps_form n m t) (part-read t h)))

    -- the reader's answer to the file is the writer's to what was given
    pub as_read : form_of file ≡ parts_form p
    unfolding form_of parts_form
    as_read = simp (size-good, mark-good, counts-good, layout-good, given-counts, given-lengths, values_same, steps-same)

    same-roster : (a b d e : List ℕ) (f g : List (List Step)) → a ≡ b → d ≡ e → f ≡ g →
        ◌≡◌ {A = Roster} (record { bases = a; ceilings = d; scripts = f }) (record { bases = b; ceilings = e; scripts = g })
    same-roster a b d e f g x y z = cc

    pub file-given : roster_of file ≡ given p
    unfolding roster_of given
    file-given =
        let n = tasks_of p in
        let scripts = tabulate n (λ t. steps_of (script_at p t)) in
        same-roster _ _ _ _ _ _
        (tabulate-of p.setup.bases (task_count file) (base_at file) 0 (sym tasks-read) (λ t h. base_read t (omega (arith, tasks-read))))
        (tabulate-of p.setup.ceilings (object_count file) (ceiling_at file) 0 (sym objects-read)
        (λ o h. ceiling-read o (omega (arith, objects-read))))
        (tabulate-of scripts (task_count file) (λ t. steps_of (part_at file t)) []
        (length-tabulate n (λ t. steps_of (script_at p t)) ∙ sym tasks-read)
        (λ t h.
        let g : t < n = omega (arith, tasks-read) in
        ap steps_of (part-read t g) ∙ sym (tabulate-at n (λ u. steps_of (script_at p u)) t [] g)))
