-- Laws of what is lent: its counts, the sums of its lengths, and the size of its file.
use Rattle.std.specs.Prelude.{Ok, Err}
use Rattle.std.proofs.lemmas.Grind.{common_steps}
use mathlib.Core.Path.{◌≡◌, refl, ap, sym, ◌∙◌}
use mathlib.Core.Bool.{true}
use mathlib.Core.List.{List}
use Prim.Native.Nat.{ℕ, ◌+◌, ◌*◌, ◌-◌, ◌≤◌, ◌<◌}
use native.Mathlib.Omega.{arith}
use lib.ListN.{get_or, take, drop}
use Rattle.rules.specs.Limits.{task_limit, counts_good}
use Rattle.rules.proofs.LimitLaws.{counted-by}
use Rattle.rules.specs.declared.Priority.{Priority}
use Rattle.format.specs.Answers.{Verdict, first}
use Rattle.format.specs.Readers.{found_by}
use Rattle.format.specs.Form.{steps_form}
use Rattle.format.specs.declared.Fault.{Fault}
use Rattle.format.proofs.TestLaws.{turn-finds, turn-passes, turns-pass}
use Rattle.format.proofs.ReaderLaws.{found-ok, found-err}
use Rattle.encoding.specs.File.{Parts, tasks_of, objects_of, steps_before, bytes_before, script_size, script_at}
use Rattle.encoding.specs.Answers.{lent_script_form, lent_scripts_form}
use Rattle.encoding.proofs.FileLaws.{before-none, before_more, file-length}

-- 13
pub counted : (n m : ℕ) → counts_good n m ≡ true → n ≤ task_limit
counted n m e = (counted-by n m e).tasks

-- how long the file is
pub ruleset size_laws = (common_steps, file-length)

-- the loop over the lengths
pub record Summed (lengths : List ℕ) (t sum : ℕ) : Type 0 where
  pub same : sum ≡ steps_before lengths t
  pub low : sum ≤ 65535 * t

pub sum-starts : (lengths : List ℕ) → Summed lengths 0 0
sum-starts lengths = record { same = sym (before-none lengths); low = omega arith }

pub sum-goes : (lengths : List ℕ) (t sum n : ℕ) → Summed lengths t sum → n ≡ get_or lengths t 0 → n ≤ 65535 →
    Summed lengths (t + 1) (sum + n)
sum-goes lengths t sum n r e h = record { same = before_more lengths t sum n r.same e; low = omega (arith, r.low) }

-- the loop over the scripts, for the first fault of their form
module _ (p : Parts) where
  pub record JudgedTo (t start : ℕ) : Type 0 where
    pub passed : first t (lent_script_form p) ≡ Ok tt
    pub begins : start ≡ bytes_before p.lengths t

  pub judge-starts : JudgedTo 0 0
  unfolding first
  judge-starts = record { passed = refl; begins = omega (arith, before-none p.lengths) }

  -- 16, of one script's part
  script-here : (n m t start end : ℕ) → n ≡ tasks_of p → m ≡ objects_of p → start ≡ bytes_before p.lengths t →
      end ≡ start + script_size p.lengths t → steps_form n m t (take (end - start) (drop start p.steps)) ≡ lent_script_form p t
  unfolding lent_script_form script_at
  script-here n m t start end a b e f =
      let k : end - start ≡ script_size p.lengths t = omega arith in
      let part = take (script_size p.lengths t) (drop (bytes_before p.lengths t) p.steps) in
      ap (λ (x : ℕ). steps_form n m t (take x (drop start p.steps))) k ∙
      (ap (λ (x : ℕ). steps_form n m t (take (script_size p.lengths t) (drop x p.steps))) e ∙
      (ap (λ (x : ℕ). steps_form x m t part) a ∙ ap (λ (x : ℕ). steps_form (tasks_of p) x t part) b))

  -- a turn, of the script of task t, of n tasks and m objects
  module _ (n m t start end : ℕ) (r : JudgedTo t start) (a : n ≡ tasks_of p) (b : m ≡ objects_of p)
      (d : end ≡ start + script_size p.lengths t) where
    part : Verdict
    part = steps_form n m t (take (end - start) (drop start p.steps))

    pub judge-stops : (e : Fault) (x : Priority) → t < tasks_of p →
        Err e ≡ found_by (steps_form n m t (take (end - start) (drop start p.steps))) x → Err e ≡ lent_scripts_form p
    unfolding lent_scripts_form
    judge-stops e x h g =
        turn-finds (lent_script_form p) (tasks_of p) t e h r.passed (found-err _ e x g ∙ script-here n m t start end a b r.begins d)

    pub judge-goes : (y x : Priority) → Ok y ≡ found_by (steps_form n m t (take (end - start) (drop start p.steps))) x →
        JudgedTo (t + 1) end
    judge-goes y x g =
        record {
          passed =
              turn-passes (lent_script_form p) t r.passed ((found-ok _ x y g).0 ∙ script-here n m t start end a b r.begins d);
          begins = omega (arith, r.begins, before_more p.lengths t _ _ refl refl);
        }

  pub judge-ends : (t start : ℕ) → JudgedTo t start → t ≡ tasks_of p → Ok tt ≡ lent_scripts_form p
  unfolding lent_scripts_form
  judge-ends t start r e = turns-pass (lent_script_form p) (tasks_of p) t e r.passed
