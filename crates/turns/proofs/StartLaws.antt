-- Laws of a run's start.
use Rattle.std.proofs.Common.{◌≡◌, ℕ, ◌≤◌, List, length, replicate, ap, sym, ◌∙◌, arith}
use Rattle.std.proofs.lemmas.List.{take-replicate, length-replicate}
use Rattle.rules.specs.Limits.{task_limit}
use Rattle.rules.specs.Model.{Model}
use Rattle.rules.specs.Fresh.{fresh_model}
use Rattle.rules.proofs.FreshLaws.{fresh-good, fresh-count}
use Rattle.rules.proofs.Soundness.{good-sound}
use Rattle.format.specs.Roster.{Roster, roster_of, setup_of}
use Rattle.format.specs.Check.{Passes}
use Rattle.format.proofs.FormatLaws.{base-count, script-count}
use Rattle.format.proofs.FormedLaws.{tasks-few}
use Rattle.format.proofs.PassedLaws.{passes-form, passes-starts}
use Rattle.trace.specs.Config.{start_of}
use Rattle.turns.specs.Run.{started}
use Rattle.turns.specs.MachineView.{run_at, Going}

-- the roster s, its fresh model, and no position but 0
module _ (s : List ℕ) (ok : Passes s) (m : Model) (fresh : m ≡ fresh_model (setup_of (roster_of s))) where
  abbrev r : Roster
  r = roster_of s

  counts : length r.bases ≡ length r.scripts
  counts = base-count s ∙ sym (script-count s)

  pub start-goes : Going s m (replicate task_limit 0)
  start-goes =
      let setup = setup_of (roster_of s) in
      let starts = passes-starts s ok in
      record {
        form = passes-form s ok;
        sound = rw fresh (good-sound _ (fresh-good setup starts));
        listed = ap (λ (y : Model). length y.tasks) fresh ∙ (fresh-count setup starts ∙ counts);
        places = length-replicate {A = ℕ} task_limit 0;
      }

  pub start_is : run_at r m (replicate task_limit 0) ≡ started r
  unfolding start_of
  start_is =
      let few : length r.scripts ≤ task_limit = omega (arith, tasks-few s (passes-form s ok), base-count s, counts) in
      let places = take-replicate (length r.scripts) task_limit 0 few ∙ ap (λ (n : ℕ). replicate n 0) (sym counts) in
      ap (λ (l : List ℕ). record { roster = r; config = record { model = m; positions = l } }) places ∙ rw fresh
