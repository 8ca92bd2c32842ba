-- `exports::dispatch_script_start` meets its contract.
use Rattle.std.proofs.Common.{rules, ◌≡◌, ℕ, List, Result, Ok, Err, MatchResult, sym, ap, ◌∙◌}
use Rattle.format.specs.declared.Fault.{Fault}
use Rattle.format.specs.Format.{start_at}
use Rattle.format.specs.Form.{script_answer}
use Rattle.packed.specs.Packed.{script_start}
use Rattle.packed.proofs.StartLaws.{start-found, start_none}
use Rattle.exports.proofs.dispatch_script_start.Goals as goal

-- the start of a task that is listed, and 0 on a refusal
start-of : (s : List ℕ) (t y : ℕ) (r : Result ℕ Fault) →
    MatchResult r (λ u. (u ≡ t) × (script_answer s t ≡ Ok tt)) (λ e. script_answer s t ≡ Err e) →
    MatchResult r (λ u. y ≡ start_at s u) (λ _. y ≡ 0) → y ≡ script_start s t
start-of s t y (Ok u) h e = e ∙ (ap (λ (v : ℕ). start_at s v) h.0 ∙ sym (start-found s t h.1))
start-of s t y (Err f) h e = e ∙ sym (start_none s t f h)

pub returns : goal.returns
returns c =
    start-of c.args.roster.now c.args.t c.map_or.result c.listed_task.result c.listed_task.ensures.value (search rules)
