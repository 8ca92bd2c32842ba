-- Laws of a script's start: of a task that is listed, and of one that is refused.
use mathlib.Core.Path.{◌≡◌, ap}
use mathlib.Core.List.{List}
use Prim.Native.Nat.{ℕ}
use mathlib.Core.Bool.{cond}
use Rattle.std.specs.Prelude.{Ok, Err}
use Rattle.format.specs.Answers.{Verdict, passed}
use Rattle.format.specs.Format.{start_at}
use Rattle.format.specs.Form.{script_answer}
use Rattle.format.specs.declared.Fault.{Fault}
use Rattle.packed.specs.Packed.{script_start}

module _ (s : List ℕ) (t : ℕ) where
  pub start-found : script_answer s t ≡ Ok tt → script_start s t ≡ start_at s t
  unfolding script_start
  start-found e = ap (λ (v : Verdict). cond (passed v) (start_at s t) 0) e

  pub start_none : (f : Fault) → script_answer s t ≡ Err f → script_start s t ≡ 0
  unfolding script_start
  start_none f e = ap (λ (v : Verdict). cond (passed v) (start_at s t) 0) e
