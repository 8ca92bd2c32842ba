-- `words::bytes_at` meets its contract.
use Rattle.std.proofs.Common.{◌-◌, ◌∙◌, rules, drop, take, length}
use Rattle.words.specs.Words.{byte_at}
use Rattle.words.proofs.FromFn.{made_at}
use Rattle.words.proofs.NumberLaws.{byte-from}
use Rattle.words.proofs.bytes_at.Goals as goal

pub returns : goal.returns
returns g c =
    let s = c.args.s.now in
    let j = c.min.result in
    let rest = take (length s - j) (drop j s) in
    λ k h. made_at (byte_at rest) c.from_fn.ensures.items (λ x y q k. search rules) k h ∙ byte-from s c.args.i j k c.min.ensures
