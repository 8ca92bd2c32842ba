-- `words::bytes_in` meets its contract.
use Rattle.std.proofs.Common.{◌+◌, ℕ, rules}
use Rattle.words.specs.Words.{byte_at}
use Rattle.words.proofs.FromFn.{made_at}
use Rattle.words.proofs.bytes_in.Goals as goal

pub returns : goal.returns
returns g c = made_at (λ (k : ℕ). byte_at c.args.s.now (c.args.i + k)) c.from_fn.ensures.items (λ x y q k. search rules)
