-- `marks::highest` meets its contract.
use native.Mathlib.Omega.{arith}
use borrow.Author.Rules.{rules}
use lib.Count.{leading_le}
use Rattle.rules.specs.Limits.{last_priority}
use Rattle.marks.proofs.MarkLaws.{highest-by-zeros}
use Rattle.marks.proofs.highest.Goals as goal

pub overflow_sub-result : goal.overflow_sub-result
overflow_sub-result c = omega (arith, leading_le last_priority c.args.word)

pub returns : goal.returns
returns c = highest-by-zeros last_priority c.args.word (search rules)
