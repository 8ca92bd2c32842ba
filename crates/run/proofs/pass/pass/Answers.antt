-- `run::pass::pass` meets its contract.
use Rattle.std.proofs.Common.{ap, ◌∙◌}
use Rattle.std.proofs.Math.ListN.{length-set}
use Rattle.std.specs.Prelude.{Option, ℕ, unwrap_or}
use Rattle.trace.specs.Limits.{nobody_byte}
use Rattle.run.proofs.PassLaws.{replies-turn, reply_is, replies-over}
use Rattle.run.proofs.pass.pass.Goals as goal

pub loop-i-preserved : goal.loop-i-preserved
loop-i-preserved c =
    let happened = c.happen-ruling.ensures in
    let byte = c.unwrap_or.ensures ∙ ap (λ (o : Option ℕ). unwrap_or o nobody_byte) c.running.ensures in
    let reply = reply_is _ _ _ _ _ _ _ happened c.number.ensures byte c.report_number.ensures in (
      simp length-set c.loop-i.invariant.0,
      replies-turn _ _ _ _ _ _ _ _ _ _ c.loop-i-test.true c.input_at-x.ensures happened.same reply c.loop-i.invariant.1,
    )

pub returns : goal.returns
returns c = replies-over _ _ _ _ _ c.loop-i-test.false c.loop-i.invariant.1
