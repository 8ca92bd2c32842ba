-- `roster::readers::step_count` meets its contract.
use Rattle.format.proofs.ReaderLaws.{part-few}
use Rattle.roster.proofs.readers.step_count.Goals as goal

pub returns-clause-fits : goal.returns-clause-fits
returns-clause-fits c =
    part-few c.args.roster.now c.args.t c.in_ok-listed_script.field-0.now c.in_ok-listed_script.ensures.1
    c.in_ok-listed_script.ensures.0
