use Rattle.std.proofs.Common.{rules}
use Rattle.session.proofs.RunLaws.{rest_up, run_goes_on}
use Rattle.session.proofs.StateLaws.{number_next}
use Rattle.session.proofs.run.Goals as goal

pub loop-count-preserved : goal.loop-count-preserved
loop-count-preserved c = (search rules, search (run_goes_on, rest_up, rules), search (number_next, rules))
