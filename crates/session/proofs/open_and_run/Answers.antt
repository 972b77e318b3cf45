use Rattle.std.proofs.Common.{rules}
use Rattle.session.proofs.StateLaws.{opened_ran}
use Rattle.session.proofs.open_and_run.Goals as goal

pub returns : goal.returns
returns c = search (opened_ran, rules)
