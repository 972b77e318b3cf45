use Rattle.std.proofs.Common.{rules}
use Rattle.session.proofs.RunLaws.{at_left}
use Rattle.session.proofs.record_at.Goals as goal

pub returns : goal.returns
returns c = search (at_left, rules)
