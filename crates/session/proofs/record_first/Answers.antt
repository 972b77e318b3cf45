use Rattle.std.proofs.Common.{rules}
use Rattle.session.proofs.RequestLaws.{first_left}
use Rattle.session.proofs.record_first.Goals as goal

pub returns : goal.returns
returns c = search (first_left, rules)
