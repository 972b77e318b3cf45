use Rattle.std.proofs.Common.{rules}
use Rattle.session.proofs.RequestLaws.{framed_left}
use Rattle.session.proofs.record_framed.Goals as goal

pub returns : goal.returns
returns c = search (framed_left, rules)
