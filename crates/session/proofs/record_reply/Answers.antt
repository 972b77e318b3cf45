use Rattle.std.proofs.Common.{rules}
use Rattle.session.proofs.RequestLaws.{replied_left}
use Rattle.session.proofs.record_reply.Goals as goal

pub returns : goal.returns
returns c = search (replied_left, rules)
