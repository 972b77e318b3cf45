use Rattle.std.proofs.Common.{rules}
use Rattle.session.proofs.RequestLaws.{line_written}
use Rattle.session.proofs.write_line.Goals as goal

pub returns : goal.returns
returns c = search (line_written, rules)
