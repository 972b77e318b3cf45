use Rattle.std.proofs.Common.{length, rules}
use Rattle.laws.specs.Flat.{pieces_start, flat_none}
use Rattle.contents.proofs.fill_section.Goals as goal

pub loop-i-init : goal.loop-i-init
loop-i-init g c =
    (pieces_start g.entry c.fill.new.self (length c.args.section.now) g.row.W g.row.N (search rules) (search rules), flat_none g.entry g.row.W, search rules)
