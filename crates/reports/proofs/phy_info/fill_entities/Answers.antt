use Rattle.std.proofs.Common.{rules}
use Rattle.laws.specs.Splice.{lent_filled}
use Rattle.reports.proofs.phy_info.fill_entities.Goals as goal

pub returns : goal.returns
returns c = search (lent_filled, rules)
