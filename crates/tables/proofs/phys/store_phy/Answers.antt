use Rattle.std.proofs.Common.{rules}
use Rattle.tables.proofs.StoredLaws.{phy_put}
use Rattle.tables.proofs.phys.store_phy.Goals as goal

pub returns : goal.returns
returns c = search (phy_put, rules)
