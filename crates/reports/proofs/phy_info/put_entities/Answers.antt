use Rattle.std.proofs.Common.{◌≡◌, ◌*◌, ◌-◌, rules}
use Rattle.laws.specs.Clear.{zeros}
use Rattle.laws.specs.Flat.{over_cleared}
use Rattle.laws.specs.Splice.{splice}
use Rattle.reports.specs.PhyInfo.{entities}
use Rattle.reports.proofs.phy_info.put_entities.Goals as goal

pub returns-clause-all_after : goal.returns-clause-all_after
unfolding entities
returns-clause-all_after c =
    let cleared : c.clear.new.d ≡ splice c.put_below.new.all (64 * c.args.p) (zeros (64 * (32 - c.args.p))) = rw c.from-n.ensures at c.clear.ensures in
    search (over_cleared, rules)
