use Rattle.std.proofs.Common.{◌≡◌, ◌*◌}
use Rattle.laws.specs.Flat.{over_loop}
use Rattle.laws.specs.Splice.{splice}
use Rattle.adapter.specs.Adapter.{phy_in}
use Rattle.tables.specs.Tables.{tables_of}
use Rattle.reports.proofs.phy_info.put_below.Goals as goal

pub loop-i-init : goal.loop-i-init
loop-i-init c = search over_loop

pub loop-i-preserved : goal.loop-i-preserved
loop-i-preserved c =
    let put : c.put_entity.new.d ≡ splice c.loop-i.all (64 * c.loop-i.i) (phy_in (tables_of c.args.tables.now) c.loop-i.i).entity = rw c.from.ensures at c.put_entity.ensures.d_after in
    search over_loop
