use Rattle.tables.proofs.StoredLaws.{counters_stored}
use Rattle.tables.proofs.phys.write_counters.Goals as goal

pub returns : goal.returns
returns c =
    counters_stored c.args.place.now c.write32.new.d c.write32-2.new.d c.write32-3.new.d c.write32-4.new.d c.args.counters
    c.write32-4.ensures c.write32-3.ensures c.write32-2.ensures c.write32.ensures c.requires
