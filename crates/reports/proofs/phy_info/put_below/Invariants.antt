use Rattle.std.proofs.Common.{◌≡◌, ◌*◌, length}
use Rattle.laws.specs.Flat.{flat_to}
use Rattle.laws.specs.Splice.{splice}
use Rattle.tables.specs.Tables.{tables_of}
use Rattle.reports.specs.PhyInfo.{entity_at}
use Rattle.reports.proofs.phy_info.put_below.Given as goal

abbrev pub invariant-loop-i : goal.invariant-loop-i
invariant-loop-i l =
    (l.all ≡ splice l.initial.all 0 (flat_to (entity_at (tables_of l.tables).phys) l.i))
    × (length (flat_to (entity_at (tables_of l.tables).phys) l.i) ≡ 64 * l.i)
    × (length l.all ≡ 2048)
