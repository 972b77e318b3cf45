use Rattle.tally.proofs.RecordLaws.{totals_none, totals_more, totals_done}
use Rattle.tally_record.proofs.write_totals.Goals as goal

pub loop-i-init : goal.loop-i-init
loop-i-init c = totals_none _

pub loop-i-preserved : goal.loop-i-preserved
loop-i-preserved c = totals_more _ _ _ _ _ _ _ c.loop-i-test.true c.told-d c.as_array.ensures c.to_le_bytes.ensures c.copy_from_slice.ensures.after c.loop-i.invariant

pub returns : goal.returns
returns c = totals_done _ _ _ _ _ c.told-d c.as_array.ensures c.loop-i-test.false c.loop-i.invariant
