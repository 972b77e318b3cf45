use Rattle.std.proofs.Common.{arith}
use Rattle.tally.proofs.RecordLaws.{record_room}
use Rattle.tally_record.proofs.tally.Goals as goal

pub count-totals-requires : goal.count-totals-requires
count-totals-requires c = record { requests_bound = record_room _ _ _ _ _ c.loop-bytes.invariant c.loop-bytes-test.true (omega arith) }
