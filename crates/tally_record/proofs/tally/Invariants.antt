use Rattle.std.proofs.Common.{◌≡◌}
use Rattle.laws.specs.Fill.{list_to}
use Rattle.tally.specs.Totals.{tally_of}
use Rattle.tally.specs.Record.{line_at}
use Rattle.tally_record.proofs.tally.Given as goal

abbrev pub invariant-loop-bytes : goal.invariant-loop-bytes
invariant-loop-bytes l = l.totals ≡ tally_of (list_to (line_at l.lines) l.bytes-index)
