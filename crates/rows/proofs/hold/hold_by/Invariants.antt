use Rattle.std.proofs.Common.{◌≡◌, true}
use Rattle.laws.specs.All.{all_to}
use Rattle.rows.specs.Row.{rows_hold}
use Rattle.rows.specs.Read.{rows_in}
use Rattle.rows.specs.Seen.{marked}
use Rattle.rows.proofs.hold.hold_by.Given as goal

abbrev pub invariant-loop-i : goal.invariant-loop-i
invariant-loop-i l = (rows_hold (rows_in l.rows) l.i ≡ true) × (all_to (marked l.seen (rows_in l.rows)) l.i ≡ true)
