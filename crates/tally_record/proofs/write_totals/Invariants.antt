use Rattle.std.proofs.Common.{◌≡◌, take}
use Rattle.std.specs.List.{flat_map}
use Rattle.laws.specs.Splice.{splice}
use Rattle.wire.specs.Number.{bytes}
use Rattle.tally_record.proofs.write_totals.Given as goal

abbrev pub invariant-loop-i : goal.invariant-loop-i
invariant-loop-i l = l.d ≡ splice l.initial.d 0 (flat_map (bytes 8) (take l.i l.n-items))
