use Rattle.std.proofs.Common.{◌≡◌, ◌+◌, ◌++◌, drop}
use Rattle.std.specs.Prelude.{slice_range}
use Rattle.laws.specs.Clear.{zeros}
use Rattle.copies.proofs.clear.Given as goal

abbrev pub invariant-loop-byte : goal.invariant-loop-byte
invariant-loop-byte l = l.byte-items ≡ zeros l.byte-index ++ drop l.byte-index (slice_range l.fn.d l.at (l.at + l.n))
