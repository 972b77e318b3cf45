use Rattle.std.proofs.Common.{◌≡◌, nat_eq, take}
use Rattle.compare.specs.Same.{all_zero}
use Rattle.zeros.proofs.bytes_zero.Given as goal

abbrev pub invariant-loop-byte : goal.invariant-loop-byte
invariant-loop-byte l = nat_eq l.any 0 ≡ all_zero (take l.byte-index l.byte-items)
