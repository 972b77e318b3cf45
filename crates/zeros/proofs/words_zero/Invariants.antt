use Rattle.std.proofs.Common.{◌≡◌, ◌*◌, nat_eq}
use Rattle.laws.specs.Splice.{part}
use Rattle.compare.specs.Same.{all_zero}
use Rattle.zeros.proofs.words_zero.Given as goal

abbrev pub invariant-loop-i : goal.invariant-loop-i
invariant-loop-i l = nat_eq l.bits 0 ≡ all_zero (part l.s l.at (4 * l.i))
