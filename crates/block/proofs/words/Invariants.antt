use Rattle.std.proofs.Common.{◌≡◌, ◌*◌, ◌≤◌}
use Rattle.laws.specs.Sum.{sum_to}
use Rattle.block.specs.Check.{word}
use Rattle.block.proofs.words.Given as goal

abbrev pub invariant-loop-i : goal.invariant-loop-i
invariant-loop-i l = (l.sum ≡ sum_to (word l.block) l.i) × (l.sum ≤ l.i * 4294967295)
