use Rattle.std.proofs.Common.{◌≡◌, true}
use Rattle.laws.specs.All.{all_to}
use Rattle.unnamed.proofs.all_below.Given as goal

abbrev pub invariant-loop-k : goal.invariant-loop-k
invariant-loop-k g l = all_to g.holds l.k ≡ true
