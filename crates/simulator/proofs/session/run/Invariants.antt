use Rattle.std.proofs.Common.{◌≡◌, ◌+◌}
use Rattle.tally.specs.Totals.{Sums}
use Rattle.simulator.proofs.session.run.Given as goal

-- the next request's number is one more than those that were counted
abbrev pub invariant-loop-number : goal.invariant-loop-number
invariant-loop-number g l = Sums l.totals × (l.totals.requests + 1 ≡ l.number)
