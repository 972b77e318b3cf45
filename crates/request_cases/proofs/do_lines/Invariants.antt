use Rattle.std.proofs.Common.{◌≤◌}
use Rattle.request_cases.proofs.do_lines.Given as goal

abbrev pub invariant-loop-line : goal.invariant-loop-line
invariant-loop-line g l = l.lent ≤ 65536
