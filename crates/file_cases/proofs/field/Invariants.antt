use Rattle.std.proofs.Common.{◌<◌}
use Rattle.file_cases.proofs.field.Given as goal

abbrev pub invariant-loop-digit : goal.invariant-loop-digit
invariant-loop-digit l = l.value < 100000
