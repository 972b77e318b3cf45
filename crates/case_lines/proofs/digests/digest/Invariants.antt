use Rattle.std.proofs.Common.{◌≡◌}
use Rattle.case_lines.specs.Digest.{steps, byte_step}
use Rattle.case_lines.proofs.digests.digest.Given as goal

abbrev pub invariant-loop-b : goal.invariant-loop-b
invariant-loop-b l = l.d ≡ steps (byte_step l.s) l.before l.b-index
