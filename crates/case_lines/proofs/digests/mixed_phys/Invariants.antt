use Rattle.std.proofs.Common.{◌≡◌}
use Rattle.case_lines.specs.Digest.{steps, phy_step}
use Rattle.case_lines.proofs.digests.mixed_phys.Given as goal

abbrev pub invariant-loop-phy : goal.invariant-loop-phy
invariant-loop-phy l = l.d ≡ steps (phy_step l.phys) l.before l.phy-index
