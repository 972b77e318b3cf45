-- Codes 2 and 3, the controller's configuration (6.2) and status (6.3), of W-204. Assumes nothing.
use Rattle.std.specs.Prelude.{List, ℕ}
use Rattle.laws.specs.Splice.{splice}
use Rattle.reports.specs.Report.{Report, filled}

-- the whole structure as the state has it, 176 bytes
unfoldable pub controller_config : List ℕ → List ℕ → Report
controller_config controller body = filled (splice body 0 controller)

-- and 36
unfoldable pub controller_status : List ℕ → List ℕ → Report
controller_status status body = filled (splice body 0 status)
