-- Code 1, get driver info (6.1). Assumes nothing.
use Rattle.std.specs.Prelude.{List, ℕ}
use Rattle.laws.specs.Splice.{splice}
use Rattle.reports.specs.Report.{Report, filled}

-- "fill Information", which is the driver info of 6.1.4.1 as the file gives it
unfoldable pub driver_info : List ℕ → List ℕ → Report
driver_info info body = filled (splice body 0 info)
