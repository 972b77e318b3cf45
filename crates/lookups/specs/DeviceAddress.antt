-- Code 28, get device address (6.15). Assumes nothing.
use Rattle.std.specs.Prelude.{List, ℕ}
use Rattle.codes.specs.Codes.{no_device_address}
use Rattle.rows.specs.Row.{Row, os_index}
use Rattle.reports.specs.Report.{Report}
use Rattle.lookups.specs.Conversion.{converted}

-- "28: the other way": the row with those four OS bytes gives the SAS address and LUN
unfoldable pub device_address : List Row → ℕ → List ℕ → Report
device_address rows a body = converted os_index (λ r. r.sas) 4 no_device_address rows a body
