-- Code 27, get SCSI address (6.14). Assumes nothing.
use Rattle.std.specs.Prelude.{List, ℕ}
use Rattle.codes.specs.Codes.{no_scsi_address}
use Rattle.rows.specs.Row.{Row, sas_index}
use Rattle.reports.specs.Report.{Report}
use Rattle.lookups.specs.Conversion.{converted}

-- "27: the row with that SAS address and LUN gives the four OS bytes"
unfoldable pub scsi_address : List Row → ℕ → List ℕ → Report
scsi_address rows a body = converted sas_index (λ r. r.os) 16 no_scsi_address rows a body
