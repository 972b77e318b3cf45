-- Code 30, get connector info (6.18), of W-204. Assumes nothing.
use Rattle.std.specs.Prelude.{List, ℕ}
use Rattle.laws.specs.Flat.{pieces}
use Rattle.laws.specs.Splice.{splice}
use Rattle.connectors.specs.Connector.{connector_at}
use Rattle.reports.specs.Report.{Report, filled}

-- the 32 references of 36 bytes: "References from p on are zero"
unfoldable pub references : List (List ℕ) → ℕ → List ℕ
references connectors p = pieces (connector_at connectors) p 36 32 0

-- they fill the structure
unfoldable pub connector_info : List (List ℕ) → ℕ → List ℕ → Report
connector_info connectors p body = filled (splice body 0 (references connectors p))
