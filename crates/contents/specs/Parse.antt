-- The bytes of the tables that a file gives (`ParseLaws.antt`: they stand for `adapter_of`). Assumes nothing.
use Rattle.std.specs.Prelude.{List, [], ◌∷◌, ℕ}
use Rattle.laws.specs.Clear.{zeros}
use Rattle.laws.specs.Flat.{pieces}
use Rattle.laws.specs.Splice.{part, splice}
use Rattle.layout.specs.Layout.{phy_place, row_place, controller_place}
use Rattle.phy.specs.Block.{phy_size}
use Rattle.tables.specs.Tables.{info_start, controller_start, connectors_start, staged_start}
use Rattle.contents.specs.Contents.{file_connector}

-- phy n's bytes in a file, and those of row i in a file with p phys
unfoldable pub phy_from : List ℕ → ℕ → List ℕ
phy_from file n = part file (phy_place n) phy_size

unfoldable pub row_from : List ℕ → ℕ → ℕ → List ℕ
row_from file p i = part file (row_place p i) 20

-- the tables with their counts and driver info; their phys; their rows; with configuration and status, 212 bytes; their connectors
unfoldable pub headed : List ℕ → List ℕ → ℕ → ℕ → List ℕ
headed t file p a = splice (splice t 0 (p ∷ a ∷ [])) info_start (part file 4 174)

unfoldable pub phys_from : List ℕ → ℕ → List ℕ
phys_from file p = pieces (phy_from file) p phy_size 32 0

unfoldable pub rows_from : List ℕ → ℕ → ℕ → List ℕ
rows_from file p a = pieces (row_from file p) a 20 64 0

unfoldable pub controlled : List ℕ → List ℕ → ℕ → ℕ → List ℕ
controlled t file p a = splice t controller_start (part file (controller_place p a) 212)

unfoldable pub connectors_from : List ℕ → ℕ → ℕ → List ℕ
connectors_from file p a = pieces (file_connector file p a) p 36 32 0

-- the tables with all that stands behind the rows: configuration and status, the connectors, and nothing staged
unfoldable pub rest_from : List ℕ → List ℕ → ℕ → ℕ → List ℕ
rest_from t file p a = splice (splice (controlled t file p a) connectors_start (connectors_from file p a)) staged_start (zeros 9)
