-- What an adapter file holds (document 01, "Adapter file"; W-204). Assumes nothing.
use Rattle.std.specs.Prelude.{List, ℕ}
use Rattle.laws.specs.Fill.{padded}
use Rattle.laws.specs.Splice.{part}
use Rattle.block.specs.Check.{block_at}
use Rattle.phy.specs.declared.Phy.{Phy}
use Rattle.phy.specs.Block.{phy_of, zero_phy}
use Rattle.rows.specs.Row.{Row, row_of, zero_row}
use Rattle.connectors.specs.Connector.{zero_connector}
use Rattle.layout.specs.Layout.{phy_block, row_place, controller_place, controller_status_place, connector_place}
use Rattle.adapter.specs.Staged.{nothing_staged}
use Rattle.adapter.specs.Adapter.{Adapter}

-- "Block 1+n, phy n", and row i of a file with p phys
unfoldable pub file_phy : List ℕ → ℕ → Phy
file_phy file n = phy_of (block_at file (phy_block n))

unfoldable pub file_row : List ℕ → ℕ → ℕ → Row
file_row file p i = row_of file (row_place p i)

-- phy n's connector, in a file with p phys and `a` rows (W-204)
unfoldable pub file_connector : List ℕ → ℕ → ℕ → ℕ → List ℕ
file_connector file p a n = part file (connector_place p a n) 36

-- "The state is the level and what the file holds, zero past p and a"; an opening leaves nothing staged (W-207)
unfoldable pub adapter_of : List ℕ → ℕ → ℕ → Adapter
adapter_of file p a =
    record {
      phy_count = p;
      row_count = a;
      info = part file 4 174;
      phys = padded (file_phy file) p 32 zero_phy;
      rows = padded (file_row file p) a 64 zero_row;
      controller = part file (controller_place p a) 176;
      status = part file (controller_status_place p a) 36;
      connectors = padded (file_connector file p a) p 32 zero_connector;
      staged = nothing_staged;
    }
