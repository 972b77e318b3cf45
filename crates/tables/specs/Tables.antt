-- The tables and counters that lent bytes stand for (document 01, "The state is the level and what the file holds, zero past p and a"; the
-- level stands before them, apart). 6,189 bytes, each of them named here: p, a, the driver info, 32 phys of 105 bytes, each as the first 105 of its
-- block in the adapter file, 64 rows of 20, of W-204 the controller's configuration and status and 32 connectors of 36, and of W-207 whether firmware is staged, one byte, and the eight of its revisions. Every list of that
-- length stands for an adapter. Assumes nothing.
use Rattle.std.specs.Prelude.{if◌then◌else◌, List, ℕ, ◌+◌, ◌*◌, ltb, get_or, Option, Some, None}
use Rattle.laws.specs.Fill.{list_to}
use Rattle.laws.specs.Splice.{part}
use Rattle.phy.specs.declared.Phy.{Phy}
use Rattle.phy.specs.Block.{phy_size, phy_of}
use Rattle.rows.specs.Row.{rows_size, rows_of}
use Rattle.connectors.specs.Connector.{connectors_size, connectors_of}
use Rattle.adapter.specs.Staged.{Staged, staged}
use Rattle.adapter.specs.Adapter.{Adapter, phy_in}

abbrev pub tables_size : ℕ
tables_size = 6189

-- where the driver info, phy n, the rows, configuration, status, the connectors and what is staged start
abbrev pub info_start : ℕ
info_start = 2

abbrev pub phy_start : ℕ → ℕ
phy_start n = 176 + phy_size * n

-- how many bytes all 32 phys have
abbrev pub phys_size : ℕ
phys_size = 3360

abbrev pub rows_start : ℕ
rows_start = 3536

abbrev pub controller_start : ℕ
controller_start = 4816

abbrev pub status_start : ℕ
status_start = 4992

abbrev pub connectors_start : ℕ
connectors_start = 5028

abbrev pub staged_start : ℕ
staged_start = 6180

-- phy n of the bytes
unfoldable pub phy_at : List ℕ → ℕ → Phy
phy_at t n = phy_of (part t (phy_start n) phy_size)

-- what is staged, of the bytes
abbrev pub staged_at : List ℕ → Staged
staged_at t = staged (get_or t staged_start 0) (part t (staged_start + 1) 8)

-- the adapter of the bytes
unfoldable pub tables_of : List ℕ → Adapter
tables_of t =
    record {
      phy_count = get_or t 0 0;
      row_count = get_or t 1 0;
      info = part t info_start 174;
      phys = list_to (phy_at t) 32;
      rows = rows_of (part t rows_start rows_size);
      controller = part t controller_start 176;
      status = part t status_start 36;
      connectors = connectors_of (part t connectors_start connectors_size);
      staged = staged_at t;
    }

-- "phy exists": phy n, of those below p
abbrev pub existing_phy : Adapter → ℕ → Option Phy
existing_phy ad n = if ltb n ad.phy_count then Some (phy_in ad n) else None
