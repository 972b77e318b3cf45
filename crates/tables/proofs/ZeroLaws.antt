-- Bytes that are 0 stand for the zero adapter. Assumes nothing.
use mathlib.Core.Path.{◌≡◌, refl, ◌∙◌, ap}
use Prim.Native.Nat.{ℕ, ◌+◌, ◌≤◌}
use native.Mathlib.Omega.{arith}
use lib.ListN.{replicate, get_or-replicate}
use Rattle.laws.specs.Clear.{zeros}
use Rattle.laws.specs.Fill.{list_to, list_to_all}
use Rattle.laws.specs.Splice.{part, part_replicate}
use Rattle.wire.specs.Number.{number}
use Rattle.phy.specs.Block.{phy_size, counters_at, phy_of, zero_phy}
use Rattle.rows.specs.Row.{row_of, rows_size, row_start, rows_of, zero_row}
use Rattle.connectors.specs.Connector.{connectors_size, connectors_of, zero_connector}
use Rattle.connectors.proofs.Laws.{zero_connectors}
use Rattle.adapter.specs.Adapter.{zero_adapter}
use Rattle.tables.specs.Tables.{tables_size, phy_start, rows_start, controller_start, status_start, connectors_start, staged_start, phy_at, tables_of}

-- a phy and a row
pub phy_zeros : phy_of (zeros phy_size) ≡ zero_phy
unfolding zero_phy phy_of counters_at number part
phy_zeros = refl

pub row_zeros : (m at : ℕ) → at + 20 ≤ m → row_of (zeros m) at ≡ zero_row
unfolding row_of
row_zeros m at h = rw (part_replicate {A = ℕ} m at 16 0 (omega arith), part_replicate {A = ℕ} m (at + 16) 4 0 (omega arith))

phys_zeros : list_to (phy_at (zeros tables_size)) 32 ≡ replicate 32 zero_phy
unfolding phy_at
phys_zeros =
    list_to_all (phy_at (zeros tables_size)) 32 zero_phy
    (λ i l. ap phy_of (part_replicate tables_size (phy_start i) phy_size 0 (omega arith)) ∙ phy_zeros)

rows_zeros : rows_of (part (zeros tables_size) rows_start rows_size) ≡ replicate 64 zero_row
unfolding rows_of
rows_zeros =
    ap rows_of (part_replicate tables_size rows_start rows_size 0 (omega arith))
    ∙ list_to_all (λ (i : ℕ). row_of (zeros rows_size) (row_start i)) 64 zero_row (λ i l. row_zeros rows_size (row_start i) (omega arith))

connectors_zeros : connectors_of (part (zeros tables_size) connectors_start connectors_size) ≡ replicate 32 zero_connector
connectors_zeros = ap connectors_of (part_replicate tables_size connectors_start connectors_size 0 (omega arith)) ∙ zero_connectors

pub zero_tables : tables_of (zeros tables_size) ≡ zero_adapter
unfolding tables_of zero_adapter
zero_tables =
    let p = get_or-replicate {A = ℕ} tables_size 0 0 0 (omega arith) in
    let a = get_or-replicate {A = ℕ} tables_size 1 0 0 (omega arith) in
    let c = part_replicate {A = ℕ} tables_size controller_start 176 0 (omega arith) in
    let s = part_replicate {A = ℕ} tables_size status_start 36 0 (omega arith) in
    let f = get_or-replicate {A = ℕ} tables_size staged_start 0 0 (omega arith) in
    let v = part_replicate {A = ℕ} tables_size (staged_start + 1) 8 0 (omega arith) in
    cc (phys_zeros, rows_zeros, connectors_zeros, part_replicate {A = ℕ} tables_size 2 174 0 (omega arith))
