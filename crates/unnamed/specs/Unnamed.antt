-- The bytes of an adapter file that neither document 01 ("Adapter file") nor W-204 and W-205 name. Assumes nothing.
use Rattle.std.specs.Prelude.{Bool, ◌&&◌, List, ℕ, ◌+◌, ◌-◌, ◌*◌}
use Rattle.laws.specs.All.{all_to}
use Rattle.laws.specs.Splice.{part}
use Rattle.wire.specs.Same.{all_zero}
use Rattle.layout.specs.Layout.{phy_place, row_blocks, rows_in, row_block_place, controller_place, connector_place}

-- "Bytes not named, and bytes past the last row, are 0": bytes 2, 3 and 178 to 507 of block 0,
unfoldable pub head_zero : List ℕ → Bool
head_zero file = all_zero (part file 2 2) && all_zero (part file 178 330)

-- bytes 105 to 507 of a phy's block,
unfoldable pub phy_block_zero : List ℕ → ℕ → Bool
phy_block_zero file n = all_zero (part file (phy_place n + 105) 403)

-- what stands behind the rows in their block b,
unfoldable pub row_block_zero : List ℕ → ℕ → ℕ → ℕ → Bool
row_block_zero file p a b = all_zero (part file (row_block_place p b + 20 * rows_in a b) (508 - 20 * rows_in a b))

-- and of W-204's blocks what stands behind configuration and status, 212 bytes, and behind a connector's 36
unfoldable pub controller_block_zero : List ℕ → ℕ → ℕ → Bool
controller_block_zero file p a = all_zero (part file (controller_place p a + 212) 296)

unfoldable pub connector_block_zero : List ℕ → ℕ → ℕ → ℕ → Bool
connector_block_zero file p a n = all_zero (part file (connector_place p a n + 36) 472)

unfoldable pub unnamed_zero : List ℕ → ℕ → ℕ → Bool
unnamed_zero file p a =
    head_zero file
    && all_to (phy_block_zero file) p
    && all_to (row_block_zero file p a) (row_blocks a)
    && controller_block_zero file p a
    && all_to (connector_block_zero file p a) p
