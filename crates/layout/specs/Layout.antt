-- Where the blocks of an adapter file stand, and how long it is (document 01, "Adapter file"; W-204). Assumes nothing.
use Rattle.std.specs.Prelude.{List, ℕ, ◌+◌, ◌-◌, ◌*◌, ◌/◌, ◌%◌, min, get_or}

-- "Block 0: byte 0 the phy count p ..; byte 1 the row count a .."
abbrev pub phy_count : List ℕ → ℕ
phy_count file = get_or file 0 0

abbrev pub row_count : List ℕ → ℕ
row_count file = get_or file 1 0

-- "Block 1+n, phy n", and where it starts
abbrev pub phy_block : ℕ → ℕ
phy_block n = 1 + n

abbrev pub phy_place : ℕ → ℕ
phy_place n = 512 * phy_block n

-- "Then rows of 20 bytes, 25 to a block": how many blocks `a` rows take, where their block b starts (b counts from 0), and
-- where row i stands, in a file with p phys
abbrev pub row_blocks : ℕ → ℕ
row_blocks a = (a + 24) / 25

-- how many of `a` rows stand in their block b
abbrev pub rows_in : ℕ → ℕ → ℕ
rows_in a b = min 25 (a - 25 * b)

abbrev pub row_block_place : ℕ → ℕ → ℕ
row_block_place p b = 512 * (1 + p + b)

abbrev pub row_place : ℕ → ℕ → ℕ
row_place p i = row_block_place p (i / 25) + 20 * (i % 25)

-- "one block for the controller and status and one block for each phy's connector, after the rows" (W-204), and where they start
abbrev pub controller_block : ℕ → ℕ → ℕ
controller_block p a = 1 + p + row_blocks a

abbrev pub controller_place : ℕ → ℕ → ℕ
controller_place p a = 512 * controller_block p a

abbrev pub connector_place : ℕ → ℕ → ℕ → ℕ
connector_place p a n = 512 * (controller_block p a + 1 + n)

-- "Each structure stands from byte 0, status right after configuration", which has 176 bytes
abbrev pub controller_status_place : ℕ → ℕ → ℕ
controller_status_place p a = controller_place p a + 176

-- the blocks of a file with p phys and `a` rows: 2 + 2p + a/25 rounded up; and its length
abbrev pub blocks : ℕ → ℕ → ℕ
blocks p a = controller_block p a + 1 + p

abbrev pub file_length : ℕ → ℕ → ℕ
file_length p a = 512 * blocks p a
