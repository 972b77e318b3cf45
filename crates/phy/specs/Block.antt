-- The phy that a block of the adapter file holds (document 01, "Adapter file"; W-205). Assumes nothing.
use Rattle.std.specs.Prelude.{List, [], ◌∷◌, ℕ, ◌+◌, get_or, replicate}
use Rattle.laws.specs.Splice.{part}
use Rattle.wire.specs.Number.{number}
use Rattle.phy.specs.declared.Phy.{Phy}

-- bytes 0 to 104 of its block
abbrev pub phy_size : ℕ
phy_size = 105

-- "the four counters of each phy in the order of 6.9, 32 bits each"
unfoldable pub counters_at : List ℕ → ℕ → List ℕ
counters_at block at =
    number (part block at 4) ∷ number (part block (at + 4) 4) ∷ number (part block (at + 8) 4) ∷ number (part block (at + 12) 4) ∷ []

-- "bytes 0–63 a PHY_ENTITY (6.7.4.2); 64–79 the four counters ..; 80–99 its signature FIS; 100 signature held ..; 101 fixed ..;
-- 102 and 103 the device's lowest and highest rate"; of W-205, "Byte 104 of a phy block, so far 0, may be 1 on a SATA phy"
unfoldable pub phy_of : List ℕ → Phy
phy_of block =
    record {
      entity = part block 0 64;
      counters = counters_at block 64;
      signature = part block 80 20;
      held = get_or block 100 0;
      fixed = get_or block 101 0;
      lowest = get_or block 102 0;
      highest = get_or block 103 0;
      spinup_hold = get_or block 104 0;
    }

-- the phy of a block of zeros, which stands past the last phy: "zero past p"
unfoldable pub zero_phy : Phy
zero_phy = phy_of (replicate 512 0)

-- what reading past the end of a list of phys gives
abbrev pub no_phy : Phy
no_phy = record { entity = []; counters = []; signature = []; held = 0; fixed = 0; lowest = 0; highest = 0; spinup_hold = 0 }
