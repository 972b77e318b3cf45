-- What is proved of the definitions in specs/Block.antt. Assumes nothing.
use mathlib.Core.Path.{◌≡◌}
use mathlib.Core.List.{List}
use Prim.Native.Nat.{ℕ}
use native.Mathlib.Omega.{arith}
use lib.ListN.{length}
use Rattle.laws.specs.Splice.{length_part}
use Rattle.phy.specs.Block.{phy_of}

-- ---- how long the arrays are

pub length_entity : (block : List ℕ) → length block ≡ 512 → length (phy_of block).entity ≡ 64
unfolding phy_of
length_entity block e = length_part block 0 64 (omega arith)
