-- What is proved of the definitions in specs/Check.antt. Assumes nothing.
use mathlib.Core.Path.{◌≡◌}
use mathlib.Core.List.{List}
use Prim.Native.Nat.{ℕ, ◌+◌, ◌*◌, ◌≤◌}
use lib.ListN.{length}
use Rattle.laws.specs.Splice.{length_part}
use Rattle.block.specs.Check.{block_at}

-- ---- what stands in a block is what stands in the file

pub length_block : (file : List ℕ) (k : ℕ) → 512 * k + 512 ≤ length file → length (block_at file k) ≡ 512
unfolding block_at
length_block file k h = length_part file (512 * k) 512 h
