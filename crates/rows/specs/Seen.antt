-- The table of the keys seen, by which most rows need not be compared: 2,048 marks, 1,024 for the key of a row's SAS address and LUN and
-- 1,024 for that of its OS bytes. Rows that share have the same key, so one neither of whose keys is marked shares nothing with those that are. Assumes nothing.
use Rattle.std.specs.Prelude.{Bool, false, ◌&&◌, List, ℕ, ◌+◌, ◌/◌, ◌%◌, get_or, length, map}
use Rattle.std.specs.Int.{from_le_bytes}
use Rattle.std.specs.List.{sum}
use Rattle.std.specs.Simd.{first_chunks}
use mir.Syntax.{w32}
use Rattle.rows.specs.Row.{Row, row_at}

-- a number below 1,024: the sum of its digits in base 1,024
unfoldable pub folded : ℕ → ℕ
folded n = (n + n / 1024 + n / 1048576 + n / 1073741824) % 1024

-- the words of 32 bits that stand in some bytes
abbrev pub words : List ℕ → List ℕ
words l = map (from_le_bytes w32) (first_chunks 4 (length l / 4) l)

-- the key of some bytes
unfoldable pub key : List ℕ → ℕ
key l = folded (sum (words l))

-- both keys of row i are marked
unfoldable pub marked : List Bool → List Row → ℕ → Bool
marked seen rows i = get_or seen (key (row_at rows i).sas) false && get_or seen (1024 + key (row_at rows i).os) false
