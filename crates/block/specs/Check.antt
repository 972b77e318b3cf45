-- Blocks and their checks (document 01, "Adapter file"). Assumes nothing.
use Rattle.std.specs.Prelude.{Bool, List, ℕ, ◌+◌, ◌*◌, ◌%◌, eqb}
use Rattle.laws.specs.All.{all_to}
use Rattle.laws.specs.Splice.{part}
use Rattle.laws.specs.Sum.{sum_to}
use Rattle.wire.specs.Number.{number}

-- "Blocks of 512 bytes, numbered from 0"
unfoldable pub block_at : List ℕ → ℕ → List ℕ
block_at file k = part file (512 * k) 512

-- a block's little-endian words, counted from 0
unfoldable pub word : List ℕ → ℕ → ℕ
word block i = number (part block (4 * i) 4)

-- "the sum of the 127 little-endian words before it, plus the block's number, plus 1, modulo 4,294,967,296"
unfoldable pub check_of : List ℕ → ℕ → ℕ
check_of block k = (sum_to (word block) 127 + k + 1) % 4294967296

-- "the last four bytes are its check"
unfoldable pub sound : List ℕ → ℕ → Bool
sound block k = eqb (number (part block 508 4)) (check_of block k)

-- each of the first n blocks of a file has its check
unfoldable pub sound_to : List ℕ → ℕ → Bool
sound_to file n = all_to (λ k. sound (block_at file k) k) n
