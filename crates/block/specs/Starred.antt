-- The starred check of document 01 ("Starred cases"), by computation on the definitions. Assumes nothing.
use Rattle.std.specs.Prelude.{List, [], ◌∷◌, ℕ, replicate}
use Rattle.laws.specs.Cases.{Case}
use Rattle.block.specs.Check.{check_of}

-- an all-zero block with its number and its check
abbrev zero_block : ℕ → ℕ → Case
zero_block k check = record { gives = check_of (replicate 512 0) k ∷ []; said = check ∷ [] }

abbrev pub block_cases : List Case
block_cases = zero_block 3 4 ∷ []
