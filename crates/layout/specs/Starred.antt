-- The starred file lengths of document 01 ("Starred cases"): p = 4 with 25 and with 26 rows, as W-204 has them. Assumes nothing.
use Rattle.std.specs.Prelude.{List, [], ◌∷◌, ℕ}
use Rattle.laws.specs.Cases.{Case}
use Rattle.layout.specs.Layout.{file_length}

-- the counts p and a, with the length of the file
abbrev length_for : ℕ → ℕ → ℕ → Case
length_for p a n = record { gives = file_length p a ∷ []; said = n ∷ [] }

abbrev pub layout_cases : List Case
layout_cases = length_for 4 25 5632 ∷ length_for 4 26 6144 ∷ []
