-- How long the first entry of a text is: the bytes up to its semicolon, and it (document 01, "Level"). Assumes nothing.
use Rattle.std.specs.Prelude.{cond, List, [], ◌∷◌, ℕ, suc, eqb}
use Rattle.level.specs.Text.{semicolon}

abbrev pub entry_length : List ℕ → ℕ
entry_length [] = 0
entry_length (b ∷ rest) = cond (eqb b semicolon) 1 (suc (entry_length rest))
