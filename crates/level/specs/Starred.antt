-- The starred texts and needs of document 01 ("Starred cases"), by computation on the definitions. Assumes nothing.
use Rattle.std.specs.Prelude.{List, [], ◌∷◌, ℕ}
use Prim.Native.String.{String}
use Rattle.laws.specs.Ascii.{ascii}
use Rattle.laws.specs.Cases.{Case}
use Rattle.level.specs.Text.{text_level}
use Rattle.level.specs.Need.{need_of}

-- a text with its call number and level, and a command with the level it needs
abbrev text : String → ℕ → ℕ → Case
text s call level = record { gives = (text_level (ascii s)).call ∷ (text_level (ascii s)).level.0 ∷ []; said = call ∷ level ∷ [] }

abbrev need_case : ℕ → ℕ → Case
need_case command level = record { gives = (need_of command).0 ∷ []; said = level ∷ [] }

abbrev pub level_cases : List Case
level_cases =
    text "" 0 2
    ∷ text "Something=here;CSMI=Full;" 0 3
    ∷ text "CSMI=full;" 101 0
    ∷ text "CSMI=Full" 101 0
    ∷ need_case 0xe8 2
    ∷ need_case 0xa0 3
    ∷ need_case 0x20 1
    ∷ []
