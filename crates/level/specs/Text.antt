-- The level of a text (document 01, "Level"). Assumes nothing.
use Rattle.std.specs.Prelude.{Bool, cond, List, [], ◌∷◌, ℕ, eqb, ltb, length}
use Rattle.laws.specs.Ascii.{ascii}
use Rattle.laws.specs.Splice.{part}
use Rattle.codes.specs.Codes.{bad_text}
use Rattle.wire.specs.Same.{same_bytes}
use Rattle.level.specs.declared.Level.{Level}
use Rattle.level.specs.Setting.{Setting, Absent, Given, Bad, TextLevel}

-- "Level numbers: None 0, Restricted 1, Limited 2, Full 3"
abbrev pub none : Level
none = record { 0 = 0 }

abbrev pub restricted : Level
restricted = record { 0 = 1 }

abbrev pub limited : Level
limited = record { 0 = 2 }

abbrev pub full : Level
full = record { 0 = 3 }

-- "The text .. is cut into entries, each ending with its semicolon; bytes after the last semicolon are one unclosed entry":
-- a byte that ends no entry stands in front of the first entry of the rest
abbrev pub in_front : ℕ → List (List ℕ) → List (List ℕ)
in_front b [] = (b ∷ []) ∷ []
in_front b (e ∷ es) = (b ∷ e) ∷ es

abbrev pub semicolon : ℕ
semicolon = 59

unfoldable pub entries : List ℕ → List (List ℕ)
entries [] = []
entries (b ∷ rest) = cond (eqb b semicolon) ((b ∷ []) ∷ entries rest) (in_front b (entries rest))

-- "an entry that begins with the five bytes CSMI="
unfoldable pub begins : List ℕ → Bool
begins entry = same_bytes (part entry 0 5) (ascii "CSMI=")

-- those of the entries that do
unfoldable pub ours : List (List ℕ) → List (List ℕ)
ours [] = []
ours (e ∷ es) = cond (begins e) (e ∷ ours es) (ours es)

-- "exactly CSMI=None; CSMI=Restricted; CSMI=Limited; or CSMI=Full; it is that level"
unfoldable pub exact : List ℕ → Setting
exact entry =
    cond (same_bytes entry (ascii "CSMI=None;")) (Given none)
    (cond (same_bytes entry (ascii "CSMI=Restricted;")) (Given restricted)
    (cond (same_bytes entry (ascii "CSMI=Limited;")) (Given limited)
    (cond (same_bytes entry (ascii "CSMI=Full;")) (Given full)
    Bad)))

-- what one entry says: nothing where it does not begin with CSMI=
unfoldable pub entry_setting : List ℕ → Setting
entry_setting entry = cond (begins entry) (exact entry) Absent

-- "With no such entry", "With one that is exactly ..", "Anything else, two such entries included, .."
abbrev pub setting_of : List (List ℕ) → Setting
setting_of [] = Absent
setting_of (e ∷ []) = exact e
setting_of (e ∷ f ∷ es) = Bad

-- the number and the level for each: "With no such entry the level is Limited", "Anything else, .. is 101"
abbrev pub meant : Setting → TextLevel
meant Absent = record { call = 0; level = limited }
meant (Given l) = record { call = 0; level = l }
meant Bad = record { call = bad_text; level = none }

-- "The text (0 to 1,024 bytes)"; "101 text, or text over 1,024 bytes"
unfoldable pub text_level : List ℕ → TextLevel
text_level text = cond (ltb 1024 (length text)) (meant Bad) (meant (setting_of (ours (entries text))))
