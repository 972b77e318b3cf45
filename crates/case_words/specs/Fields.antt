-- A line of stdin: its words, and the numbers that words are. Assumes nothing.
use Rattle.std.specs.Prelude.{Bool, cond, ◌&&◌, List, [], ◌∷◌, ℕ, zero, suc, ◌+◌, ◌-◌, ◌*◌, ◌%◌, eqb, ltb, leb, length, get_or, drop}

-- a byte before the first of some words
abbrev pub joined_words : ℕ → List (List ℕ) → List (List ℕ)
joined_words b [] = (b ∷ []) ∷ []
joined_words b (w ∷ ws) = (b ∷ w) ∷ ws

-- the words of a line, each ended by a space or by the line's end
unfoldable pub words : List ℕ → List (List ℕ)
words [] = []
words (b ∷ l) = cond (eqb b 32) ([] ∷ words l) (joined_words b (words l))

-- the pieces of some bytes, each ended by a c or by the end: `words` where c is a space
abbrev pub pieces : ℕ → List ℕ → List (List ℕ)
pieces c [] = []
pieces c (b ∷ l) = cond (eqb b c) ([] ∷ pieces c l) (joined_words b (pieces c l))

-- a decimal digit
abbrev pub is_digit : ℕ → Bool
is_digit c = leb 48 c && leb c 57

-- the value of a digit, one of 0 to 9 or of a to f
abbrev pub digit_of : ℕ → ℕ
digit_of c = cond (ltb c 97) (c % 16) (c - 87)

-- the number of the decimal digits that a word begins with, behind those of v
unfoldable pub decimal : ℕ → List ℕ → ℕ
decimal v [] = v
decimal v (c ∷ w) = cond (is_digit c) (decimal (v * 10 + digit_of c) w) v

-- the number that a word is, modulo 4,294,967,296
unfoldable pub number_of : List ℕ → ℕ
number_of w = decimal 0 w % 4294967296

-- the number that word k of a line is; 0 where the line has no such word
unfoldable pub field_of : List ℕ → ℕ → ℕ
field_of s k = number_of (get_or (words s) k [])

-- ---- a line cut where the code cuts it

-- the front of a list, up to the first c
unfoldable pub up_to : ℕ → List ℕ → List ℕ
up_to c [] = []
up_to c (b ∷ l) = cond (eqb b c) [] (b ∷ up_to c l)

-- what stands behind the first c
unfoldable pub behind : ℕ → List ℕ → List ℕ
behind c l = drop (suc (length (up_to c l))) l

-- a line from word k on
unfoldable pub from_word : List ℕ → ℕ → List ℕ
from_word s zero = s
from_word s (suc k) = behind 32 (from_word s k)

-- the index of the first c from an index on, or the end
unfoldable pub index_of : List ℕ → ℕ → ℕ → ℕ
index_of s from c = from + length (up_to c (drop from s))
