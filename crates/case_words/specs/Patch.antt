-- The bytes that a line puts into a slice: the word AT:HEX puts bytes at a place. Assumes nothing.
use Rattle.std.specs.Prelude.{cond, List, [], ◌∷◌, ℕ, ◌+◌, ◌-◌, ◌*◌, ◌/◌, ◌%◌, ltb, length, get_or, take, drop}
use Rattle.laws.specs.Splice.{splice}
use Rattle.laws.specs.Fill.{list_to}
use Rattle.case_words.specs.Fields.{digit_of, number_of, words, behind}

-- the byte that two digits are
abbrev pub hex_byte : ℕ → ℕ → ℕ
hex_byte a b = (digit_of a * 16 + digit_of b) % 256

-- byte j of those that are written, two digits each, one behind the other
abbrev pub byte_at : List ℕ → ℕ → ℕ
byte_at h j = hex_byte (get_or h (2 * j) 0) (get_or h (2 * j + 1) 0)

-- all of them
unfoldable pub bytes_of : List ℕ → List ℕ
bytes_of h = list_to (byte_at h) (length h / 2)

-- d with bytes from index at on; what does not fit is left out
unfoldable pub put : List ℕ → ℕ → List ℕ → List ℕ
put d at b = splice d at (take (length d - at) b)

-- d with one word: its place, a colon and its bytes
unfoldable pub put_word : List ℕ → List ℕ → List ℕ
put_word d w = put d (number_of w) (bytes_of (behind 58 w))

-- d with one word after the other
unfoldable pub put_all : List ℕ → List (List ℕ) → List ℕ
put_all d [] = d
put_all d (w ∷ ws) = put_all (put_word d w) ws

-- d with the words of a line from word k on
unfoldable pub patched : List ℕ → List ℕ → ℕ → List ℕ
patched d s k = put_all d (drop k (words s))

-- how many of n fit into a room of m
unfoldable pub fits : ℕ → ℕ → ℕ
fits m n = cond (ltb m n) m n
