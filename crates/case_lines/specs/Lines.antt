-- What a line leaves in the state, in the bytes of the file and in a request's buffer: the letters are those of request_cases. Assumes nothing.
use Rattle.std.specs.Prelude.{cond, List, [], ◌∷◌, ◌++◌, ℕ, ◌+◌, ◌*◌, ◌%◌, eqb, length, take, drop}
use Rattle.laws.specs.Splice.{splice}
use Rattle.laws.specs.Clear.{zeros}
use Rattle.laws.specs.Fill.{list_to}
use Rattle.wire.specs.Number.{bytes}
use Rattle.case_words.specs.Fields.{field_of}
use Rattle.case_words.specs.Patch.{patched}

-- y PHY AT:HEX ..: the phy of a block that has these bytes
unfoldable pub phy_line : List ℕ → List ℕ → List ℕ
phy_line state s = splice state (177 + 105 * (field_of s 1 % 32)) (patched (zeros 105) s 2)

-- w ROW AT:HEX ..: the row that has these bytes
unfoldable pub row_line : List ℕ → List ℕ → List ℕ
row_line state s = splice state (3537 + 20 * (field_of s 1 % 64)) (patched (zeros 20) s 2)

-- c PHY AT:HEX ..: the connector that has these bytes
unfoldable pub connector_line : List ℕ → List ℕ → List ℕ
connector_line state s = splice state (5029 + 36 * (field_of s 1 % 32)) (patched (zeros 36) s 2)

-- i STAGED AT:HEX ..: the byte that says whether an image is staged, and the revisions that have these bytes
unfoldable pub staged_line : List ℕ → List ℕ → List ℕ
staged_line state s = splice (splice state 6182 (patched (zeros 8) s 2)) 6181 (field_of s 1 % 256 ∷ [])

-- l LEVEL PHYS ROWS: another level and other counts
unfoldable pub count_line : List ℕ → List ℕ → List ℕ
count_line state s = splice state 0 (field_of s 1 % 256 ∷ field_of s 2 % 256 ∷ field_of s 3 % 256 ∷ [])

-- the state after a line of a letter: y, w, c, i and l change it, and no other
unfoldable pub damaged : List ℕ → List ℕ → ℕ → List ℕ
damaged state s c =
    cond (eqb c 121) (phy_line state s)
    (cond (eqb c 119) (row_line state s)
    (cond (eqb c 99) (connector_line state s)
    (cond (eqb c 105) (staged_line state s)
    (cond (eqb c 108) (count_line state s)
    state))))

-- byte i of a pattern: step × (i + 1) modulo 251
abbrev pub pattern_at : ℕ → ℕ → ℕ
pattern_at step i = step * (i + 1) % 251

-- n bytes of a pattern
unfoldable pub filled_by : ℕ → ℕ → List ℕ
filled_by step n = list_to (pattern_at step) n

-- p BLOCK AT:HEX ..: bytes of a block of the file
unfoldable pub block_line : List ℕ → List ℕ → List ℕ
block_line file s = take (512 * (field_of s 1 % 128)) file ++ patched (drop (512 * (field_of s 1 % 128)) file) s 2

-- the file's bytes after a line of the letter c: f and p change them, and no other
unfoldable pub file_line : List ℕ → List ℕ → ℕ → List ℕ
file_line file s c = cond (eqb c 102) (filled_by 0 (length file)) (cond (eqb c 112) (block_line file s) file)

-- a header's own length, 28, and the signature CSMISAS
abbrev pub head_start : List ℕ
head_start = 28 ∷ 0 ∷ 0 ∷ 0 ∷ 67 ∷ 83 ∷ 77 ∷ 73 ∷ 83 ∷ 65 ∷ 83 ∷ 0 ∷ []

-- a buffer with a header: these, a control code, and the length of what follows
unfoldable pub header_put : List ℕ → ℕ → ℕ → List ℕ
header_put b control n = splice (splice (splice b 0 head_start) 16 (bytes 4 control)) 24 (bytes 4 n)

-- q MEDIUM SIZE STEP CODE LENGTH AT:HEX ..: n bytes of a pattern, with a header and other bytes
unfoldable pub request_bytes : List ℕ → ℕ → List ℕ
request_bytes s n = patched (header_put (filled_by (field_of s 3) n) (field_of s 4) (field_of s 5)) s 6
