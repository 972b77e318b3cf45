-- Address rows (document 01, "Adapter file"): their rules and the two conversions. Assumes nothing.
use Rattle.std.specs.Prelude.{Bool, not, ◌&&◌, ◌||◌, List, [], ℕ, ◌+◌, ◌-◌, ◌*◌, get_or, replicate}
use Rattle.laws.specs.All.{all_to}
use Rattle.laws.specs.Fill.{list_to}
use Rattle.laws.specs.First.{first}
use Rattle.laws.specs.Splice.{part}
use Rattle.wire.specs.Same.{same_bytes}

-- a row: its SAS address and LUN, and its four OS bytes, "host index, path, target, LUN"
pub record Row : Type 0 where
  pub sas : List ℕ
  pub os : List ℕ

-- "rows of 20 bytes ..: SAS address 8, SAS LUN 8, host index, path, target, LUN": the row whose bytes stand at an index
unfoldable pub row_of : List ℕ → ℕ → Row
row_of bytes at = record { sas = part bytes at 16; os = part bytes (at + 16) 4 }

-- the 64 rows of an adapter, one behind the other
abbrev pub rows_size : ℕ
rows_size = 1280

abbrev pub row_start : ℕ → ℕ
row_start i = 20 * i

unfoldable pub rows_of : List ℕ → List Row
rows_of bytes = list_to (λ (i : ℕ). row_of bytes (row_start i)) 64

-- what "zero past p and a" asks of a row
abbrev pub zero_row : Row
zero_row = record { sas = replicate 16 0; os = replicate 4 0 }

-- what stands past the end of a list of rows
abbrev pub no_row : Row
no_row = record { sas = []; os = [] }

abbrev pub row_at : List Row → ℕ → Row
row_at rows i = get_or rows i no_row

-- two rows that share neither "SAS address and LUN" nor "all four OS bytes"
unfoldable pub apart : Row → Row → Bool
apart r s = not (same_bytes r.sas s.sas || same_bytes r.os s.os)

-- row i shares nothing with a row before it
unfoldable pub fresh : List Row → ℕ → Bool
fresh rows i = all_to (λ j. apart (row_at rows j) (row_at rows i)) i

-- "No two rows share SAS address and LUN; no two share all four OS bytes"
unfoldable pub rows_hold : List Row → ℕ → Bool
rows_hold rows a = all_to (fresh rows) a

-- the row is zero
unfoldable pub row_zero : Row → Bool
row_zero r = same_bytes r.sas (replicate 16 0) && same_bytes r.os (replicate 4 0)

-- "zero past p and a": the rows from a up to 64
unfoldable pub zero_from : List Row → ℕ → Bool
zero_from rows a = all_to (λ k. row_zero (row_at rows (a + k))) (64 - a)

-- "the row with that SAS address and LUN", and "the other way": found where it is below a
unfoldable pub sas_index : List Row → ℕ → List ℕ → ℕ
sas_index rows a sas = first (λ i. same_bytes (row_at rows i).sas sas) a

unfoldable pub os_index : List Row → ℕ → List ℕ → ℕ
os_index rows a os = first (λ i. same_bytes (row_at rows i).os os) a
