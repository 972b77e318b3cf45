-- Rows as the code holds them: a row that was read, and 20 bytes for each row. Assumes nothing.
use Rattle.std.specs.Prelude.{List, ℕ, map}
use Rattle.rows.specs.declared.Row.{Row as Held}
use Rattle.rows.specs.Row.{Row, row_of}

-- the row that was read
abbrev pub row_held : Held → Row
row_held row = record { sas = row.sas; os = row.os }

-- the rows that stand in chunks of 20 bytes
abbrev pub rows_in : List (List ℕ) → List Row
rows_in chunks = map (λ chunk. row_of chunk 0) chunks
