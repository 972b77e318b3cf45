-- The opening's file part (document 01, "Adapter file"): the checks in their order up to the fields, and what is read.
-- The negotiated rates, which the link rule gives, and the rows are tested after it. Assumes nothing.
use Rattle.std.specs.Prelude.{◌&&◌, cond, List, [], ◌∷◌, ℕ, leb, eqb, length}
use Rattle.laws.specs.Checks.{Check, check, first_failing}
use Rattle.codes.specs.Codes.{bad_file_length, block_check, bad_field}
use Rattle.block.specs.Check.{block_at, sound, sound_to}
use Rattle.layout.specs.Layout.{phy_count, row_count, blocks, file_length}
use Rattle.unnamed.specs.Unnamed.{unnamed_zero}
use Rattle.adapter.specs.Adapter.{Adapter, zero_adapter, counts_hold, fields_all}
use Rattle.contents.specs.Contents.{adapter_of}

-- what a file holds, where call is 0; else the file's number and the zero adapter
pub record FileRead : Type 0 where
  pub call : ℕ
  pub adapter : Adapter

-- the same, as the code leaves it: its number and the tables
abbrev pub reads : ℕ → Adapter → FileRead
reads call ad = record { call = call; adapter = ad }

-- "A refused opening returns the zero state, p = 0"
abbrev pub refused_file : ℕ → FileRead
refused_file call = reads call zero_adapter

-- the adapter where every check holds; else the number of the first that fails
unfoldable pub read_by : List Check → Adapter → FileRead
read_by checks ad = cond (eqb (first_failing checks) 0) (reads 0 ad) (refused_file (first_failing checks))

-- "Opening checks, in order: .. file under 512 bytes; block 0's check; p and a; file length ..; other checks, lowest block first; fields",
-- with which the unnamed bytes are tested
abbrev file_checks : List ℕ → ℕ → ℕ → List Check
file_checks file p a =
    check (leb 512 (length file)) bad_file_length
    ∷ check (sound (block_at file 0) 0) block_check
    ∷ check (counts_hold p a) bad_field
    ∷ check (eqb (file_length p a) (length file)) bad_file_length
    ∷ check (sound_to file (blocks p a)) block_check
    ∷ check (unnamed_zero file p a && fields_all (adapter_of file p a)) bad_field
    ∷ []

-- all of it, with the counts that block 0 gives
unfoldable pub file_read : List ℕ → FileRead
file_read file = read_by (file_checks file (phy_count file) (row_count file)) (adapter_of file (phy_count file) (row_count file))
