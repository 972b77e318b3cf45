-- The checks of a file as the code makes them (`StepsLaws.antt`: they give what the list gives). Assumes nothing.
use Rattle.std.specs.Prelude.{cond, ◌&&◌, List, ℕ, leb, eqb, length, Result, Ok, Err}
use Rattle.codes.specs.Codes.{bad_file_length, block_check, bad_field}
use Rattle.codes.specs.declared.call_error.CallError.{CallError}
use Rattle.codes.specs.Numbers.{error_number}
use Rattle.block.specs.Check.{block_at, sound, sound_to}
use Rattle.layout.specs.Layout.{phy_count, row_count, blocks, file_length}
use Rattle.unnamed.specs.Unnamed.{unnamed_zero}
use Rattle.adapter.specs.Adapter.{Adapter, counts_hold, fields_all}
use Rattle.contents.specs.Contents.{adapter_of}

-- an error's number; else that of what follows
abbrev pub call_then : {A : Type 0} → Result A CallError → ℕ → ℕ
call_then (Ok x) next = next
call_then (Err error) next = error_number error

-- the number of the first check before the fields that a file fails; else that of what follows
unfoldable pub sized_then : List ℕ → ℕ → ℕ
sized_then file next =
    cond (leb 512 (length file))
    (cond (sound (block_at file 0) 0)
    (cond (counts_hold (phy_count file) (row_count file))
    (cond (eqb (file_length (phy_count file) (row_count file)) (length file))
    (cond (sound_to file (blocks (phy_count file) (row_count file))) next block_check)
    bad_file_length)
    bad_field)
    block_check)
    bad_file_length

-- that of the unnamed bytes and the fields, in a file with p phys and `a` rows
unfoldable pub fields_number : List ℕ → ℕ → ℕ → ℕ
fields_number file p a = cond (unnamed_zero file p a && fields_all (adapter_of file p a)) 0 bad_field

-- the number of a file, and the adapter that its counts give
abbrev pub file_number : List ℕ → ℕ
file_number file = sized_then file (fields_number file (phy_count file) (row_count file))

abbrev pub file_adapter : List ℕ → Adapter
file_adapter file = adapter_of file (phy_count file) (row_count file)
