-- Opening an adapter (document 01, "Adapter file", "Opening checks, in order"). Assumes nothing.
use Rattle.std.specs.Prelude.{◌≡◌, cond, List, ℕ, eqb, length}
use Rattle.codes.specs.Codes.{bad_field, shared_row, bad_medium_length, bad_state}
use Rattle.level.specs.declared.Level.{Level}
use Rattle.level.specs.Setting.{TextLevel}
use Rattle.level.specs.Text.{text_level}
use Rattle.rows.specs.Row.{rows_hold}
use Rattle.adapter.specs.Adapter.{Adapter, medium_size}
use Rattle.file.specs.File.{FileRead, file_read}
use Rattle.link.specs.All.{negotiated_all}
use Rattle.state.specs.State.{State, state_with, state_size, state_of, zero_state}

-- what an opening gives: its number and the state
pub record Opened : Type 0 where
  pub call : ℕ
  pub state : State

abbrev pub opens : ℕ → State → Opened
opens call s = record { call = call; state = s }

-- "A refused opening returns the zero state"
abbrev pub refused_opening : ℕ → Opened
refused_opening call = opens call zero_state

-- "The state is the level and what the file holds"
abbrev pub opened : Level → Adapter → Opened
opened level ad = opens 0 (state_with level ad)

-- the last of "fields", which is the negotiated rates; "rows"; "medium length": the number of the first that fails, or 0
unfoldable pub tables_number : Adapter → ℕ → ℕ
tables_number ad size =
    cond (negotiated_all ad)
    (cond (rows_hold ad.rows ad.row_count)
    (cond (eqb (medium_size ad) size) 0 bad_medium_length)
    shared_row)
    bad_field

-- the number of what was read from the file, or that of what follows
unfoldable pub open_number : FileRead → ℕ → ℕ
open_number f size = cond (eqb f.call 0) (tables_number f.adapter size) f.call

-- what is left by a number: the state of a level and an adapter where it is 0
abbrev pub settled : ℕ → Level → Adapter → Opened
settled number level ad = cond (eqb number 0) (opened level ad) (refused_opening number)

-- the file
unfoldable pub opened_file : Level → FileRead → ℕ → Opened
opened_file level f size = settled (open_number f size) level f.adapter

-- what the text says, or its number, and then the file
unfoldable pub opened_text : TextLevel → List ℕ → ℕ → Opened
opened_text t file size = cond (eqb t.call 0) (opened_file t.level (file_read file) size) (refused_opening t.call)

-- "text; file under 512 bytes; ..; fields; rows; medium length"
unfoldable pub opened_of : List ℕ → List ℕ → List ℕ → Opened
opened_of text file medium = opened_text (text_level text) file (length medium)

-- the call, on a state that is lent as bytes: its number, and the bytes afterwards
pub record OpenCall (text file medium state : List ℕ) (call : ℕ) (after : List ℕ) : Type 0 where
  pub size : length after ≡ length state
  pub whole : length state ≡ state_size → opens call (state_of after) ≡ opened_of text file medium
  -- another length is 107, before every other check, and nothing is touched
  pub other_call : (length state ≡ state_size → ⊥) → call ≡ bad_state
  pub other_state : (length state ≡ state_size → ⊥) → after ≡ state
