-- The body of a code 4, firmware download (6.4): where its fields stand, each said once. Assumes nothing.
use Rattle.std.specs.Prelude.{Bool, List, ℕ, ◌%◌, eqb}
use Rattle.laws.specs.Splice.{part}
use Rattle.wire.specs.Number.{number}

-- uBufferLength
abbrev pub buffer_length : List ℕ → ℕ
buffer_length body = number (part body 0 4)

-- uDownloadFlags
abbrev pub download_flags : List ℕ → ℕ
download_flags body = number (part body 4 4)

-- "the validate flag", CSMI_SAS_FWD_VALIDATE, is bit 0; "other flags are not read"
unfoldable pub validates : List ℕ → Bool
validates body = eqb (download_flags body % 2) 1

-- usStatus, and usSeverity behind it
abbrev pub download_status_place : ℕ
download_status_place = 40

-- bDataBuffer, behind the structure
abbrev pub image_place : ℕ
image_place = 44

-- "the image": the bytes of bDataBuffer
abbrev pub image_of : List ℕ → List ℕ
image_of body = part body image_place (buffer_length body)
