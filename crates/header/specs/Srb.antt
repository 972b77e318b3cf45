-- The first header and its checks before the level (document 01, "Request"): "A buffer starts with the 28-byte SRB_IO_CONTROL (4.1.3.1)".
-- Assumes nothing.
use Rattle.std.specs.Prelude.{Bool, cond, ◌&&◌, List, ℕ, ◌+◌, eqb, leb, length}
use Rattle.laws.specs.Splice.{part}
use Rattle.codes.specs.Codes.{success, bad_control_code, invalid_parameter}
use Rattle.wire.specs.Number.{number}
use Rattle.wire.specs.Same.{same_bytes}
use Rattle.header.specs.Form.{srb, behind_header}
use Rattle.control_codes.specs.Table.{known, structure_size, data_size, signed_all, csmi_all, csmi_sas}

-- ---- its fields

-- HeaderLength
abbrev pub header_length : List ℕ → ℕ
header_length buffer = number (part buffer 0 4)

-- Signature
abbrev pub signature : List ℕ → List ℕ
signature buffer = part buffer 4 8

-- ControlCode
abbrev pub control_code : List ℕ → ℕ
control_code buffer = number (part buffer 16 4)

-- Length
abbrev pub length_field : List ℕ → ℕ
length_field buffer = number (part buffer 24 4)

-- what stands behind the header
abbrev pub srb_body : List ℕ → List ℕ
srb_body buffer = behind_header srb buffer

-- ---- its checks

-- "signature (CSMIALL for code 1, CSMISAS for the rest, then a zero byte)"; CSMIALL for 2, 3 and 4 too (`signed_all`)
unfoldable pub signature_holds : ℕ → List ℕ → Bool
signature_holds code buffer = cond (signed_all code) (same_bytes (signature buffer) csmi_all) (same_bytes (signature buffer) csmi_sas)

-- "Length at least the structure's size without header (for 25: without bDataBuffer, plus uDataLength) and 28 + Length inside the
-- buffer", which is Length inside the body; for 4 "Length counts" its bytes too (`data_size`)
unfoldable pub length_holds : ℕ → ℕ → List ℕ → Bool
length_holds code n body = leb (structure_size code + data_size code body) n && leb n (length body)

-- "code known; signature ..; Length ..": the return code of the first that fails, or 0
unfoldable pub code_checked : ℕ → List ℕ → ℕ
code_checked code buffer =
    cond (known code)
    (cond (signature_holds code buffer)
    (cond (length_holds code (length_field buffer) (srb_body buffer)) success invalid_parameter)
    bad_control_code)
    bad_control_code

-- "HeaderLength 28", and then those
unfoldable pub srb_code : List ℕ → ℕ
srb_code buffer = cond (eqb (header_length buffer) srb.size) (code_checked (control_code buffer) buffer) invalid_parameter
