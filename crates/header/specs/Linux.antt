-- The Linux header and its checks (W-201): "the Linux header of 4.2.3.1, 18 bytes and two bytes that are ignored, with the control code, in
-- document 01's numbers, handed in beside the buffer". IOControllerNumber, Timeout and the two bytes are not read.
-- Assumes nothing.
use Rattle.std.specs.Prelude.{Bool, cond, ◌&&◌, ◌||◌, List, ℕ, ◌+◌, eqb, leb, length}
use Rattle.laws.specs.Splice.{part}
use Rattle.codes.specs.Codes.{data_read, data_write, success, bad_control_code, invalid_parameter}
use Rattle.wire.specs.Number.{number}
use Rattle.header.specs.Form.{linux, behind_header}
use Rattle.control_codes.specs.Table.{known, structure_size, data_size}

-- ---- its fields

-- Length
abbrev pub linux_length : List ℕ → ℕ
linux_length buffer = number (part buffer 4 4)

-- Direction, 16 bits
abbrev pub direction : List ℕ → ℕ
direction buffer = number (part buffer 16 2)

-- what stands behind the header
abbrev pub linux_body : List ℕ → List ℕ
linux_body buffer = behind_header linux buffer

-- ---- its checks

-- "A Direction other than the two constants of section 10 is code 3"; it is not held against the control code
unfoldable pub direction_holds : List ℕ → Bool
direction_holds buffer = eqb (direction buffer) data_read || eqb (direction buffer) data_write

-- "Length counting all 20 bytes": at least the header, the structure and its data, and inside the buffer
unfoldable pub linux_length_holds : ℕ → List ℕ → Bool
linux_length_holds code buffer =
    leb (linux.size + (structure_size code + data_size code (linux_body buffer))) (linux_length buffer) && leb (linux_length buffer) (length buffer)

-- Direction "in the place of the HeaderLength check", "without the signature check": the return code of the first that fails, or 0
unfoldable pub linux_code : ℕ → List ℕ → ℕ
linux_code code buffer =
    cond (direction_holds buffer)
    (cond (known code)
    (cond (linux_length_holds code buffer) success invalid_parameter)
    bad_control_code)
    invalid_parameter
