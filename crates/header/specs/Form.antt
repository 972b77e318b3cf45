-- The form of a header: its size, and where the return code stands in it (document 01, "Request"; W-201). What a handler sees is the body
-- behind it. Assumes nothing.
use Rattle.std.specs.Prelude.{List, ℕ, drop}
use Rattle.laws.specs.Splice.{part, splice}
use Rattle.wire.specs.Number.{number, bytes}

pub record Form : Type 0 where
  pub size : ℕ
  pub place : ℕ

-- "the 28-byte SRB_IO_CONTROL (4.1.3.1); the return code is bytes 20–23"
abbrev pub srb : Form
srb = record { size = 28; place = 20 }

-- "the Linux header of 4.2.3.1, 18 bytes and two bytes that are ignored .. The return code is bytes 8–11"
abbrev pub linux : Form
linux = record { size = 20; place = 8 }

-- what stands behind the header
abbrev pub behind_header : Form → List ℕ → List ℕ
behind_header f buffer = drop f.size buffer

-- the return code that stands there
abbrev pub return_code : Form → List ℕ → ℕ
return_code f buffer = number (part buffer f.place 4)

-- the buffer with its return code written
abbrev pub with_code : Form → List ℕ → ℕ → List ℕ
with_code f buffer code = splice buffer f.place (bytes 4 code)
