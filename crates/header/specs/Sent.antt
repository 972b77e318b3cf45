-- A request as it is sent, under either header, and its checks up to the level (document 01, "Request"; W-201). What stands above asks it for
-- its form, its control code and its body, and for the codes of its checks. Assumes nothing.
use Rattle.std.specs.Prelude.{Bool, cond, ◌&&◌, List, ℕ, ◌+◌, ◌≤◌, eqb, ltb, length}
use Rattle.codes.specs.Codes.{success, write_attempted}
use Rattle.level.specs.declared.Level.{Level}
use Rattle.level.specs.Text.{full}
use Rattle.header.specs.declared.Kind.{Kind}
use Rattle.header.specs.declared.Kind.TheVariants.{Srb, Linux}
use Rattle.header.specs.Form.{Form, srb, linux, behind_header}
use Rattle.control_codes.specs.Table.{structure_size, data_size, need}
use Rattle.header.specs.Srb.{control_code, srb_code}
use Rattle.header.specs.Linux.{linux_code}

-- a buffer, and which header it starts with. The first header has the control code in it; of the Linux one it is "handed in beside the
-- buffer", and is part of the kind
pub record Request : Type 0 where
  pub kind : Kind
  pub buffer : List ℕ

abbrev pub sent : Kind → List ℕ → Request
sent kind buffer = record { kind = kind; buffer = buffer }

-- ---- by its kind

-- the header's form
abbrev pub form_by : Kind → Form
form_by Srb = srb
form_by (Linux control) = linux

-- the control code
abbrev pub control_by : Kind → List ℕ → ℕ
control_by Srb buffer = control_code buffer
control_by (Linux control) buffer = control

-- the return code of the header's checks, all before the level, or 0
abbrev pub code_by : Kind → List ℕ → ℕ
code_by Srb buffer = srb_code buffer
code_by (Linux control) buffer = linux_code control buffer

-- the level that it is held to: "Section 5.2 leaves protection to the root account, so these run as Full whatever the text says"
abbrev pub level_by : Kind → Level → Level
level_by Srb level = level
level_by (Linux control) level = full

-- ---- of the request

abbrev pub form_of : Request → Form
form_of r = form_by r.kind

abbrev pub control_of : Request → ℕ
control_of r = control_by r.kind r.buffer

-- the body behind the header
abbrev pub body_of : Request → List ℕ
body_of r = behind_header (form_of r) r.buffer

-- its structure and its data are there
abbrev pub HasStructure : Request → Type 0
HasStructure r = structure_size (control_of r) + data_size (control_of r) (body_of r) ≤ length (body_of r)

-- ---- its checks

-- of its header, before the level
abbrev pub header_code : Request → ℕ
header_code r = code_by r.kind r.buffer

-- "its need is above it"
unfoldable pub above : Level → Request → Bool
above level r = ltb (level_by r.kind level).0 (need (control_of r) (body_of r)).0

-- "passes all before the level and its need is above it", of the header's checks
unfoldable pub refused_by_level : Level → Request → Bool
refused_by_level level r = eqb (header_code r) success && above level r

-- "level": 4 where "its need is above it"; else what the checks before it gave
unfoldable pub checks_code : Level → Request → ℕ
checks_code level r = cond (eqb (header_code r) success) (cond (above level r) write_attempted success) (header_code r)
