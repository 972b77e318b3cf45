-- Below Limited no request under the first header changes a table, a counter, a disk or the stage, whatever it asks, and below Full none but a code 4,
-- which writes firmware and nothing else (Firmware.antt). W-202's reason is part of it: "a read-only account must not wipe evidence of a bad cable".
-- One under the Linux header runs as Full, whatever the level. Assumes nothing.
use Rattle.std.specs.Prelude.{◌≡◌, Bool, true, false, ◌&&◌, not, List, ◌<◌, eqb}
use Rattle.laws.specs.Runs.{undropped}
use Rattle.codes.specs.Codes.{firmware_download}
use Rattle.level.specs.Text.{limited, full}
use Rattle.header.specs.declared.Kind.{Kind}
use Rattle.header.specs.declared.Kind.TheVariants.{Srb, Linux}
use Rattle.header.specs.Sent.{Request, control_of}
use Rattle.dispatch.specs.Request.{Point}
use Rattle.claims.specs.Run.{Entry, End, run}

-- whether it is under the first header, by its kind
abbrev pub first_by : Kind → Bool
first_by Srb = true
first_by (Linux control) = false

abbrev pub under_first : Request → Bool
under_first r = first_by r.kind

-- the same, and no code 4
abbrev pub first_but_firmware : Request → Bool
first_but_firmware r = under_first r && not (eqb (control_of r) firmware_download)

-- a run ends where the run without some of its requests ends, and those that are left get the same replies: the others left no trace
pub record NoTrace (idle : Request → Bool) (whole without : End) : Type 0 where
  pub point : without.point ≡ whole.point
  pub log : without.log ≡ undropped (λ (e : Entry). idle e.exchange.sent) whole.log

abbrev pub LeavesNoTrace : (Request → Bool) → Point → List Request → Type 0
LeavesNoTrace idle p requests = NoTrace idle (run p requests) (run p (undropped idle requests))

-- from any state of such a level, any medium and stage, whichever the requests
pub record ReadOnly : Type 0 where
  pub below_limited : (p : Point) (requests : List Request) → p.state.level.0 < limited.0 → LeavesNoTrace under_first p requests
  pub below_full : (p : Point) (requests : List Request) → p.state.level.0 < full.0 → LeavesNoTrace first_but_firmware p requests
