-- The two headers, one simulator (W-201): "on the same adapter and medium, a request passing its header's checks gets the same return code, body,
-- medium and state (but the level) as one with the same code and body that passes the other header's checks, at Full". And neither header shuts a
-- request out. Assumes nothing.
use Rattle.std.specs.Prelude.{◌≡◌, true, cond, List, ◌++◌, ℕ, ◌+◌, ◌<◌, ◌≤◌, length}
use Rattle.laws.specs.Clear.{zeros}
use Rattle.codes.specs.Codes.{success}
use Rattle.wire.specs.Number.{bytes}
use Rattle.level.specs.declared.Level.{Level}
use Rattle.level.specs.Text.{full}
use Rattle.adapter.specs.Adapter.{Adapter}
use Rattle.state.specs.State.{state_with}
use Rattle.header.specs.declared.Kind.TheVariants.{Srb, Linux}
use Rattle.header.specs.Form.{srb, linux, behind_header, return_code}
use Rattle.control_codes.specs.Table.{known, structure_size, data_size, signed_all, csmi_all, csmi_sas}
use Rattle.header.specs.Sent.{Request, sent, form_of, control_of, body_of, header_code}
use Rattle.service.specs.Serve.{Store}
use Rattle.dispatch.specs.Request.{Point, point, Outcome, point_number, handled}

-- "passing its header's checks": all the checks before the level, the code and Length too
pub record PastHeader (r : Request) : Type 0 where
  pub long : (form_of r).size ≤ length r.buffer
  pub checked : header_code r ≡ success

-- "the same code and body"; their Lengths need not agree
pub record Twins (q r : Request) : Type 0 where
  pub control : control_of q ≡ control_of r
  pub body : body_of q ≡ body_of r

-- "gets the same return code, body, medium and state (but the level)", and the same stage: both are answered, each with its return code at its own place
pub record SameAnswer (q r : Request) (o p : Outcome) : Type 0 where
  pub answered : (o.call ≡ 0) × (p.call ≡ 0)
  pub code : return_code (form_of q) o.buffer ≡ return_code (form_of r) p.buffer
  pub body : behind_header (form_of q) o.buffer ≡ behind_header (form_of r) p.buffer
  pub store : o.point.store ≡ p.point.store
  pub adapter : o.point.state.adapter ≡ p.point.state.adapter

-- the same adapter, medium and stage, at a level
abbrev pub at_level : Level → Adapter → Store → Point
at_level level ad store = point (state_with level ad) store

-- the Linux request in a state of any level that passes the checks of state, medium and stage, and so of 0 to 3; the other at Full, which then passes
-- them too
abbrev pub Sameness : Type 0
Sameness =
    (level : Level) (ad : Adapter) (store : Store) (control : ℕ) (linux_buffer srb_buffer : List ℕ)
    → let q = sent (Linux control) linux_buffer in
    let r = sent Srb srb_buffer in
    point_number (at_level level ad store) ≡ 0 → PastHeader q → PastHeader r → Twins q r
    → SameAnswer q r (handled (at_level level ad store) q) (handled (at_level full ad store) r)

-- ---- neither header shuts a request out

-- a first header before n bytes: HeaderLength, Signature, Timeout, ControlCode, ReturnCode, Length
abbrev pub srb_header : ℕ → ℕ → List ℕ
srb_header control n =
    bytes 4 srb.size ++ (cond (signed_all control) csmi_all csmi_sas ++ (zeros 4 ++ (bytes 4 control ++ (zeros 4 ++ bytes 4 n))))

-- a Linux one: IOControllerNumber, Length, and zeros, of which Direction are two
abbrev pub linux_header : ℕ → List ℕ
linux_header n = zeros 4 ++ (bytes 4 (linux.size + n) ++ zeros 12)

-- a request of each kind with this code and body, both past their header's checks
pub record TwinsPast (control : ℕ) (body : List ℕ) : Type 0 where
  pub srb : PastHeader (sent Srb (srb_header control (length body) ++ body))
  pub linux : PastHeader (sent (Linux control) (linux_header (length body) ++ body))
  pub twins : Twins (sent (Linux control) (linux_header (length body) ++ body)) (sent Srb (srb_header control (length body) ++ body))

-- of every code that is served and every body that has its structure and its data, as long as a Length can say it
abbrev pub PastBoth : Type 0
PastBoth =
    (control : ℕ) (body : List ℕ) → known control ≡ true → control < 4294967296 → structure_size control + data_size control body ≤ length body
    → linux.size + length body < 4294967296 → TwinsPast control body
