-- The conversions, under either header, undo each other on accepted rows (document 01, codes 27 and 28), wherever a run from an accepted opening
-- stands: the reply to a 27, fed to a 28, gives the SAS address and LUN back, and the other way. In the body of a 27 the SAS address and LUN are
-- bytes 0–15 and the OS bytes 16–19; in that of a 28 the OS bytes are 0–3 and the others 4–19. Assumes nothing.
use Rattle.std.specs.Prelude.{◌≡◌, true, List, ℕ, ◌≤◌, length}
use Rattle.laws.specs.Splice.{part}
use Rattle.codes.specs.Codes.{success, get_scsi_address, get_device_address}
use Rattle.state.specs.Open.{opened_of}
use Rattle.service.specs.Serve.{Store}
use Rattle.header.specs.Sent.{Request, form_of, control_of, body_of, checks_code}
use Rattle.dispatch.specs.Request.{Point, Outcome, handled}
use Rattle.claims.specs.Run.{exchange_of, step, whole_run}
use Rattle.claims.specs.LastWriter.{granted, told_by}

-- a request of one code that passes the checks up to the level
pub record Sound (p : Point) (r : Request) (control : ℕ) : Type 0 where
  pub long : (form_of r).size ≤ length r.buffer
  pub coded : control_of r ≡ control
  pub passes : checks_code p.state.level r ≡ success

-- ---- what the reply shows

-- the reply's body
abbrev pub body_shown : Request → Outcome → List ℕ
body_shown r o = (told_by (exchange_of r o)).reply

abbrev pub grants : Request → Outcome → Type 0
grants r o = granted (exchange_of r o) ≡ true

-- ---- both ways

-- one request and then the other
pub record RoundTrip (p : Point) : Type 0 where
  -- the OS bytes that the reply to a 27 shows, sent as a 28 where the 27 left state, medium and stage, give the SAS address and LUN back
  pub sas : (q r : Request) → Sound p q get_scsi_address → Sound p r get_device_address → grants q (handled p q)
      → part (body_of r) 0 4 ≡ part (body_shown q (handled p q)) 16 4
      → grants r (handled (step p q) r) × (part (body_shown r (handled (step p q) r)) 4 16 ≡ part (body_of q) 0 16)
  -- the SAS address and LUN that the reply to a 28 shows, sent as a 27, give the OS bytes back
  pub os : (q r : Request) → Sound p q get_device_address → Sound p r get_scsi_address → grants q (handled p q)
      → part (body_of r) 0 16 ≡ part (body_shown q (handled p q)) 4 16
      → grants r (handled (step p q) r) × (part (body_shown r (handled (step p q) r)) 16 4 ≡ part (body_of q) 0 4)

-- after an opening that accepts and any list of requests
abbrev pub ConversionsClaim : Type 0
ConversionsClaim =
    (text file : List ℕ) (store : Store) → (opened_of text file store.medium).call ≡ 0 → (requests : List Request) → RoundTrip (whole_run text file store requests).point
