-- Firmware (W-207): what code 4 writes, and that nothing else writes it, by the requests as sent and their replies; that no request reads the stage,
-- a commit neither; and that an opening leaves nothing staged. Assumes nothing.
use Rattle.std.specs.Prelude.{◌≡◌, true, cond, ◌&&◌, List, ℕ, eqb, length}
use Rattle.laws.specs.Runs.{fold}
use Rattle.laws.specs.Splice.{splice}
use Rattle.codes.specs.Codes.{firmware_download}
use Rattle.download.specs.Body.{validates, image_of}
use Rattle.adapter.specs.Staged.{Staged, image_staged, nothing_staged, running_with}
use Rattle.adapter.specs.Adapter.{with_firmware}
use Rattle.firmware.specs.Firmware.{buffer_length_holds, image_sound, acknowledged, revisions_of}
use Rattle.state.specs.State.{State, state_with}
use Rattle.state.specs.Open.{opened_of}
use Rattle.service.specs.Serve.{store_of, with_stage}
use Rattle.header.specs.Sent.{Request, control_of, body_of}
use Rattle.dispatch.specs.Request.{Point, point, Outcome, handled}
use Rattle.claims.specs.Run.{Exchange, exchange_of, step, run, exchanges}
use Rattle.claims.specs.LastWriter.{Told, told_by}

-- ---- what is written

-- the stage, what is staged, and the controller's configuration, in which the running revisions stand
pub record Firmware : Type 0 where
  pub stage : List ℕ
  pub staged : Staged
  pub controller : List ℕ

abbrev pub firmware_at : Point → Firmware
firmware_at p = record { stage = p.store.stage; staged = p.state.adapter.staged; controller = p.state.adapter.controller }

-- the same point with other firmware: every phy, row, counter and disk as it was
abbrev pub with_firmware_at : Point → Firmware → Point
with_firmware_at p f = point (state_with p.state.level (with_firmware p.state.adapter f.controller f.staged)) (with_stage p.store f.stage)

-- "copied to the start of a lent stage .., and the state holds that, with its revisions": the rest of the stage, and what runs, stay
abbrev pub after_validation : Firmware → List ℕ → Firmware
after_validation f body = record { stage = splice f.stage 0 (image_of body); staged = image_staged (revisions_of body); controller = f.controller }

-- "the staged image becomes the running one", with its revisions; "A commit leaves nothing staged"
abbrev pub after_commit : Firmware → Firmware
after_commit f = record { stage = f.stage; staged = nothing_staged; controller = running_with f.controller f.staged.revisions }

-- what is there after one exchange, by what was there before
unfoldable pub firmware_after : Told → Firmware → Firmware
firmware_after t f = cond (t.granted && eqb t.control firmware_download) (cond (validates t.body) (after_validation f t.body) (after_commit f)) f

-- ---- what is asked, and the reply

-- of a code 4: granted, it has a length that is taken, and with the flag an image whose blocks have their checks, or without it an image is staged; its reply's body
-- is the request's with status and severity at 0, and refused it is the request's
pub record FirmwareReply (p : Point) (r : Request) (t : Told) : Type 0 where
  pub asked : t.granted ≡ true
      → (buffer_length_holds (body_of r) ≡ true) × (cond (validates (body_of r)) (image_sound (body_of r)) (eqb p.state.adapter.staged.flag 1) ≡ true)
  pub body : t.reply ≡ cond t.granted (acknowledged t.body) t.body

-- ---- what is not read

-- the same but for the stage
pub record SameButStage (o p : Outcome) : Type 0 where
  pub call : o.call ≡ p.call
  pub state : o.point.state ≡ p.point.state
  pub medium : o.point.store.medium ≡ p.point.store.medium
  pub buffer : o.buffer ≡ p.buffer

-- ---- the claim

pub record FirmwareClaim : Type 0 where
  -- from any state, medium and stage, of every request under either header, refused ones too: a granted code 4 writes it, and nothing else does. So
  -- "only a granted validation changes" the stage
  pub written : (p : Point) (r : Request) → firmware_at (step p r) ≡ firmware_after (told_by (exchange_of r (handled p r))) (firmware_at p)
  -- and a code 4 writes nothing else
  pub only : (p : Point) (r : Request) → control_of r ≡ firmware_download → step p r ≡ with_firmware_at p (firmware_at (step p r))
  -- what it asks, and what it answers
  pub replied : (p : Point) (r : Request) → control_of r ≡ firmware_download → FirmwareReply p r (told_by (exchange_of r (handled p r)))
  -- over whole lists of requests
  pub runs : (p : Point) (requests : List Request)
      → firmware_at (run p requests).point ≡ fold (λ (x : Exchange). firmware_after (told_by x)) (firmware_at p) (exchanges (run p requests).log)
  -- "doesn't read the stage": whatever a request is answered and does, a commit too, it is the same with any other stage of that length
  pub unread : (s : State) (medium stage other : List ℕ) (r : Request) → length stage ≡ length other
      → SameButStage (handled (point s (store_of medium stage)) r) (handled (point s (store_of medium other)) r)
  -- "leaves nothing staged, as an opening does", accepted or refused
  pub opening : (text file medium : List ℕ) → (opened_of text file medium).state.adapter.staged ≡ nothing_staged
