-- One request, under either header (document 01, "Request", "From the input", "From the state"; W-201, W-207): the call's number, the state, what is lent
-- beside it and the buffer that it leaves, after refusals as after success. Assumes nothing.
use Rattle.std.specs.Prelude.{◌≡◌, cond, List, ◌++◌, ℕ, eqb, ltb, length, take}
use Rattle.codes.specs.Codes.{success, short_buffer, bad_medium_length, bad_state}
use Rattle.level.specs.declared.Level.{Level}
use Rattle.state.specs.State.{State, state_with, state_size, state_of, state_holds}
use Rattle.adapter.specs.Adapter.{Adapter, medium_size}
use Rattle.header.specs.declared.Kind.{Kind}
use Rattle.header.specs.Form.{Form, with_code}
use Rattle.header.specs.Sent.{Request, sent, form_of, control_of, body_of, checks_code}
use Rattle.firmware.specs.Firmware.{stage_size}
use Rattle.service.specs.Serve.{Store, Served, served}

-- ---- where it is sent to, and what it leaves

-- the state, and what is lent beside it and written
pub record Point : Type 0 where
  pub state : State
  pub store : Store

abbrev pub point : State → Store → Point
point s store = record { state = s; store = store }

-- what a call leaves
pub record Outcome : Type 0 where
  pub call : ℕ
  pub point : Point
  pub buffer : List ℕ

abbrev pub outcome : ℕ → Point → List ℕ → Outcome
outcome call p buffer = record { call = call; point = p; buffer = buffer }

-- ---- the call's number

-- of a stage: "106 if the stage has another length; this comes straight after the medium length" (W-207)
unfoldable pub stage_number : ℕ → ℕ
stage_number stage = cond (eqb stage stage_size) 0 bad_medium_length

-- "state; medium length", and the stage's: the call's number of the first that fails, or 0. Nothing of the request is looked at
unfoldable pub state_number : State → ℕ → ℕ → ℕ
state_number s medium stage = cond (state_holds s) (cond (eqb (medium_size s.adapter) medium) (stage_number stage) bad_medium_length) bad_state

abbrev pub point_number : Point → ℕ
point_number p = state_number p.state (length p.store.medium) (length p.store.stage)

-- "buffer of 28 bytes", or of the 20 of the Linux header, where the number of the checks before it is 0
unfoldable pub buffer_number : Form → ℕ → ℕ → ℕ
buffer_number f number buffer = cond (eqb number 0) (cond (ltb buffer f.size) short_buffer 0) number

-- "state; medium length", the stage's; "buffer" under the size of its header
abbrev pub call_number : Point → Request → ℕ
call_number p r = buffer_number (form_of r) (point_number p) (length r.buffer)

-- "with any other [number], buffer, state and medium are untouched", and the stage
abbrev pub untouched : ℕ → Point → Request → Outcome
untouched call p r = outcome call p r.buffer

-- ---- the return code and the effect

-- the return code, the tables and counters, what is stored beside them, and the buffer before its return code is written
pub record Pending : Type 0 where
  pub code : ℕ
  pub adapter : Adapter
  pub store : Store
  pub buffer : List ℕ

abbrev pub pending : ℕ → Adapter → Store → List ℕ → Pending
pending code ad store buffer = record { code = code; adapter = ad; store = store; buffer = buffer }

-- the body back behind its header
abbrev pub in_buffer : Request → Served → Pending
in_buffer r s = pending s.code s.adapter s.store (take (form_of r).size r.buffer ++ s.body)

-- a request that is served
abbrev pub served_request : Adapter → Store → Request → Pending
served_request ad store r = in_buffer r (served ad store (control_of r) (body_of r))

-- a request that a check up to the level refuses: nothing is changed but the code, which is still to be written
abbrev pub refused_request : ℕ → Adapter → Store → Request → Pending
refused_request code ad store r = pending code ad store r.buffer

-- "then the code's own checks", where the checks up to the level gave 0; else their code
unfoldable pub answered : Adapter → Store → Request → ℕ → Pending
answered ad store r code = cond (eqb code success) (served_request ad store r) (refused_request code ad store r)

-- the return code in its place, and "The call's number is 0 when a return code is written"
abbrev pub replied : Form → Level → Pending → Outcome
replied f level a = outcome 0 (point (state_with level a.adapter) a.store) (with_code f a.buffer a.code)

-- a buffer with room for its header: the checks on the header and from there on, and the return code written
unfoldable pub answered_at : Point → Request → Outcome
answered_at p r = replied (form_of r) p.state.level (answered p.state.adapter p.store r (checks_code p.state.level r))

-- "Checks, in order: state; medium length; .."
unfoldable pub handled : Point → Request → Outcome
handled p r = cond (eqb (call_number p r) 0) (answered_at p r) (untouched (call_number p r) p r)

-- ---- the call

-- of a request under either header, on a state that is lent as bytes: its number, and the bytes of the state, what is stored beside it and the buffer
-- afterwards
pub record RequestCall (kind : Kind) (state : List ℕ) (store : Store) (buffer : List ℕ) (call : ℕ) (state' : List ℕ) (store' : Store) (buffer' : List ℕ) : Type 0 where
  pub size : length state' ≡ length state
  pub whole : length state ≡ state_size → outcome call (point (state_of state') store') buffer' ≡ handled (point (state_of state) store) (sent kind buffer)
  -- another length is 107, before every other check, and nothing is touched
  pub other_call : (length state ≡ state_size → ⊥) → call ≡ bad_state
  pub other_state : (length state ≡ state_size → ⊥) → state' ≡ state
  pub other_store : (length state ≡ state_size → ⊥) → store' ≡ store
  pub other_buffer : (length state ≡ state_size → ⊥) → buffer' ≡ buffer
