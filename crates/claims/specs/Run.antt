-- Runs (document 01, "Two runs and the last writer"), by `ends` and `log` of any step (laws/specs/Runs.antt). The opening only reads the medium, and is not lent the stage.
-- Assumes nothing.
use Rattle.std.specs.Prelude.{Bool, ◌&&◌, List, ℕ, eqb}
use Rattle.laws.specs.Runs.{ends, log, shown_by, undropped}
use Rattle.codes.specs.Codes.{write_attempted}
use Rattle.state.specs.Open.{opened_of}
use Rattle.header.specs.Form.{with_code}
use Rattle.service.specs.Serve.{Store}
use Rattle.header.specs.Sent.{Request, form_of, refused_by_level}
use Rattle.dispatch.specs.Request.{Point, point, Outcome, call_number, handled}

-- "A reply is the call's number and the whole buffer afterwards"
pub record Reply : Type 0 where
  pub call : ℕ
  pub buffer : List ℕ

-- of what a call left
abbrev pub reply_of : Outcome → Reply
reply_of o = record { call = o.call; buffer = o.buffer }

-- a request as sent, and its reply
pub record Exchange : Type 0 where
  pub sent : Request
  pub reply : Reply

-- the same, and whether it was denied when it came
pub record Entry : Type 0 where
  pub exchange : Exchange
  pub denied : Bool

-- "A request is denied if it passes all before the level and its need is above it"
unfoldable pub denied : Point → Request → Bool
denied p r = eqb (call_number p r) 0 && refused_by_level p.state.level r

-- ---- a run

-- "Each request gets the state that the call before it returned and the medium as that call left it"; the stage is "handed on from call to call like
-- the medium" (W-207)
abbrev pub step : Point → Request → Point
step p r = (handled p r).point

-- what is noted of it
abbrev pub exchange_of : Request → Outcome → Exchange
exchange_of r o = record { sent = r; reply = reply_of o }

abbrev pub entry_of : Point → Request → Entry
entry_of p r = record { exchange = exchange_of r (handled p r); denied = denied p r }

-- what a run leaves: where it ends, and its requests and replies in order
pub record End : Type 0 where
  pub point : Point
  pub log : List Entry

-- "a list of requests in order: none, one or many, refused ones too"
abbrev pub run : Point → List Request → End
run p requests = record { point = ends step entry_of p requests; log = log step entry_of p requests }

-- "A run is an opening, then a list of requests .., the first from the opening .. Where the opening refuses, the zero state goes on"
abbrev pub opened_at : List ℕ → List ℕ → Store → Point
opened_at text file store = point (opened_of text file store.medium).state store

abbrev pub whole_run : List ℕ → List ℕ → Store → List Request → End
whole_run text file store requests = run (opened_at text file store) requests

-- ---- the parts of a log

-- requests and replies alone
abbrev pub exchanges : List Entry → List Exchange
exchanges = shown_by (λ (e : Entry). e.exchange)

-- the requests
abbrev pub requests_in : List Entry → List Request
requests_in = shown_by (λ (e : Entry). e.exchange.sent)

-- the entries that were not denied: what both runs are given
abbrev pub not_denied : List Entry → List Entry
not_denied = undropped (λ (e : Entry). e.denied)

-- the reply to a denied request: only its return code is changed, and the call's number is 0
abbrev pub denial : Request → Reply
denial r = record { call = 0; buffer = with_code (form_of r) r.buffer write_attempted }
