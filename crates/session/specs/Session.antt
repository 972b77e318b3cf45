-- The run of a session, as bytes (document 01, "Starred cases", its last paragraphs, and "Two runs and the last writer"): the replies in their
-- requests' places, and a record of call numbers and return codes. Assumes nothing.
use Rattle.std.specs.Prelude.{List, [], ◌∷◌, ◌++◌, ℕ, ◌*◌, ◌/◌, length, take, drop}
use Rattle.tally.specs.Record.{line_bytes}
use Rattle.header.specs.Sent.{Request}
use Rattle.service.specs.Serve.{Store}
use Rattle.dispatch.specs.Request.{Point, Outcome, handled}
use Rattle.claims.specs.Run.{Entry, End, exchange_of, run, whole_run}
use Rattle.claims.specs.Lines.{line_of}
use Rattle.frames.specs.declared.Framing.{Framing}
use Rattle.frames.specs.Frames.{prefix_size, behind_first, request_in, requests_of}

-- ---- what a run leaves, as bytes

-- the replies in the requests' places; what stands before each stays
unfoldable pub with_replies : Framing → List Entry → List ℕ → List ℕ
with_replies f [] session = session
with_replies f (e ∷ log) session = take (prefix_size f) session ++ (e.exchange.reply.buffer ++ with_replies f log (behind_first f session))

-- a line for each request: its call number and return code
unfoldable pub record_of : List Entry → List ℕ
record_of [] = []
record_of (e ∷ log) = line_bytes (line_of e.exchange) ++ record_of log

-- the number of requests handled, and what is lent beside the state, the session and the record afterwards
pub record Ran : Type 0 where
  pub count : ℕ
  pub store : Store
  pub session : List ℕ
  pub lines : List ℕ

abbrev pub ran : ℕ → Store → List ℕ → List ℕ → Ran
ran count store session lines = record { count = count; store = store; session = session; lines = lines }

-- a run's end, in a session and a record; what the record has past the requests stays
unfoldable pub shown : Framing → End → List ℕ → List ℕ → Ran
shown f end session lines =
    ran (length end.log) end.point.store (with_replies f end.log session) (record_of end.log ++ drop (8 * length end.log) lines)

-- "A run is an opening, then a list of requests": those of the session, as many as the record has room for. A line is 8 bytes
unfoldable pub session_run : Framing → List ℕ → List ℕ → Store → List ℕ → List ℕ → Ran
session_run f text file store session lines = shown f (whole_run text file store (requests_of f (length lines / 8) session)) session lines

-- the same from a point, with room for so many
unfoldable pub ran_from : Framing → ℕ → Point → List ℕ → List ℕ → Ran
ran_from f room p session lines = shown f (run p (requests_of f room session)) session lines

-- ---- one request of a session, for the contracts below the whole run

-- what one request leaves: the state and what is lent beside it, the bytes that it stands in, and its line of the record
pub record Recorded : Type 0 where
  pub point : Point
  pub bytes : List ℕ
  pub line : List ℕ

abbrev pub records : Point → List ℕ → List ℕ → Recorded
records p bytes line = record { point = p; bytes = bytes; line = line }

-- in a buffer of its own
abbrev pub after_request : Request → Outcome → Recorded
after_request r o = records o.point o.buffer (line_bytes (line_of (exchange_of r o)))

-- behind its prefix
abbrev pub behind_prefix : List ℕ → Recorded → Recorded
behind_prefix prefix x = records x.point (prefix ++ x.bytes) x.line

-- what a request leaves, in the bytes that it stands in
unfoldable pub after_framed : Framing → Point → List ℕ → Recorded
after_framed f p bytes = behind_prefix (take (prefix_size f) bytes) (after_request (request_in f bytes) (handled p (request_in f bytes)))

-- before the rest of a session and of a record
abbrev pub before_rests : List ℕ → List ℕ → Recorded → Recorded
before_rests session lines x = records x.point (x.bytes ++ session) (x.line ++ lines)

-- what the first so many bytes of a session leave, in the whole of it and of a record
unfoldable pub after_first : Framing → ℕ → Point → List ℕ → List ℕ → Recorded
after_first f size p session lines = before_rests (drop size session) (drop 8 lines) (after_framed f p (take size session))

-- the same where they start at an index of the session, and the request's line at one of the record
abbrev pub behind_both : List ℕ → List ℕ → Recorded → Recorded
behind_both session lines x = records x.point (session ++ x.bytes) (lines ++ x.line)

unfoldable pub after_at : Framing → ℕ → ℕ → ℕ → Point → List ℕ → List ℕ → Recorded
after_at f size at line p session lines = behind_both (take at session) (take line lines) (after_first f size p (drop at session) (drop line lines))
