-- What stands before each request of a session. In the program's format that is its length (document 01, "Starred cases", its last paragraphs); in
-- a session of both headers (W-201) it is which header the request has, its control code and its length. The program's limit of 32,768 bytes for a request
-- is not the library's, which has each request in memory already. Assumes nothing.
use Rattle.std.specs.Prelude.{Option, Some, None, Bool, cond, List, [], ◌∷◌, ℕ, zero, suc, ◌+◌, eqb, leb, length, take, drop}
use Rattle.laws.specs.Splice.{part}
use Rattle.wire.specs.Number.{number}
use Rattle.header.specs.declared.Kind.{Kind}
use Rattle.header.specs.declared.Kind.TheVariants.{Srb, Linux}
use Rattle.header.specs.Sent.{Request, sent}
use Rattle.frames.specs.declared.Framing.{Framing}
use Rattle.frames.specs.declared.Framing.TheVariants.{FirstHeader, BothHeaders}
use Rattle.frames.specs.declared.Prefix.{Prefix}

-- ---- before a request

-- the bytes before its own
abbrev pub prefix_size : Framing → ℕ
prefix_size FirstHeader = 4
prefix_size BothHeaders = 12

abbrev pub prefixed : ℕ → ℕ → ℕ → Prefix
prefixed header control length = record { header = header; control = control; length = length }

-- "each request a 4-byte length"; or its header, its control code and its length
abbrev pub prefix_of : Framing → List ℕ → Prefix
prefix_of FirstHeader session = prefixed 0 0 (number (part session 0 4))
prefix_of BothHeaders session = prefixed (number (part session 0 4)) (number (part session 4 4)) (number (part session 8 4))

-- it says a header: 0, the first, beside which no control code stands since that header has it, or 1, the Linux header
unfoldable pub says_kind : Prefix → Bool
says_kind x = cond (eqb x.header 0) (eqb x.control 0) (eqb x.header 1)

-- which of the two
unfoldable pub kind_of : Prefix → Kind
kind_of x = cond (eqb x.header 0) Srb (Linux x.control)

-- ---- the first request of a session

-- the bytes that it says it stands in, with what is before it
abbrev pub said_size : Framing → List ℕ → ℕ
said_size f session = prefix_size f + (prefix_of f session).length

-- those that it stands in; 0 for "a short .. last one" and for one that says no header: this "ends it"
unfoldable pub first_size : Framing → List ℕ → ℕ
first_size f session =
    cond (leb (prefix_size f) (length session))
    (cond (says_kind (prefix_of f session)) (cond (leb (said_size f session) (length session)) (said_size f session) 0) 0)
    0

-- the same as it is answered: none where they are 0
abbrev pub first_said : Option ℕ → ℕ
first_said None = 0
first_said (Some size) = size

abbrev pub first_of : Framing → List ℕ → List ℕ
first_of f session = take (first_size f session) session

abbrev pub behind_first : Framing → List ℕ → List ℕ
behind_first f session = drop (first_size f session) session

-- ---- the requests

-- the one that stands in some bytes, behind its prefix
abbrev pub request_in : Framing → List ℕ → Request
request_in f bytes = sent (kind_of (prefix_of f bytes)) (drop (prefix_size f) bytes)

-- those of a session, at most so many
unfoldable pub requests_of : Framing → ℕ → List ℕ → List Request
requests_of f zero session = []
requests_of f (suc room) session = cond (eqb (first_size f session) 0) [] (request_in f (first_of f session) ∷ requests_of f room (behind_first f session))
