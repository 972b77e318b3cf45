-- The line of a request (document 01, "Starred cases", its last paragraphs): what the program prints and a session's record has of it. Assumes nothing.
use Rattle.std.specs.Prelude.{cond, List, ℕ, eqb}
use Rattle.laws.specs.Runs.{shown_by}
use Rattle.tally.specs.declared.Line.{Line}
use Rattle.tally.specs.Kinds.{line, no_code}
use Rattle.header.specs.Form.{return_code}
use Rattle.header.specs.Sent.{form_of}
use Rattle.claims.specs.Run.{Exchange, Entry}

-- the return code, where the request's own header has it; where the call gives a number none is written
unfoldable pub code_of : Exchange → ℕ
code_of x = cond (eqb x.reply.call 0) (return_code (form_of x.sent) x.reply.buffer) no_code

-- "the call's number, the return code or `-`"
abbrev pub line_of : Exchange → Line
line_of x = line x.reply.call (code_of x)

-- those of a run
abbrev pub lines_of : List Entry → List Line
lines_of = shown_by (λ (e : Entry). line_of e.exchange)
