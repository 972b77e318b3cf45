-- The tally of the record that a session's run left (W-206): its totals are those of the run, of which `ClosingTally` of `claims` speaks. Assumes nothing.
use Rattle.std.specs.Prelude.{◌≡◌, List, ℕ, ◌*◌, ◌/◌, length, take}
use Rattle.tally.specs.Totals.{tally_of}
use Rattle.tally.specs.Record.{lines_in}
use Rattle.service.specs.Serve.{Store}
use Rattle.claims.specs.Run.{whole_run}
use Rattle.claims.specs.ClosingTally.{totals_of}
use Rattle.frames.specs.declared.Framing.{Framing}
use Rattle.frames.specs.Frames.{requests_of}
use Rattle.session.specs.Session.{Ran, session_run}

-- the lines of the requests that were handled: a cut request has none, and what the record has past them is the caller's
abbrev pub handled_lines : Ran → List ℕ
handled_lines r = take (8 * r.count) r.lines

abbrev pub SessionTally : Type 0
SessionTally =
    (f : Framing) (text file : List ℕ) (store : Store) (session lines : List ℕ)
    → tally_of (lines_in (handled_lines (session_run f text file store session lines)))
    ≡ totals_of (whole_run text file store (requests_of f (length lines / 8) session))
