-- The lines of a session's record are those of its run. Assumes nothing.
use mathlib.Core.Path.{◌≡◌, refl, ◌∙◌, ap}
use mathlib.Core.List.{List, [], ◌∷◌}
use Prim.Native.Nat.{ℕ, ◌*◌, ◌/◌}
use native.Mathlib.Omega.{arith}
use lib.ListN.{length, drop, length-append}
use lib.Seq.{take_at}
use Rattle.laws.specs.Cases.{All}
use Rattle.laws.specs.Fill.{list_to}
use Rattle.laws.specs.Runs.{log, shown_by}
use Rattle.tally.specs.declared.Line.{Line}
use Rattle.tally.specs.Totals.{tally_of}
use Rattle.tally.specs.Record.{line_bytes, lines_in}
use Rattle.tally.proofs.RecordLaws.{Fits, length_line, lines_more}
use Rattle.header.specs.Sent.{Request}
use Rattle.dispatch.specs.Request.{Point}
use Rattle.claims.specs.Run.{Entry, step, run, whole_run, opened_at}
use Rattle.claims.specs.Lines.{line_of, lines_of}
use Rattle.claims.proofs.Lines.{line_fits}
use Rattle.frames.specs.Frames.{requests_of}
use Rattle.session.specs.Session.{record_of, shown, session_run}
use Rattle.session.specs.SessionTally.{SessionTally}

abbrev AllFit : List Entry → Type 0
AllFit = All (λ (e : Entry). Fits (line_of e.exchange))

all_fit : (p : Point) (requests : List Request) → AllFit (run p requests).log
unfolding log
all_fit p [] = tt
all_fit p (r ∷ rs) = (line_fits p r, all_fit (step p r) rs)

length_record : (entries : List Entry) → length (record_of entries) ≡ 8 * length entries
unfolding record_of
length_record [] = refl
length_record (e ∷ entries) =
    length-append (line_bytes (line_of e.exchange)) (record_of entries) ∙ rw (length_line (line_of e.exchange), length_record entries) (omega arith)

record_lines : (entries : List Entry) → AllFit entries → lines_in (record_of entries) ≡ lines_of entries
unfolding record_of shown_by lines_in list_to
record_lines [] h = refl
record_lines (e ∷ entries) h =
    lines_more (line_of e.exchange) (record_of entries) (length entries) h.0 (length_record entries)
    ∙ ap (λ (lines : List Line). line_of e.exchange ∷ lines) (record_lines entries h.1)

pub session_tally : SessionTally
unfolding session_run shown
session_tally f text file store session lines =
    let requests : List Request = requests_of f (length lines / 8) session in
    let entries : List Entry = (whole_run text file store requests).log in
    ap (λ (l : List ℕ). tally_of (lines_in l)) (take_at (record_of entries) (drop (8 * length entries) lines) (8 * length entries) (length_record entries))
    ∙ ap tally_of (record_lines entries (all_fit (opened_at text file store) requests))
