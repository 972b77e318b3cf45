-- The tally of a record, by the bytes of its lines, and the totals as bytes (W-206). Assumes nothing.
use Rattle.std.specs.Prelude.{cond, List, ◌++◌, ℕ, ◌+◌, ◌*◌, ◌/◌, ltb, length}
use Rattle.laws.specs.Fill.{list_to}
use Rattle.laws.specs.Splice.{part, splice}
use Rattle.wire.specs.Number.{number, bytes}
use Rattle.codes.specs.Codes.{short_buffer}
use Rattle.tally.specs.declared.Line.{Line}
use Rattle.tally.specs.Kinds.{line}
use Rattle.tally.specs.Totals.{Totals, tally_of}

-- ---- lines

-- a line as bytes: the call's number, the return code
abbrev pub line_bytes : Line → List ℕ
line_bytes l = bytes 4 l.call ++ bytes 4 l.code

-- line k of a record
abbrev pub line_at : List ℕ → ℕ → Line
line_at lines k = line (number (part lines (8 * k) 4)) (number (part lines (8 * k + 4) 4))

-- its lines. A rest under 8 bytes is none
unfoldable pub lines_in : List ℕ → List Line
lines_in lines = list_to (line_at lines) (length lines / 8)

-- ---- totals

-- the last three, as bytes
abbrev pub refused_bytes : Totals → List ℕ
refused_bytes t = bytes 8 t.denied ++ (bytes 8 t.otherwise ++ bytes 8 t.short)

-- all five: 64 bits each, in the order of the line `total`
abbrev pub totals_bytes : Totals → List ℕ
totals_bytes t = bytes 8 t.requests ++ (bytes 8 t.granted ++ refused_bytes t)

-- the call's number, and the bytes lent for the totals afterwards
pub record Wrote : Type 0 where
  pub call : ℕ
  pub totals : List ℕ

abbrev pub wrote : ℕ → List ℕ → Wrote
wrote call totals = record { call = call; totals = totals }

-- under 40 bytes are too few for them, and stay; those past 40 stay too
unfoldable pub tallied : List ℕ → List ℕ → Wrote
tallied lines lent =
    cond (ltb (length lent) 40) (wrote short_buffer lent) (wrote 0 (splice lent 0 (totals_bytes (tally_of (lines_in lines)))))
