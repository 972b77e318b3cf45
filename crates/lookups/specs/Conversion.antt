-- The two conversions (document 01, "Request", codes 27 and 28). Assumes nothing.
use Rattle.std.specs.Prelude.{cond, List, ℕ, ltb}
use Rattle.laws.specs.Splice.{part, splice}
use Rattle.rows.specs.Row.{Row, row_at}
use Rattle.reports.specs.Report.{Report, report, filled}

-- a row looked up by the body's first n bytes: where one was found, below a, what it gives goes behind them; where not, the code is `none`
unfoldable pub converted : (List Row → ℕ → List ℕ → ℕ) → (Row → List ℕ) → ℕ → ℕ → List Row → ℕ → List ℕ → Report
converted index bytes n none rows a body =
    let i : ℕ = index rows a (part body 0 n) in
    cond (ltb i a) (filled (splice body n (bytes (row_at rows i)))) (report none body)
