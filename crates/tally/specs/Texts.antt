-- The lines that are printed (document 01, "Starred cases", its last paragraphs). Assumes nothing.
use Rattle.std.specs.Prelude.{List, ◌++◌, ℕ, cond, eqb, codes}
use Rattle.std.specs.Fmt.{decimal}
use Rattle.tally.specs.declared.Line.{Line}
use Rattle.tally.specs.Totals.{Totals}

-- the call's number, and "the return code or `-`"
abbrev pub line_text : Line → List ℕ
line_text l = decimal l.call ++ (codes " " ++ cond (eqb l.call 0) (decimal l.code) (codes "-"))

-- behind `total`: "requests, granted, denied, otherwise refused and 100s"
abbrev pub totals_text : Totals → List ℕ
totals_text t =
    decimal t.requests
    ++ (codes " " ++ (decimal t.granted ++ (codes " " ++ (decimal t.denied ++ (codes " " ++ (decimal t.otherwise ++ (codes " " ++ decimal t.short)))))))
