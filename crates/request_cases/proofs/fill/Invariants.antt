use Rattle.std.proofs.Common.{length, ◌*◌, ◌%◌, ◌≡◌, ◌<◌}
use Rattle.laws.specs.Splice.{splice}
use Rattle.laws.specs.Fill.{list_to}
use Rattle.case_lines.specs.Lines.{pattern_at}
use Rattle.request_cases.proofs.fill.Given as goal

abbrev pub invariant-loop-b : goal.invariant-loop-b
invariant-loop-b l =
    (length l.d ≡ length l.initial.d)
    × (l.v < 251)
    × (l.by < 251)
    × (l.v ≡ l.step * l.b-index % 251)
    × (l.by ≡ l.step % 251)
    × (l.d ≡ splice l.initial.d 0 (list_to (pattern_at l.step) l.b-index))
