use Rattle.std.proofs.Common.{◌≡◌, ◌*◌, length}
use Rattle.laws.specs.Flat.{flat_to, pieces}
use Rattle.contents.proofs.fill_section.Given as goal

abbrev pub invariant-loop-i : goal.invariant-loop-i
invariant-loop-i g l =
    (l.section ≡ pieces g.entry l.i g.row.W g.row.N 0)
    × (length (flat_to g.entry l.i) ≡ g.row.W * l.i)
    × (length l.section ≡ g.row.W * g.row.N)
