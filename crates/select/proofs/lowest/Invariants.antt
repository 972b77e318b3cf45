use Rattle.std.proofs.Common.{◌≡◌, ◌-◌, ◌≤◌, eqb}
use Rattle.laws.specs.First.{first, first_from}
use Rattle.tables.specs.Tables.{tables_of}
use Rattle.select.specs.Select.{port_in}
use Rattle.select.proofs.lowest.Given as goal

abbrev pub invariant-loop-n : goal.invariant-loop-n
invariant-loop-n l =
    (l.n ≤ l.p) × (first (λ n. eqb (port_in (tables_of l.tables) n).0 l.port.0) l.p ≡ first_from (λ n. eqb (port_in (tables_of l.tables) n).0 l.port.0) l.n (l.p - l.n))
