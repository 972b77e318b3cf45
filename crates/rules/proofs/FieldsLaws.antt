-- What is proved of the definitions in specs/Fields.antt. Assumes nothing.
use mathlib.Core.Path.{◌≡◌, refl}
use mathlib.Core.Bool.{Bool, ◌&&◌}
use mathlib.Core.List.{List}
use Prim.Native.Nat.{ℕ}
use Rattle.laws.specs.Splice.{part}
use Rattle.connectors.specs.Connector.{connectors_size, connectors_of, pinouts_hold}
use Rattle.adapter.specs.Adapter.{fields_all}
use Rattle.tables.specs.Tables.{connectors_start, tables_of}
use Rattle.tables.proofs.Laws.{connectors_in}
use Rattle.rules.specs.Fields.{fields_to}

-- where p is the adapter's own, and the connectors are their part of the tables
pub fields_by : (t connectors : List ℕ) (p : ℕ) (r s : Bool) → p ≡ (tables_of t).phy_count → connectors ≡ part t connectors_start connectors_size
    → r ≡ fields_to (tables_of t) p → s ≡ pinouts_hold (connectors_of connectors) p → r && s ≡ fields_all (tables_of t)
unfolding fields_all fields_to
fields_by t connectors p r s e l q k = rw (q, k, e, l, connectors_in t) refl
