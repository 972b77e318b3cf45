-- What the code of 30 leaves in the body. Assumes nothing.
use mathlib.Core.Path.{◌≡◌, refl, sym, ◌∙◌, ap}
use mathlib.Core.List.{List}
use Prim.Native.Nat.{ℕ, ◌-◌, ◌*◌, ◌≤◌}
use native.Mathlib.Nat.{add-zero}
use native.Mathlib.Omega.{arith}
use lib.ListN.{length}
use Rattle.laws.specs.Clear.{zeros}
use Rattle.laws.specs.Flat.{flat_to, pieces}
use Rattle.laws.specs.Splice.{part, splice, splice_next, length_part, part_part}
use Rattle.connectors.specs.Connector.{connectors_size, connector_at}
use Rattle.connectors.proofs.Laws.{connectors_flat}
use Rattle.tables.specs.Tables.{tables_size, connectors_start, tables_of}
use Rattle.tables.proofs.Laws.{connectors_in}
use Rattle.reports.specs.ConnectorInfo.{references}

-- the first p connectors of the tables are the first bytes of their place
below : (t : List ℕ) (p : ℕ) → p ≤ 32 → part t connectors_start (36 * p) ≡ flat_to (connector_at (tables_of t).connectors) p
below t p h =
    sym (ap (λ (c : List (List ℕ)). flat_to (connector_at c) p) (connectors_in t)
    ∙ connectors_flat (part t connectors_start connectors_size) p h
    ∙ part_part t connectors_start connectors_size 0 (36 * p) (omega arith)
    ∙ rw add-zero refl)

-- those copied, and zeros behind them
pub references_put : (t body b d : List ℕ) (p : ℕ) → p ≤ 32 → length t ≡ tables_size → 1152 ≤ length body → b ≡ splice body 0 (part t connectors_start (36 * p))
    → d ≡ splice b (36 * p) (zeros (36 * (32 - p))) → d ≡ splice body 0 (references (tables_of t).connectors p)
unfolding references pieces
references_put t body b d p h e l q r =
    r
    ∙ rw (q, splice_next body 0 (36 * p) (part t connectors_start (36 * p)) (zeros (36 * (32 - p))) (rw (length_part t connectors_start (36 * p) (omega arith)) (omega arith)) (omega arith), below t p h)
    refl
