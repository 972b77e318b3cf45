-- The connectors of an adapter's phys (W-204; 6.18 of CSMI): a reference of 36 bytes for each, the pinout in its first four, and their rules.
-- Assumes nothing.
use Rattle.std.specs.Prelude.{Bool, List, [], ℕ, ◌+◌, ◌-◌, ◌*◌, get_or, replicate}
use Rattle.laws.specs.All.{all_to}
use Rattle.laws.specs.Fill.{list_to}
use Rattle.laws.specs.Splice.{part}
use Rattle.wire.specs.Same.{all_zero}
use Rattle.connectors.specs.Pinout.{pinout_holds}

-- the 32 references of 6.18.4.2, 36 bytes each, one behind the other
abbrev pub connectors_size : ℕ
connectors_size = 1152

abbrev pub connector_start : ℕ → ℕ
connector_start n = 36 * n

unfoldable pub connector_of : List ℕ → ℕ → List ℕ
connector_of bytes n = part bytes (connector_start n) 36

unfoldable pub connectors_of : List ℕ → List (List ℕ)
connectors_of bytes = list_to (connector_of bytes) 32

-- what "References from p on are zero" asks of one
abbrev pub zero_connector : List ℕ
zero_connector = replicate 36 0

-- connector n of a list, and what stands past its end
abbrev pub connector_at : List (List ℕ) → ℕ → List ℕ
connector_at connectors n = get_or connectors n []

-- "free but for pinout bits outside section 10's pinout constants", of each phy's connector
unfoldable pub pinouts_hold : List (List ℕ) → ℕ → Bool
pinouts_hold connectors p = all_to (λ (n : ℕ). pinout_holds (connector_at connectors n)) p

-- "References from p on are zero", asked of a state
unfoldable pub connectors_past : List (List ℕ) → ℕ → Bool
connectors_past connectors p = all_to (λ (i : ℕ). all_zero (connector_at connectors (p + i))) (32 - p)
