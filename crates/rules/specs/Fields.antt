-- The field rules of p phys, by name, since p stands under a λ. Assumes nothing.
use Rattle.std.specs.Prelude.{Bool, ℕ}
use Rattle.laws.specs.All.{all_to}
use Rattle.fields.specs.Rules.{fields_hold}
use Rattle.adapter.specs.Adapter.{Adapter, phy_in}

unfoldable pub fields_to : Adapter → ℕ → Bool
fields_to ad p = all_to (λ (n : ℕ). fields_hold (phy_in ad n) (record { 0 = n }) p) p
