-- The phys' half of "zero past p and a", by name. Assumes nothing.
use Rattle.std.specs.Prelude.{Bool, List, ℕ, ◌+◌, ◌-◌, get_or}
use Rattle.laws.specs.All.{all_to}
use Rattle.phy.specs.declared.Phy.{Phy}
use Rattle.phy.specs.Block.{no_phy}
use Rattle.fields.specs.Rules.{phy_zero}

-- the phys' half of `zero_past`
unfoldable pub phys_past : List Phy → ℕ → Bool
phys_past phys p = all_to (λ (i : ℕ). phy_zero (get_or phys (p + i) no_phy)) (32 - p)
