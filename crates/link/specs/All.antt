-- "Negotiated rate is 1 (disabled) or what the link rule gives", of every phy of an adapter. Assumes nothing.
use Rattle.std.specs.Prelude.{Bool, ℕ}
use Rattle.laws.specs.All.{all_to}
use Rattle.adapter.specs.Adapter.{Adapter, phy_in}
use Rattle.link.specs.Rule.{negotiated_holds}

unfoldable pub negotiated_all : Adapter → Bool
negotiated_all ad = all_to (λ (n : ℕ). negotiated_holds (phy_in ad n)) ad.phy_count
