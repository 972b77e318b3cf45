-- What is proved of the definitions in specs/All.antt. Assumes nothing.
use mathlib.Core.Path.{◌≡◌}
use mathlib.Core.Bool.{Bool, true}
use Prim.Native.Nat.{ℕ, ◌<◌}
use lib.ListN.{length}
use Rattle.laws.specs.All.{all_to, all_at}
use Rattle.phy.specs.declared.Phy.{Phy}
use Rattle.adapter.specs.Adapter.{Adapter, phy_in, with_phy}
use Rattle.adapter.proofs.StoreLaws.{all_stored, counts_stored}
use Rattle.link.specs.Rule.{negotiated_holds}
use Rattle.link.specs.All.{negotiated_all}

pub all_by_count : (ad : Adapter) (p : ℕ) (r : Bool) → p ≡ ad.phy_count → r ≡ all_to (λ (n : ℕ). negotiated_holds (phy_in ad n)) p → r ≡ negotiated_all ad
unfolding negotiated_all
all_by_count ad p r e q = rw e at q

pub negotiated_at : (ad : Adapter) (n : ℕ) → negotiated_all ad ≡ true → n < ad.phy_count → negotiated_holds (phy_in ad n) ≡ true
unfolding negotiated_all
negotiated_at ad n p h = all_at (λ (i : ℕ). negotiated_holds (phy_in ad i)) ad.phy_count n p h

-- a phy that keeps the rule may be stored
pub negotiated_stored : (ad : Adapter) (n : ℕ) (phy : Phy) → n < length ad.phys → negotiated_all ad ≡ true → negotiated_holds phy ≡ true
    → negotiated_all (with_phy ad n phy) ≡ true
unfolding negotiated_all
negotiated_stored ad n phy h p q =
    rw (counts_stored ad n phy).0 (all_stored (λ (i : ℕ) (x : Phy). negotiated_holds x) ad n phy h p q)
