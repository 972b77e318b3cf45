-- What the proofs of this crate cite. Assumes nothing.
use mathlib.Core.Path.{◌≡◌, ap₂}
use mathlib.Core.List.{List}
use Prim.Native.Nat.{ℕ}
use Rattle.phy.specs.declared.Phy.{Phy}
use Rattle.phy.specs.declared.PhyIdentifier.{PhyIdentifier}
use Rattle.adapter.specs.Adapter.{Adapter, phy_in}
use Rattle.adapter.specs.Changed.{gives, leaves, with_body}
use Rattle.link_errors.specs.LinkErrors.{counters_shown, after_reset}

-- the phy that was read, its counters reported, and what the reset left
pub report_by : (ad bd : Adapter) (code : ℕ) (n : PhyIdentifier) (reset : ℕ) (phy : Phy) (body b : List ℕ) → phy ≡ phy_in ad n.0
    → b ≡ counters_shown body phy.counters → gives code bd ≡ after_reset ad n phy reset
    → leaves code bd b ≡ with_body (after_reset ad n (phy_in ad n.0) reset) (counters_shown body (phy_in ad n.0).counters)
report_by ad bd code n reset phy body b e p q = ap₂ with_body (rw e at q) (rw e at p)
