-- What storing one phy keeps of an adapter, and what the rules say of each phy: laws for the layers above. Assumes nothing.
use mathlib.Core.Path.{◌≡◌, refl, sym, ◌∙◌, ap}
use mathlib.Core.Logic.{◌≢◌}
use mathlib.Core.Bool.{Bool, true, ◌&&◌}
use Prim.Native.Nat.{ℕ, ◌+◌, ◌-◌, ◌<◌, ◌≤◌}
use native.Mathlib.Omega.{arith}
use native.Mathlib.Decide.{ℕ_discrete}
use lib.Dec.{leb}
use lib.ListN.{length, get_or, set}
use lib.Seq.{get_or-set_same, get_or-set_other}
use borrow.Author.Tests.{leb-true}
use Rattle.laws.specs.Choice.{both, both_left, both_right}
use Rattle.laws.specs.All.{all_to, all_at, all_by, all_same}
use Rattle.phy.specs.declared.Phy.{Phy}
use Rattle.phy.specs.Block.{no_phy}
use Rattle.fields.specs.Rules.{fields_hold, phy_zero}
use Rattle.rows.specs.Row.{zero_from}
use Rattle.connectors.specs.Connector.{pinouts_hold, connectors_past}
use Rattle.adapter.specs.Adapter.{Adapter, phy_in, with_phy, counts_hold, fields_all, zero_past}

-- the phy stored, and every other
pub phy_stored : (ad : Adapter) (n : ℕ) (phy : Phy) → n < length ad.phys → phy_in (with_phy ad n phy) n ≡ phy
unfolding with_phy
phy_stored ad n phy h = get_or-set_same ad.phys n phy no_phy h

pub phy_other : (ad : Adapter) (n m : ℕ) (phy : Phy) → m ≢ n → phy_in (with_phy ad n phy) m ≡ phy_in ad m
unfolding with_phy
phy_other ad n m phy h = get_or-set_other ad.phys n m phy no_phy h

-- the counts and the rows
pub counts_stored : (ad : Adapter) (n : ℕ) (phy : Phy)
    → ((with_phy ad n phy).phy_count ≡ ad.phy_count) × ((with_phy ad n phy).row_count ≡ ad.row_count)
unfolding with_phy
counts_stored ad n phy = (refl, refl)

pub rows_stored : (ad : Adapter) (n : ℕ) (phy : Phy) → (with_phy ad n phy).rows ≡ ad.rows
unfolding with_phy
rows_stored ad n phy = refl

-- the field rules of each phy
pub fields_at : (ad : Adapter) (n : ℕ) → fields_all ad ≡ true → n < ad.phy_count
    → fields_hold (phy_in ad n) (record { 0 = n }) ad.phy_count ≡ true
unfolding fields_all
fields_at ad n p h =
    all_at (λ (i : ℕ). fields_hold (phy_in ad i) (record { 0 = i }) ad.phy_count) ad.phy_count n
    (both_left (all_to (λ (i : ℕ). fields_hold (phy_in ad i) (record { 0 = i }) ad.phy_count) ad.phy_count) (pinouts_hold ad.connectors ad.phy_count) p) h

-- a test that each phy below p passes, and that a phy passes as phy n, is passed by each after that phy is stored
pub all_stored : (test : ℕ → Phy → Bool) (ad : Adapter) (n : ℕ) (phy : Phy) → n < length ad.phys
    → all_to (λ (i : ℕ). test i (phy_in ad i)) ad.phy_count ≡ true → test n phy ≡ true
    → all_to (λ (i : ℕ). test i (phy_in (with_phy ad n phy) i)) ad.phy_count ≡ true
unfolding with_phy
all_stored test ad n phy h p q =
    all_by (λ (i : ℕ). test i (get_or (set ad.phys n phy) i no_phy)) ad.phy_count (λ i l. at i l (ℕ_discrete i n))
  where
    at : (i : ℕ) → i < ad.phy_count → Dec (i ≡ n) → test i (get_or (set ad.phys n phy) i no_phy) ≡ true
    at i l (yes e) = rw (e, get_or-set_same ad.phys n phy no_phy h) q
    at i l (no d) = rw (get_or-set_other ad.phys n i phy no_phy d) (all_at (λ (j : ℕ). test j (phy_in ad j)) ad.phy_count i p l)

-- a phy that keeps the field rules may be stored
pub fields_stored : (ad : Adapter) (n : ℕ) (phy : Phy) → n < length ad.phys → fields_all ad ≡ true
    → fields_hold phy (record { 0 = n }) ad.phy_count ≡ true → fields_all (with_phy ad n phy) ≡ true
unfolding fields_all with_phy
fields_stored ad n phy h p q =
    let all : Bool = all_to (λ (i : ℕ). fields_hold (phy_in ad i) (record { 0 = i }) ad.phy_count) ad.phy_count in
    let pinouts : Bool = pinouts_hold ad.connectors ad.phy_count in
    both _ pinouts (all_stored (λ (i : ℕ) (x : Phy). fields_hold x (record { 0 = i }) ad.phy_count) ad n phy h (both_left all pinouts p) q)
    (both_right all pinouts p)

-- storing a phy below p changes nothing past p
pub zero_stored : (ad : Adapter) (n : ℕ) (phy : Phy) → n < ad.phy_count → zero_past (with_phy ad n phy) ≡ zero_past ad
unfolding zero_past with_phy
zero_stored ad n phy h =
    ap (λ (b : Bool). b && zero_from ad.rows ad.row_count && connectors_past ad.connectors ad.phy_count)
    (all_same (λ (i : ℕ). phy_zero (get_or (set ad.phys n phy) (ad.phy_count + i) no_phy)) (λ (i : ℕ). phy_zero (phy_in ad (ad.phy_count + i))) (32 - ad.phy_count)
    (λ i l. ap phy_zero (get_or-set_other ad.phys n (ad.phy_count + i) phy no_phy (λ e. omega arith))))

-- what the counts' rule says, of a test r that came out true
pub phys_bound : (p a : ℕ) (r : Bool) → r ≡ counts_hold p a → r ≡ true → p ≤ 32
unfolding counts_hold
phys_bound p a r e t = leb-true p 32 (both_right (leb 1 p) (leb p 32) (both_left (leb 1 p && leb p 32) (leb a 64) (sym e ∙ t)))

pub rows_bound : (p a : ℕ) (r : Bool) → r ≡ counts_hold p a → r ≡ true → a ≤ 64
unfolding counts_hold
rows_bound p a r e t = leb-true a 64 (both_right (leb 1 p && leb p 32) (leb a 64) (sym e ∙ t))
