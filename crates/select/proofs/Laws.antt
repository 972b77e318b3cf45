-- What is proved of the definitions in specs/Laws.antt. Assumes nothing.
use mathlib.Core.Path.{◌≡◌, refl, sym, ◌∙◌, ap}
use mathlib.Core.Bool.{Bool, true, false, ◌&&◌, not}
use Prim.Native.Nat.{ℕ, ◌<◌, ◌≤◌}
use native.Mathlib.Omega.{arith}
use lib.Dec.{eqb, leb}
use borrow.Author.Tests.{le-leb, leb-false}
use Rattle.laws.specs.Choice.{by_bool, not_false, either_by, came_else}
use Rattle.phy.specs.declared.PhyIdentifier.{PhyIdentifier}
use Rattle.phy.specs.declared.PortIdentifier.{PortIdentifier}
use Rattle.adapter.specs.Adapter.{Adapter}
use Rattle.select.specs.Select.{Selection, phy_given, port_given, selection, select_by, select_in}
use Rattle.select.specs.Past.{selection_past}

-- a phy identifier by its number
identifier : ℕ → PhyIdentifier
identifier n = record { 0 = n }

pub identifier_by : (r : ℕ) (x : PhyIdentifier) → r ≡ x.0 → record { 0 = r } ≡ x
unfolding identifier
identifier_by r x e = ap identifier e

pub selection_past_lem : (phy : PhyIdentifier) (port : PortIdentifier) (p : ℕ) (lowest : PhyIdentifier) (own : PortIdentifier) (r : Selection) → p ≤ phy.0
    → r ≡ selection_past phy port p lowest → r ≡ selection phy port p lowest own
unfolding selection selection_past
selection_past_lem phy port p lowest own r h e =
    e
    ∙ by_bool (λ (g : Bool). phy_given phy ≡ g → selection_past phy port p lowest ≡ selection phy port p lowest own)
    (λ g. rw (g, le-leb p phy.0 h) refl) (λ g. rw g refl) (phy_given phy) refl

-- the phy's own port does not matter then
pub selection_portful : (phy : PhyIdentifier) (port : PortIdentifier) (p : ℕ) (lowest : PhyIdentifier) (own own' : PortIdentifier) → p ≤ phy.0
    → selection phy port p lowest own ≡ selection phy port p lowest own'
selection_portful phy port p lowest own own' h =
    sym (selection_past_lem phy port p lowest own (selection_past phy port p lowest) h refl) ∙ selection_past_lem phy port p lowest own' (selection_past phy port p lowest) h refl

-- the lowest phy of a port that is not given does not matter
pub selection_portless : (phy : PhyIdentifier) (port : PortIdentifier) (p : ℕ) (lowest lowest' : PhyIdentifier) (own : PortIdentifier) (given : Bool) (r : Selection)
    → given ≡ port_given port → given ≡ false → r ≡ selection phy port p lowest own → r ≡ selection phy port p lowest' own
unfolding selection
selection_portless phy port p lowest lowest' own given r f h e =
    e
    ∙ by_bool (λ (g : Bool). phy_given phy ≡ g → selection phy port p lowest own ≡ selection phy port p lowest' own) (λ g. rw (g, ← f, h) refl)
    (λ g. rw (g, ← f, h) refl) (phy_given phy) refl

-- ---- a phy that was selected is below p

Accepts : Selection → Type 0
Accepts s = s.code ≡ 0

pub selected_below : (phy : PhyIdentifier) (port : PortIdentifier) (p : ℕ) (lowest : PhyIdentifier) (own : PortIdentifier)
    → (selection phy port p lowest own).code ≡ 0 → (selection phy port p lowest own).phy.0 < p
unfolding selection Accepts
selected_below phy port p lowest own h =
    let a = came_else Accepts (not (phy_given phy) && not (port_given port)) (λ e. omega arith) h in
    let b = came_else Accepts (phy_given phy && leb p phy.0) (λ e. omega arith) a.1 in
    let c = came_else Accepts (port_given port && leb p lowest.0) (λ e. omega arith) b.1 in
    let d = came_else Accepts (phy_given phy && port_given port && not (eqb own.0 port.0)) (λ e. omega arith) c.1 in
    rw (a.0, b.0, c.0, d.0)
    (either_by (λ (s : Selection). s.phy.0 < p) (phy_given phy) (λ e. leb-false p phy.0 (rw e at b.0))
    (λ e. let g : port_given port ≡ true = not_false (port_given port) (rw e at a.0) in
    leb-false p lowest.0 (rw g at c.0)))

module _ (ad : Adapter) (phy : PhyIdentifier) (port : PortIdentifier) (s : Selection) (e : s ≡ select_in ad phy port) (h : s.code ≡ 0) where
  pub below : s.phy.0 < ad.phy_count
  unfolding select_by
  below = rw e (selected_below phy port ad.phy_count _ _ (rw e at h))

  pub selected_phy : ad.phy_count ≤ 32 → s.phy.0 < 32
  selected_phy k = omega (arith, below)
