-- A change of a phy leaves the field rules as they were, or leaves them holding. Assumes nothing.
use mathlib.Core.Path.{◌≡◌, refl, ◌∙◌}
use mathlib.Core.Logic.{◌≢◌}
use mathlib.Core.Bool.{Bool, true, false, ◌&&◌, false≢true}
use Prim.Native.Nat.{ℕ}
use lib.Dec.{eqb, leb, ltb}
use lib.ListN.{length}
use borrow.Author.Tests.{eqb-true, ne_eqb}
use Rattle.laws.specs.Choice.{both, both_left, both_right}
use Rattle.phy.specs.declared.Phy.{Phy}
use Rattle.phy.specs.declared.PhyIdentifier.{PhyIdentifier}
use Rattle.phy.specs.Entity.{identifier_of, class_of, port_of, hardware_minimum, hardware_maximum, programmed_minimum, programmed_maximum, attached_of, attached_type, no_device, is_sata}
use Rattle.phy.specs.Change.{released, cleared, configured}
use Rattle.fields.specs.Rules.{is_rate, identify_holds, range_holds, rates_hold, empty_holds, device_holds, attached_hold, held_signature_holds, spinup_allowed, fields_hold}
use Rattle.phy.proofs.KeptLaws.{Kept, Settings}
use Rattle.phy.proofs.ChangedLaws.{kept_configured, spinup_configured, class_configured, minimum_configured, maximum_configured, kept_released, kept_cleared, settings_cleared}

pub fields_kept : (a b : Phy) (n : PhyIdentifier) (p : ℕ) → Kept a b → Settings a b → fields_hold b n p ≡ fields_hold a n p
unfolding fields_hold identify_holds rates_hold range_holds attached_hold empty_holds device_holds held_signature_holds spinup_allowed
fields_kept a b n p k s = cc

range_kept : (a b : Phy) (minimum maximum : ℕ) → Kept a b → range_holds b minimum maximum ≡ range_holds a minimum maximum
unfolding range_holds
range_kept a b minimum maximum k = cc

pub fields_cleared : (phy : Phy) (n : PhyIdentifier) (p : ℕ) → fields_hold (cleared phy) n p ≡ fields_hold phy n p
fields_cleared phy n p = fields_kept phy (cleared phy) n p (kept_cleared phy) (settings_cleared phy)

-- ---- held at spin_up

-- W-205: "may be 1 on a SATA phy"
allowed : (phy : Phy) → spinup_allowed phy ≡ true → phy.spinup_hold ≢ 0 → (phy.spinup_hold ≡ 1) × (is_sata phy ≡ true)
unfolding spinup_allowed
allowed phy e d =
    let b : eqb phy.spinup_hold 1 && is_sata phy ≡ true = rw (ne_eqb phy.spinup_hold 0 d) at e in
    (eqb-true phy.spinup_hold 1 (both_left (eqb phy.spinup_hold 1) (is_sata phy) b), both_right (eqb phy.spinup_hold 1) (is_sata phy) b)

pub spinup_sata : (phy : Phy) (n : PhyIdentifier) (p : ℕ) → fields_hold phy n p ≡ true → phy.spinup_hold ≢ 0 → (phy.spinup_hold ≡ 1) × (is_sata phy ≡ true)
unfolding fields_hold
spinup_sata phy n p f =
    allowed phy (both_right (identify_holds phy n p && rates_hold phy && attached_hold phy && leb phy.held 1 && leb phy.fixed 1 && held_signature_holds phy) (spinup_allowed phy) f)

-- ---- no longer held at spin_up

module _ (phy : Phy) where
  pub range_released : (minimum maximum : ℕ) → range_holds (released phy) minimum maximum ≡ range_holds phy minimum maximum
  range_released minimum maximum = range_kept phy (released phy) minimum maximum (kept_released phy)

  -- any phy may be released
  pub fields_released : (n : PhyIdentifier) (p : ℕ) → fields_hold phy n p ≡ true → fields_hold (released phy) n p ≡ true
  unfolding released fields_hold identify_holds rates_hold range_holds attached_hold empty_holds device_holds held_signature_holds spinup_allowed identifier_of class_of port_of hardware_minimum hardware_maximum programmed_minimum programmed_maximum attached_of attached_type no_device is_sata
  fields_released n p f =
      let rest : Bool = identify_holds phy n p && rates_hold phy && attached_hold phy && leb phy.held 1 && leb phy.fixed 1 && held_signature_holds phy in
      both rest true (both_left rest (spinup_allowed phy) f) refl

-- ---- another class and other programmed rates

-- a test among others exchanged for one that holds: the middle, the last and the first of them
exchanged_middle : (a x y b : Bool) → y ≡ true → a && x && b ≡ true → a && y && b ≡ true
exchanged_middle a x y b q p = both (a && y) b (both a y (both_left a x (both_left (a && x) b p)) q) (both_right (a && x) b p)

exchanged_last : (a x y : Bool) → y ≡ true → a && x ≡ true → a && y ≡ true
exchanged_last a x y q p = both a y (both_left a x p) q

exchanged_first : (x y a h f s t : Bool) → (x ≡ true → y ≡ true) → x && a && h && f && s && t ≡ true → y && a && h && f && s && t ≡ true
exchanged_first true y a h f s t q p = rw (q refl) p
exchanged_first false y a h f s t q p = absurd (false≢true p)

identify_by : (a b : Phy) (n : PhyIdentifier) (p : ℕ) → Kept a b → leb (class_of b) 3 ≡ true → identify_holds a n p ≡ true → identify_holds b n p ≡ true
unfolding identify_holds
identify_by a b n p k c h =
    rw (k.identifier, k.port)
    (exchanged_middle (eqb (identifier_of a).0 n.0) (leb (class_of a) 3) (leb (class_of b) 3) (ltb (port_of a).0 p) c h)

rates_by : (a b : Phy) → Kept a b → range_holds a (programmed_minimum b) (programmed_maximum b) ≡ true → rates_hold a ≡ true → rates_hold b ≡ true
unfolding rates_hold
rates_by a b k r h =
    let e : range_holds b (programmed_minimum b) (programmed_maximum b) ≡ true = range_kept a b (programmed_minimum b) (programmed_maximum b) k ∙ r in
    rw (k.minimum, k.maximum)
    (exchanged_last (is_rate (hardware_minimum a) && is_rate (hardware_maximum a)) (range_holds a (programmed_minimum a) (programmed_maximum a))
    (range_holds b (programmed_minimum b) (programmed_maximum b)) e h)

fields_by : (a b : Phy) (n : PhyIdentifier) (p : ℕ) → Kept a b → b.spinup_hold ≡ a.spinup_hold → leb (class_of b) 3 ≡ true
    → range_holds a (programmed_minimum b) (programmed_maximum b) ≡ true → fields_hold a n p ≡ true → fields_hold b n p ≡ true
unfolding fields_hold attached_hold empty_holds device_holds held_signature_holds spinup_allowed
fields_by a b n p k g c r f =
    cc
    (exchanged_first (identify_holds a n p && rates_hold a) (identify_holds b n p && rates_hold b) (attached_hold a) (leb a.held 1) (leb a.fixed 1) (held_signature_holds a) (spinup_allowed a)
    (λ h. both (identify_holds b n p) (rates_hold b) (identify_by a b n p k c (both_left (identify_holds a n p) (rates_hold a) h))
    (rates_by a b k r (both_right (identify_holds a n p) (rates_hold a) h)))
    f)

-- class 0–3 and rates that the hardware allows
pub fields_configured : (phy : Phy) (class minimum maximum : ℕ) (n : PhyIdentifier) (p : ℕ) → length phy.entity ≡ 64 → leb class 3 ≡ true
    → range_holds phy minimum maximum ≡ true → fields_hold phy n p ≡ true → fields_hold (configured phy class minimum maximum) n p ≡ true
fields_configured phy class minimum maximum n p e c r f =
    fields_by phy (configured phy class minimum maximum) n p (kept_configured phy class minimum maximum e) (spinup_configured phy class minimum maximum)
    (rw (class_configured phy class minimum maximum e) c)
    (rw (minimum_configured phy class minimum maximum e, maximum_configured phy class minimum maximum e) r) f
