-- The field rules of one phy (document 01, "Adapter file", "Field rules"; W-205), in the document's order. Assumes nothing.
use Rattle.std.specs.Prelude.{Bool, cond, ◌&&◌, ◌||◌, ℕ, eqb, leb, ltb, get_or}
use Rattle.laws.specs.All.{all_to}
use Rattle.codes.specs.Codes.{link_rate_1_5, link_rate_3_0, end_device, edge_expander, fanout_expander}
use Rattle.wire.specs.Same.{all_zero}
use Rattle.phy.specs.declared.Phy.{Phy}
use Rattle.phy.specs.declared.PhyIdentifier.{PhyIdentifier}
use Rattle.phy.specs.Entity.{identifier_of, class_of, port_of, hardware_minimum, hardware_maximum, programmed_minimum, programmed_maximum, attached_of, attached_type, no_device, is_sata}

-- "Identify's phy identifier = n, its signal class 0–3", and "Port identifier < p"
unfoldable pub identify_holds : Phy → PhyIdentifier → ℕ → Bool
identify_holds phy n p = eqb (identifier_of phy).0 n.0 && leb (class_of phy) 3 && ltb (port_of phy).0 p

-- "Rate codes are 8 (1.5 Gb/s) and 9 (3.0)"
unfoldable pub is_rate : ℕ → Bool
is_rate code = eqb code link_rate_1_5 || eqb code link_rate_3_0

-- two rate codes, in "hardware minimum ≤ programmed minimum ≤ programmed maximum ≤ hardware maximum"
unfoldable pub in_range : ℕ → ℕ → ℕ → ℕ → Bool
in_range least minimum maximum most = is_rate minimum && is_rate maximum && leb least minimum && leb minimum maximum && leb maximum most

-- the same of two rates that the phy is to be programmed with
unfoldable pub range_holds : Phy → ℕ → ℕ → Bool
range_holds phy minimum maximum = in_range (hardware_minimum phy) minimum maximum (hardware_maximum phy)

-- the four rates of a phy are rate codes in that order
unfoldable pub rates_hold : Phy → Bool
rates_hold phy =
    is_rate (hardware_minimum phy) && is_rate (hardware_maximum phy) && range_holds phy (programmed_minimum phy) (programmed_maximum phy)

-- "With none, the 28 Attached bytes, bytes 80–100 and the device rates are 0"
unfoldable pub empty_holds : Phy → Bool
empty_holds phy = all_zero (attached_of phy) && all_zero phy.signature && eqb phy.held 0 && eqb phy.lowest 0 && eqb phy.highest 0

-- "10h end device, 20h edge, 30h fanout expander"; "otherwise lowest ≤ highest, each 8 or 9"
unfoldable pub device_holds : Phy → Bool
device_holds phy =
    (eqb (attached_type phy) end_device || eqb (attached_type phy) edge_expander || eqb (attached_type phy) fanout_expander)
    && is_rate phy.lowest
    && is_rate phy.highest
    && leb phy.lowest phy.highest

unfoldable pub attached_hold : Phy → Bool
attached_hold phy = cond (no_device phy) (empty_holds phy) (device_holds phy)

-- "only it may hold a signature, and bytes 80–99 are 0 if it holds none"
unfoldable pub held_signature_holds : Phy → Bool
held_signature_holds phy = cond (eqb phy.held 1) (is_sata phy) (all_zero phy.signature)

-- W-205: "Byte 104 of a phy block, so far 0, may be 1 on a SATA phy"
unfoldable pub spinup_allowed : Phy → Bool
spinup_allowed phy = eqb phy.spinup_hold 0 || (eqb phy.spinup_hold 1 && is_sata phy)

-- the field rules of phy n among p, but for the negotiated rate's; "signature held (0/1)", "fixed (0/1)"
unfoldable pub fields_hold : Phy → PhyIdentifier → ℕ → Bool
fields_hold phy n p =
    identify_holds phy n p
    && rates_hold phy
    && attached_hold phy
    && leb phy.held 1
    && leb phy.fixed 1
    && held_signature_holds phy
    && spinup_allowed phy

-- "zero past p": every byte and every counter is 0
unfoldable pub phy_zero : Phy → Bool
phy_zero phy =
    all_zero phy.entity
    && all_to (λ i. eqb (get_or phy.counters i 0) 0) 4
    && all_zero phy.signature
    && eqb phy.held 0
    && eqb phy.fixed 0
    && eqb phy.lowest 0
    && eqb phy.highest 0
    && eqb phy.spinup_hold 0
