-- The link rule, a link reset and a disabled phy (document 01, "Link rule", and "Field rules" of the negotiated rate; W-205).
-- Assumes nothing.
use Rattle.std.specs.Prelude.{Bool, cond, ◌&&◌, ◌||◌, ℕ, eqb, leb}
use Rattle.codes.specs.Codes.{phy_disabled, link_rate_failed, sata_spinup_hold, link_rate_1_5, link_rate_3_0}
use Rattle.phy.specs.declared.Phy.{Phy}
use Rattle.phy.specs.Entity.{no_device, negotiated_of, programmed_minimum, programmed_maximum}
use Rattle.phy.specs.Change.{raised, negotiated_as}
use Rattle.fields.specs.Rules.{is_rate}

-- a rate "inside both the programmed and the device range"
unfoldable pub in_both : ℕ → ℕ → ℕ → ℕ → ℕ → Bool
in_both rate minimum maximum lowest highest = leb minimum rate && leb rate maximum && leb lowest rate && leb rate highest

-- "With no device: 0. Else the highest rate inside both the programmed and the device range. If none: 2 (failed)"
unfoldable pub rates_rule : Bool → ℕ → ℕ → ℕ → ℕ → ℕ
rates_rule none minimum maximum lowest highest =
    cond none 0
    (cond (in_both link_rate_3_0 minimum maximum lowest highest) link_rate_3_0
    (cond (in_both link_rate_1_5 minimum maximum lowest highest) link_rate_1_5
    link_rate_failed))

-- the same of a phy, whatever its byte 104
unfoldable pub plain_rule : Phy → ℕ
plain_rule phy = rates_rule (no_device phy) (programmed_minimum phy) (programmed_maximum phy) phy.lowest phy.highest

-- W-205: "a link rule result of 8 or 9 becomes 3, spin-up hold",
unfoldable pub waiting_rate : ℕ → ℕ
waiting_rate rate = cond (is_rate rate) sata_spinup_hold rate

-- "For such a phy": one whose byte 104 is 1
unfoldable pub rule_of : Phy → ℕ
rule_of phy = cond (eqb phy.spinup_hold 1) (waiting_rate (plain_rule phy)) (plain_rule phy)

-- "A link reset that gives 2 adds one to the phy reset problem counter"
unfoldable pub counted : Phy → ℕ → Phy
counted phy rate = cond (eqb rate link_rate_failed) (raised phy) phy

unfoldable pub reset : Phy → Phy
reset phy = counted (negotiated_as phy (rule_of phy)) (rule_of phy)

unfoldable pub disabled : Phy → Phy
disabled phy = negotiated_as phy phy_disabled

-- "Negotiated rate is 1 (disabled) or what the link rule gives"
unfoldable pub negotiated_holds : Phy → Bool
negotiated_holds phy = eqb (negotiated_of phy) phy_disabled || eqb (negotiated_of phy) (rule_of phy)
