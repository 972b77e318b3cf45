-- The selection where the phy is not below p. Assumes nothing.
use Rattle.std.specs.Prelude.{cond, ◌&&◌, not, ℕ, leb}
use Rattle.codes.specs.Codes.{select_phy_or_port, phy_does_not_exist, port_does_not_exist}
use Rattle.phy.specs.declared.PhyIdentifier.{PhyIdentifier}
use Rattle.phy.specs.declared.PortIdentifier.{PortIdentifier}
use Rattle.select.specs.Select.{Selection, phy_given, port_given, not_selected, selected}

-- ---- a phy that does not exist has no port to look at

-- the selection where the phy is not below p: it is not given, or there is no such phy
unfoldable pub selection_past : PhyIdentifier → PortIdentifier → ℕ → PhyIdentifier → Selection
selection_past phy port p lowest =
    cond (not (phy_given phy) && not (port_given port)) (not_selected select_phy_or_port)
    (cond (phy_given phy) (not_selected phy_does_not_exist)
    (cond (port_given port && leb p lowest.0) (not_selected port_does_not_exist)
    (selected lowest)))
