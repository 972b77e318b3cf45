-- Which phy a code 25 selects (document 01, "Request", 25), by the ports of the phys below p. "A port identifier never stands for a
-- phy identifier": the two are of different types. Assumes nothing.
use Rattle.std.specs.Prelude.{Bool, cond, ◌&&◌, not, ℕ, eqb, leb}
use Rattle.laws.specs.First.{first}
use Rattle.codes.specs.Codes.{success, select_phy_or_port, phy_does_not_exist, port_does_not_exist, phy_does_not_match_port}
use Rattle.phy.specs.declared.PhyIdentifier.{PhyIdentifier}
use Rattle.phy.specs.declared.PortIdentifier.{PortIdentifier}
use Rattle.phy.specs.Entity.{port_of}
use Rattle.adapter.specs.Adapter.{Adapter, phy_in}

-- FFh stands for a phy or a port that is not given
unfoldable pub phy_given : PhyIdentifier → Bool
phy_given phy = not (eqb phy.0 0xff)

unfoldable pub port_given : PortIdentifier → Bool
port_given port = not (eqb port.0 0xff)

-- the phy that was selected, where code is 0
pub record Selection : Type 0 where
  pub code : ℕ
  pub phy : PhyIdentifier

-- a phy was selected; none was, and the code that says why
abbrev pub selected : PhyIdentifier → Selection
selected phy = record { code = success; phy = phy }

abbrev pub not_selected : ℕ → Selection
not_selected code = record { code = code; phy = record { 0 = 0 } }

-- "A port alone selects its lowest phy": the first phy below p whose port it is, or p
unfoldable pub lowest_of : (ℕ → PortIdentifier) → ℕ → PortIdentifier → PhyIdentifier
lowest_of ports p port = record { 0 = first (λ n. eqb (ports n).0 port.0) p }

-- "phy and port not both FFh; phy, if not FFh, below p; port, if not FFh, that of some phy; both given: that phy has that port":
-- with the lowest phy of the port, which is p where no phy has it, and the phy's own port
unfoldable pub selection : PhyIdentifier → PortIdentifier → ℕ → PhyIdentifier → PortIdentifier → Selection
selection phy port p lowest own =
    cond (not (phy_given phy) && not (port_given port)) (not_selected select_phy_or_port)
    (cond (phy_given phy && leb p phy.0) (not_selected phy_does_not_exist)
    (cond (port_given port && leb p lowest.0) (not_selected port_does_not_exist)
    (cond (phy_given phy && port_given port && not (eqb own.0 port.0)) (not_selected phy_does_not_match_port)
    (cond (phy_given phy) (selected phy) (selected lowest)))))

-- the same by the port of each phy below p
unfoldable pub select_by : (ℕ → PortIdentifier) → ℕ → PhyIdentifier → PortIdentifier → Selection
select_by ports p phy port = selection phy port p (lowest_of ports p port) (ports phy.0)

-- and in an adapter, whose phys have these ports
abbrev pub port_in : Adapter → ℕ → PortIdentifier
port_in ad n = port_of (phy_in ad n)

abbrev pub select_in : Adapter → PhyIdentifier → PortIdentifier → Selection
select_in ad phy port = select_by (port_in ad) ad.phy_count phy port
