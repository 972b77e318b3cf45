-- Code 20, get phy info (6.7). Assumes nothing.
use Rattle.std.specs.Prelude.{List, [], ◌∷◌, ℕ, get_or}
use Rattle.laws.specs.Flat.{pieces}
use Rattle.laws.specs.Splice.{splice}
use Rattle.phy.specs.declared.Phy.{Phy}
use Rattle.phy.specs.Block.{no_phy}
use Rattle.reports.specs.Report.{Report, filled}

-- phy n's PHY_ENTITY
abbrev pub entity_at : List Phy → ℕ → List ℕ
entity_at phys n = (get_or phys n no_phy).entity

-- the 32 PHY_ENTITY: "phys from p on .. are zero"
unfoldable pub entities : List Phy → ℕ → List ℕ
entities phys p = pieces (entity_at phys) p 64 32 0

-- "fill Information": the phy count and the "reserved bytes of the phy count's word", then the entities
unfoldable pub phy_info : List Phy → ℕ → List ℕ → Report
phy_info phys p body = filled (splice (splice body 0 (p ∷ 0 ∷ 0 ∷ 0 ∷ [])) 4 (entities phys p))
