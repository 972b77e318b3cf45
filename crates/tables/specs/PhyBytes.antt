-- The bytes of a phy, as they stand in its block of the adapter file and in the tables. Assumes nothing.
use Rattle.std.specs.Prelude.{List, [], ◌∷◌, ◌++◌, ℕ, get_or}
use Rattle.wire.specs.Number.{bytes}
use Rattle.phy.specs.declared.Phy.{Phy}

-- four numbers of 32 bits
unfoldable pub counter_bytes : List ℕ → List ℕ
counter_bytes c = bytes 4 (get_or c 0 0) ++ (bytes 4 (get_or c 1 0) ++ (bytes 4 (get_or c 2 0) ++ bytes 4 (get_or c 3 0)))

abbrev pub last_bytes : Phy → List ℕ
last_bytes phy = phy.held ∷ phy.fixed ∷ phy.lowest ∷ phy.highest ∷ phy.spinup_hold ∷ []

-- all of them
unfoldable pub phy_bytes : Phy → List ℕ
phy_bytes phy = phy.entity ++ (counter_bytes phy.counters ++ (phy.signature ++ last_bytes phy))
